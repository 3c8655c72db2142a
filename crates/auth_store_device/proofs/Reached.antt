-- What one change makes of an image.
use Rattle.std.proofs.Common.{◌≡◌, ◌⊎◌, ℕ, ◌+◌, ◌-◌, ◌<◌, ◌≤◌, max}
use Rattle.std.proofs.Common.{min, Bool, true, false, not, List, [], ◌∷◌, length, get_or, drop}
use Rattle.std.proofs.Common.{sym, ◌∙◌, ap, inl, inr, ⊎_elim, refl, subst, arith}
use Rattle.std.proofs.lemmas.List.{ext_get_or, get_or_past, length-drop}
use Rattle.std.proofs.lemmas.Bool.{cases_lt, and_from, and_left, and_right, or_left, or_right, eq-eqb, eqb-true, le-leb, lt-leb, lt-ltb, le-ltb, not_from_false}
use Rattle.std.proofs.lemmas.Nat.{mod_below}
use Rattle.fault_storage_parts.specs.Draws.{length_between}
use Rattle.fault_storage_parts.specs.Files.{with_kept}
use Rattle.paged_blob_parts.specs.Calls.{Change, write, resize, resized, changed, whole, File, after_change}
use Rattle.paged_blob_parts.specs.Images.{may_give, may_leave, may_hold, least_length, greatest_length, IsImage, IsReached, IsLive}
use Rattle.paged_blob_parts.proofs.Bytes.{length-resized, resized_in, resized_out, length-with_bytes}
use Rattle.paged_blob_parts.proofs.Live.{one_live}
use Rattle.auth_store_device.proofs.Bytes.{behind-at, torn_byte, torn_long}

-- the base itself, where nothing has changed
pub reached_base : (base : List ℕ) (failed : Bool) → IsReached (record { base = base; changes = []; failed = failed }) base
reached_base base failed = record { no_shorter = omega arith; no_longer = omega arith; each = λ i. eq-eqb _ _ refl }

pub live_base : (bytes : List ℕ) → IsLive (record { base = bytes; changes = []; failed = false }) bytes
live_base bytes = record { reached = reached_base bytes false; content = λ none. refl }

-- a byte that the change gave, or left
held : (base : List ℕ) (changes : List Change) (change : Change) (i old new : ℕ) → may_hold base changes i old ≡ true
    → (may_give change i new ≡ true) ⊎ ((may_leave change i ≡ true) × (new ≡ old)) → may_hold base (change ∷ changes) i new ≡ true
held base changes change i old new before (inl gives) = or_left _ _ gives
held base changes change i old new before (inr (leaves, same)) =
    or_right (may_give change i new) _ (and_from _ _ leaves (ap (may_hold base changes i) same ∙ before))

whole_length : (file : File) (bytes : List ℕ) (change : Change) → IsReached file bytes
    → (least_length file.base (change ∷ file.changes) ≤ length (changed change bytes))
    × (length (changed change bytes) ≤ greatest_length file.base (change ∷ file.changes))
whole_length file bytes (write offset laid kept) r =
    let now = length-with_bytes offset laid bytes in
    let then = length-with_bytes offset laid (whole file.base file.changes) in
    (omega (arith, r.no_shorter, now), omega (arith, r.no_longer, now, then))
whole_length file bytes (resize size) r =
    let now = length-resized size bytes in
    let then = length-resized size (whole file.base file.changes) in
    (omega (arith, now, then), omega (arith, now, then))

-- a change, whole
pub reached_whole : (file : File) (bytes : List ℕ) (change : Change) (ok : Bool) → IsReached file bytes
    → IsReached (after_change change ok file) (changed change bytes)
reached_whole file bytes change ok r = record {
  no_shorter = (whole_length file bytes change r).0;
  no_longer = (whole_length file bytes change r).1;
  each = λ i. held file.base file.changes change i (get_or bytes i 0) (get_or (changed change bytes) i 0) (r.each i) (one_live change bytes i);
}

-- a resize of which nothing is kept
pub reached_same : (file : File) (bytes : List ℕ) (size : ℕ) (ok : Bool) → IsReached file bytes → IsReached (after_change (resize size) ok file) bytes
reached_same file bytes size ok r = record {
  no_shorter = omega (arith, r.no_shorter);
  no_longer = omega (arith, r.no_longer);
  each = λ i. held file.base file.changes (resize size) i (get_or bytes i 0) (get_or bytes i 0) (r.each i) (inr (refl, refl));
}

no_bytes : (offset i : ℕ) (kept : Bool) → may_leave (write offset [] kept) i ≡ true
no_bytes offset i kept =
    ⊎_elim
    (λ before. or_right (not kept) _ (not_from_false _ (and_left _ _ (lt-leb offset i before))))
    (λ from. or_right (not kept) _ (not_from_false _ (and_right _ _ (le-ltb i (offset + 0) (omega (arith, from))))))
    (cases_lt i offset)

-- an empty write, of which no byte is kept
pub reached_empty : (file : File) (bytes : List ℕ) (offset : ℕ) (kept ok : Bool) → IsReached file bytes
    → IsReached (after_change (write offset [] kept) ok file) bytes
reached_empty file bytes offset kept ok r = record {
  no_shorter = omega (arith, r.no_shorter);
  no_longer = omega (arith, r.no_longer);
  each = λ i. held file.base file.changes (write offset [] kept) i (get_or bytes i 0) (get_or bytes i 0) (r.each i) (inr (no_bytes offset i kept, refl));
}

-- bytes of a write, of those of a file behind its header
pub reached_torn : (file : File) (bytes : List ℕ) (offset : ℕ) (laid : List ℕ) (kept : List Bool) (ok : Bool) → IsReached file (drop 8 bytes)
    → IsReached (after_change (write offset laid false) ok file) (drop 8 (with_kept (8 + offset) laid kept bytes))
reached_torn file bytes offset laid kept ok r =
    let new = with_kept (8 + offset) laid kept bytes in
    let long = torn_long laid kept bytes (8 + offset) in
    let then = length-with_bytes offset laid (whole file.base file.changes) in
    record {
      no_shorter = omega (arith, r.no_shorter, long.0, length-drop 8 bytes, length-drop 8 new);
      no_longer = omega (arith, r.no_longer, long.1, length-drop 8 bytes, length-drop 8 new, then);
      each = λ i. held file.base file.changes (write offset laid false) i (get_or (drop 8 bytes) i 0) (get_or (drop 8 new) i 0) (r.each i)
          (⊎_elim
          (λ same. inr (refl, behind-at new i ∙ same ∙ sym (behind-at bytes i)))
          (λ (from, below, is).
          let at : 8 + i - (8 + offset) ≡ i - offset = omega arith in
          inl (and_from _ _ (and_from _ _ (le-leb offset i (omega (arith, from))) (lt-ltb i (offset + length laid) (omega (arith, below))))
          (eq-eqb _ _ (behind-at new i ∙ is ∙ ap (λ k. get_or laid k 0) at))))
          (torn_byte laid kept bytes (8 + offset) (8 + i)));
    }

-- the length lies between that of the live bytes and the one asked for
abbrev pub IsBetween : ℕ → ℕ → ℕ → Type 0
IsBetween old asked reached = ((asked ≤ reached) × (reached ≤ old)) ⊎ ((old ≤ reached) × (reached ≤ asked))

between_each : (file : File) (live bytes : List ℕ) (asked reached i : ℕ) → IsReached file live → IsReached file bytes
    → IsBetween (length live) asked reached
    → may_hold file.base (resize asked ∷ file.changes) i (get_or (resized reached bytes) i 0) ≡ true
between_each file live bytes asked reached i l r is =
    let now = get_or (resized reached bytes) i 0 in
    ⊎_elim
    (λ below. held file.base file.changes (resize asked) i (get_or bytes i 0) now (r.each i) (inr (refl, resized_in reached bytes i below)))
    (λ past. ⊎_elim
    (λ shrunk. held file.base file.changes (resize asked) i (get_or bytes i 0) now (r.each i)
    (inl (and_from _ _ (le-leb asked i (omega (arith, shrunk.0, past))) (eq-eqb _ _ (resized_out reached bytes i past)))))
    (λ grown. held file.base file.changes (resize asked) i (get_or live i 0) now (l.each i)
    (inr (refl, resized_out reached bytes i past ∙ sym (get_or_past live i 0 (omega (arith, grown.0, past))))))
    is)
    (cases_lt i reached)

-- A failed resize leaves a length between. What a crash left may be longer than the live bytes: it is zero behind them, which the
-- live bytes witness.
pub reached_between : (file : File) (live bytes : List ℕ) (asked reached : ℕ) (ok : Bool) → IsReached file live → IsReached file bytes
    → IsBetween (length live) asked reached → IsReached (after_change (resize asked) ok file) (resized reached bytes)
reached_between file live bytes asked reached ok l r is =
    let now = length-resized reached bytes in
    let then = length-resized asked (whole file.base file.changes) in
    record {
      no_shorter = ⊎_elim (λ shrunk. omega (arith, now, then, shrunk.0)) (λ grown. omega (arith, now, then, grown.0, l.no_shorter)) is;
      no_longer = ⊎_elim (λ shrunk. omega (arith, now, then, shrunk.1, l.no_longer)) (λ grown. omega (arith, now, then, grown.1)) is;
      each = λ i. between_each file live bytes asked reached i l r is;
    }

pub between_is : (old asked word : ℕ) → min old asked + 1 < max old asked → IsBetween old asked (length_between (min old asked) (max old asked) word)
between_is old asked word far =
    let below = mod_below word (max old asked - min old asked - 1) (omega (arith, far)) in
    ⊎_elim
    (λ lt. inr (omega (arith, lt, below), omega (arith, lt, below)))
    (λ le. inl (omega (arith, le, below), omega (arith, le, below)))
    (cases_lt old asked)

-- what a crash may leave of a file that has not changed is its base
pub image_settled : (file : File) (image : List ℕ) → file.changes ≡ [] → IsImage file image → image ≡ file.base
image_settled file image none is =
    let low : length file.base ≤ length image = subst (λ c. least_length file.base c ≤ length image) none is.no_shorter in
    let high : length image ≤ length file.base = subst (λ c. length image ≤ greatest_length file.base c) none is.no_longer in
    ext_get_or 0 image file.base (omega (arith, low, high))
    (λ i below. eqb-true _ _ (subst (λ c. may_hold file.base c i (get_or image i 0) ≡ true) none (is.each i below)))
