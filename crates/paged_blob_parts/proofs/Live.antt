-- The content may be left: a crash may keep all.
use Rattle.std.proofs.Common.{◌≡◌, ◌⊎◌, ℕ, ◌+◌, ◌≤◌, true, not, List, [], ◌∷◌, length, get_or, ◌∙◌, ap}
use Rattle.std.proofs.Common.{inl, inr, ⊎_elim, refl, arith}
use Rattle.std.proofs.lemmas.Bool.{cases_lt, and_from, and_left, and_right, or_left, or_right, eq-eqb, le-leb, lt-ltb, le-ltb, lt-leb, not_from_false}
use Rattle.paged_blob_parts.specs.Calls.{Change, write, resize, changed, whole, File}
use Rattle.paged_blob_parts.specs.Images.{may_give, may_leave, may_hold, least_length, greatest_length, IsImage, IsReached, IsLive}
use Rattle.paged_blob_parts.proofs.Bytes.{resized_in, resized_out, with_bytes_in, with_bytes_before, with_bytes_behind}

-- a change gives a byte its value in the whole file, or leaves it as it was
pub one_live : (change : Change) (file : List ℕ) (i : ℕ)
    → (may_give change i (get_or (changed change file) i 0) ≡ true)
    ⊎ ((may_leave change i ≡ true) × (get_or (changed change file) i 0 ≡ get_or file i 0))
one_live (write offset bytes kept) file i =
    ⊎_elim
    (λ before. inr (or_right (not kept) _ (not_from_false _ (and_left _ _ (lt-leb offset i before))), with_bytes_before offset bytes file i before))
    (λ from. ⊎_elim
    (λ below. inl (and_from _ _ (and_from _ _ (le-leb offset i from) (lt-ltb i (offset + length bytes) below)) (eq-eqb _ _ (with_bytes_in offset
    bytes file i from below))))
    (λ past.
    inr (or_right (not kept) _ (not_from_false _ (and_right _ _ (le-ltb i (offset + length bytes) past))), with_bytes_behind offset bytes file i past))
    (cases_lt i (offset + length bytes)))
    (cases_lt i offset)
one_live (resize size) file i =
    ⊎_elim
    (λ below. inr (refl, resized_in size file i below))
    (λ past. inl (and_from _ _ (le-leb size i past) (eq-eqb _ _ (resized_out size file i past))))
    (cases_lt i size)

whole_held : (base : List ℕ) (changes : List Change) (i : ℕ) → may_hold base changes i (get_or (whole base changes) i 0) ≡ true
whole_held base [] i = eq-eqb _ _ refl
whole_held base (change ∷ earlier) i =
    let now = get_or (whole base (change ∷ earlier)) i 0 in
    ⊎_elim
    (λ gives. or_left _ _ gives)
    (λ (leaves, same). or_right (may_give change i now) _
    (and_from _ _ leaves (ap (may_hold base earlier i) same ∙ whole_held base earlier i)))
    (one_live change (whole base earlier) i)

pub whole_long : (base : List ℕ) (changes : List Change)
    → (least_length base changes ≤ length (whole base changes)) × (length (whole base changes) ≤ greatest_length base changes)
whole_long base [] = (omega arith, omega arith)
whole_long base (change ∷ earlier) = (omega arith, omega arith)

pub whole_live : (file : File) → IsLive file (whole file.base file.changes)
whole_live file = record {
  reached = record {
    no_shorter = (whole_long file.base file.changes).0;
    no_longer = (whole_long file.base file.changes).1;
    each = λ i. whole_held file.base file.changes i;
  };
  content = λ none. refl;
}

-- a reached file is an image
pub reached_image : (file : File) (bytes : List ℕ) → IsReached file bytes → IsImage file bytes
reached_image file bytes r = record { no_shorter = r.no_shorter; no_longer = r.no_longer; each = λ i below. r.each i }

pub whole_image : (file : File) → IsImage file (whole file.base file.changes)
whole_image file = reached_image file (whole file.base file.changes) (whole_live file).reached
