-- Calls stay as they are kept, while what a record holds gains bytes.
use Rattle.std.proofs.Common.{◌≡◌, true, ℕ, zero, suc, ◌<◌, List, [], ◌∷◌, ◌++◌, length, take, get_or, reverse}
use Rattle.std.proofs.Common.{sym, ◌∙◌, ap, refl, subst, arith, append_assoc}
use Rattle.std.proofs.lemmas.List.{append-nil, reverse-append}
use Rattle.paged_blob_parts.specs.Calls.{Call, opened, wrote, synced}
use Rattle.auth_store_device.specs.declared.kept.Kept.{Kept}
use Rattle.auth_store_device.specs.declared.kept.Kept.TheVariants.{Opened, Wrote, ResizedTo, SyncedWhole, SyncedAs, SyncFailed}
use Rattle.auth_store_device.specs.BlocksCode.{Held, Gains}
use Rattle.auth_store_device.specs.RecordsCode.{call_in, calls_in, HasItsBytes, KnowsBase, AreWithin}
use Rattle.auth_store_device.proofs.Helds.{bytes-of, image-there, part-stays}

-- a call that is kept stays
call-stays : (held later : Held) (past : List Call) (call : Kept) → Gains held later → HasItsBytes held call → KnowsBase held past call
    → (call_in later past call ≡ call_in held past call) × (HasItsBytes later call × KnowsBase later past call)
call-stays held later past (Opened base shown) gaining within knows =
    let from = image-there held later base gaining within.0 in
    let bytes = image-there held later shown gaining within.1 in
    (ap opened bytes.0, ((from.1, bytes.1), from.0 ∙ knows))
call-stays held later past (Wrote offset part is_sync ok) gaining within knows =
    let stays = part-stays held.blocks later.blocks part (bytes-of held later gaining) within in
    (ap (λ bytes. wrote offset bytes is_sync ok) stays.0, (stays.1, knows))
call-stays held later past (ResizedTo size ok) gaining within knows = (refl, (within, knows))
call-stays held later past SyncedWhole gaining within knows = (refl, (within, knows))
call-stays held later past (SyncedAs image) gaining within knows =
    let stays = image-there held later image gaining within in
    (ap (λ bytes. synced bytes true) stays.0, (stays.1, knows))
call-stays held later past SyncFailed gaining within knows = (refl, (within, knows))

-- and so do all of them
pub calls-stay : (held later : Held) (past : List Call) (calls : List Kept) → Gains held later → AreWithin held past calls
    → (calls_in later past calls ≡ calls_in held past calls) × AreWithin later past calls
calls-stay held later past [] gaining within = (refl, within)
calls-stay held later past (call ∷ others) gaining within =
    let here = call_in held past call in
    let first = call-stays held later past call gaining within.0 within.1 in
    let rest = calls-stay held later (here ∷ past) others gaining within.2 in
    let P : Call → Type 0 = λ c. (c ∷ calls_in later (c ∷ past) others ≡ here ∷ calls_in held (here ∷ past) others)
    × (HasItsBytes later call × KnowsBase later past call × AreWithin later (c ∷ past) others) in
    subst P (sym first.0) (ap (λ l. here ∷ l) rest.0, (first.1.0, first.1.1, rest.1))

-- the calls before one, the newest first
seam : (here : Call) (later past : List Call) → reverse (here ∷ later) ++ past ≡ reverse later ++ here ∷ past
seam here later past = ap (λ l. l ++ past) (reverse-append (here ∷ []) later) ∙ append_assoc (reverse later) (here ∷ []) past

-- one more call is kept
in-order-push : (held : Held) (past : List Call) (calls : List Kept) (call : Kept)
    → calls_in held past (calls ++ call ∷ [])
    ≡ calls_in held past calls ++ call_in held (reverse (calls_in held past calls) ++ past) call ∷ []
in-order-push held past [] call = refl
in-order-push held past (first ∷ others) call =
    let here = call_in held past first in
    let later = calls_in held (here ∷ past) others in
    ap (λ l. here ∷ l) (in-order-push held (here ∷ past) others call)
    ∙ ap (λ p. here ∷ (later ++ call_in held p call ∷ [])) (sym (seam here later past))

within-push : (held : Held) (past : List Call) (calls : List Kept) (call : Kept) → AreWithin held past calls → HasItsBytes held call
    → KnowsBase held (reverse (calls_in held past calls) ++ past) call → AreWithin held past (calls ++ call ∷ [])
within-push held past [] call within has knows = (has, knows, within)
within-push held past (first ∷ others) call within has knows =
    let here = call_in held past first in
    let later = calls_in held (here ∷ past) others in
    (within.0, within.1, within-push held (here ∷ past) others call within.2 has (subst (λ p. KnowsBase held p call) (seam here later past) knows))

-- and bytes may have been gained
pub noted : (held later : Held) (calls now : List Kept) (call : Kept) → Gains held later → now ≡ calls ++ call ∷ []
    → AreWithin held [] calls → HasItsBytes later call → KnowsBase later (reverse (calls_in held [] calls)) call
    → (calls_in later [] now ≡ calls_in held [] calls ++ call_in later (reverse (calls_in held [] calls)) call ∷ []) × AreWithin later [] now
noted held later calls now call gaining is within has knows =
    let all = calls_in held [] calls in
    let stay = calls-stay held later [] calls gaining within in
    let past : reverse (calls_in later [] calls) ++ [] ≡ reverse all = append-nil (reverse (calls_in later [] calls)) ∙ ap reverse stay.0 in (
      ap (calls_in later []) is ∙ in-order-push later [] calls call ∙ ap (λ p. calls_in later [] calls ++ call_in later p call ∷ []) past
          ∙ ap (λ l. l ++ call_in later (reverse all) call ∷ []) stay.0,
      subst (AreWithin later []) (sym is) (within-push later [] calls call stay.1 has (subst (λ p. KnowsBase later p call) (sym past) knows)),
    )

pub length-in : (held : Held) (past : List Call) (calls : List Kept) → length (calls_in held past calls) ≡ length calls
length-in held past [] = refl
length-in held past (call ∷ others) = omega (arith, length-in held (call_in held past call ∷ past) others)

-- the call at a place
pub call-at : (held : Held) (past : List Call) (calls : List Kept) (place : ℕ) (k : Kept) (d : Call) → place < length calls
    → get_or (calls_in held past calls) place d ≡ call_in held (reverse (take place (calls_in held past calls)) ++ past) (get_or calls place k)
call-at held past [] place k d below = absurd (omega (arith, below))
call-at held past (call ∷ others) zero k d below = refl
call-at held past (call ∷ others) (suc place) k d below =
    let here = call_in held past call in
    let later = calls_in held (here ∷ past) others in
    call-at held (here ∷ past) others place k d (omega (arith, below))
    ∙ ap (λ p. call_in held p (get_or others place k)) (sym (seam here (take place later) past))

pub within-at : (held : Held) (past : List Call) (calls : List Kept) (place : ℕ) (k : Kept) → place < length calls
    → AreWithin held past calls → HasItsBytes held (get_or calls place k)
    × KnowsBase held (reverse (take place (calls_in held past calls)) ++ past) (get_or calls place k)
within-at held past [] place k below within = absurd (omega (arith, below))
within-at held past (call ∷ others) zero k below within = (within.0, within.1)
within-at held past (call ∷ others) (suc place) k below within =
    let here = call_in held past call in
    let later = calls_in held (here ∷ past) others in
    let at = within-at held (here ∷ past) others place k (omega (arith, below)) within.2 in
    (at.0, subst (λ p. KnowsBase held p (get_or others place k)) (sym (seam here (take place later) past)) at.1)
