-- A byte that no change touches is that of the base.
use Rattle.std.proofs.Common.{◌≡◌, ℕ, ◌<◌, true, false, ◌&&◌, ◌||◌, List, [], ◌∷◌, length, get_or, sym, ◌∙◌, ap, inl, inr}
use Rattle.std.proofs.lemmas.Bool.{and_left, and_parts, and_right, eqb-true, le-ltb, lt-leb}
use Rattle.paged_blob_parts.specs.Calls.{Change, write, resize, whole, File}
use Rattle.paged_blob_parts.specs.Images.{may_give, may_leave, may_hold, IsImage}
use Rattle.paged_blob_parts.proofs.Live.{whole_live}
use Rattle.auth_store_device.specs.Touches.{Leaves, AllLeave}

-- a change gives no value to a byte that it leaves alone
gives-none : (change : Change) (i value : ℕ) → Leaves i change → may_give change i value ≡ false
gives-none (write offset bytes kept) i value (inl before) = and_left _ _ (and_left _ _ (lt-leb offset i before))
gives-none (write offset bytes kept) i value (inr behind) = and_left _ _ (and_right _ _ (le-ltb i _ behind))
gives-none (resize size) i value below = and_left _ _ (lt-leb size i below)

holds-base : (base : List ℕ) (changes : List Change) (i value : ℕ) → AllLeave i changes → may_hold base changes i value ≡ true
    → value ≡ get_or base i 0
holds-base base [] i value left is = eqb-true value (get_or base i 0) is
holds-base base (change ∷ earlier) i value left is =
    let before = sym (ap (λ b. b || (may_leave change i && may_hold base earlier i value)) (gives-none change i value left.0)) ∙ is in
    holds-base base earlier i value left.1 (and_parts (may_leave change i) _ before).1

-- so it is in what a crash may leave, and in the content
pub untouched-image : (file : File) (image : List ℕ) (i : ℕ) → IsImage file image → i < length image → AllLeave i file.changes
    → get_or image i 0 ≡ get_or file.base i 0
untouched-image file image i is below left = holds-base file.base file.changes i (get_or image i 0) left (is.each i below)

pub untouched-whole : (file : File) (i : ℕ) → AllLeave i file.changes → get_or (whole file.base file.changes) i 0 ≡ get_or file.base i 0
untouched-whole file i left = holds-base file.base file.changes i (get_or (whole file.base file.changes) i 0) left ((whole_live file).reached.each i)
