-- What holds of the first items of a list, and of one more.
use Rattle.std.proofs.Common.{◌≡◌, ℕ, ◌+◌, ◌<◌, ◌≤◌, List, length, get_or, inl, inr, ap, sym, ◌∙◌, subst, arith}
use Rattle.std.proofs.lemmas.Bool.{cases_eq}
use Rattle.std.proofs.lemmas.List.{get_or_read}
use Rattle.fault_storage_parts.specs.Files.{Mutation, written, fixed, resized_to, HasRoomFor}

-- room for a mutation is room for it at a greater size
pub room-grows : (size more : ℕ) (mutation : Mutation) → size ≤ more → HasRoomFor size mutation → HasRoomFor more mutation
room-grows size more (written offset bytes mode rate) le room = omega arith
room-grows size more (fixed offset bytes kept) le room = omega arith
room-grows size more (resized_to asked rate) le room = omega arith

pub one_more : {X : Type 0} (P Q : X → Type 0) (xs : List X) (i : ℕ) (x : X) → i < length xs → x ≡ get_or xs i x → ((y : X) → P y → Q y) → Q x
    → ((k : ℕ) (d : X) → k < i → P (get_or xs k d)) → (k : ℕ) (d : X) → k < i + 1 → Q (get_or xs k d)
one_more P Q xs i x lt is wider here all k d below =
    elim (cases_eq k i) [
      | inl same ↦ subst Q (get_or_read xs i x lt is d ∙ ap (λ n. get_or xs n d) (sym same)) here
      | inr other ↦ wider (get_or xs k d) (all k d (omega arith))
    ]
