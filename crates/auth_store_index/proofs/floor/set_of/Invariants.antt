use Rattle.std.proofs.Common.{◌≡◌, ℕ, drop}
use Rattle.std.specs.Prelude.{◌==◌, ◌||◌}
use Rattle.std.specs.List.{list_any}
use Rattle.std.specs.BTreeSet.{contains_by}
use Rattle.std.specs.Ordering.{nat_cmp}
use Rattle.auth_store_index.proofs.floor.set_of.Given as goal

abbrev pub invariant-loop-place : goal.invariant-loop-place
invariant-loop-place l = (at : ℕ)
    → (contains_by (nat_cmp at) l.set || list_any (λ place. place == at) (drop l.place-index l.places))
    ≡ list_any (λ place. place == at) l.places
