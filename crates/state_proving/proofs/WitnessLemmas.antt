-- The parts of the witness of what is kept.
use Rattle.std.proofs.Common.{◌≡◌, ℕ, ◌*◌, ◌/◌, ◌^◌, ◌<◌, ◌≤◌}
use Rattle.std.proofs.Common.{List, Option, None, Some, length, option_map}
use Rattle.std.specs.Prelude.{IfSome}
use Rattle.merkle_forest.specs.Forest.{Rule, forest_of}
use Rattle.merkle_forest.specs.Nodes.{nodes_of_height}
use Rattle.state_theory.specs.Laws.Heights.{some_height}
use Rattle.state_proofs.specs.Witness.{WitnessParts}
use Rattle.state_current.specs.Kept.{IsPendingAmong}

-- a proof may hold the digest of a pending chunk, or its absence
pub may_hold : {D : Type 0} (encoding : D → List ℕ) (rule : Rule) (width operations size height : ℕ) (IsPending : Option (List ℕ) → Type 0)
    → IsPending None
    → ((leaves height : ℕ) (digest : List ℕ) → leaves ≤ 2 ^ 62 → 0 < height → height ≤ 62
    → nodes_of_height height (forest_of rule leaves) < leaves / 2 ^ height → length digest ≡ size → IsPending (Some digest))
    → operations ≤ 2 ^ 62 → 8 * width ≡ 2 ^ height → height ≤ 62
    → (pending : Option D) → IfSome pending (λ digest. IsPendingAmong rule width operations size (encoding digest))
    → IsPending (option_map encoding pending)
may_hold encoding rule width operations size height IsPending none some few whole low None is = none
may_hold encoding rule width operations size height IsPending none some few whole low (Some digest) is =
    some operations height (encoding digest) few (some_height width height whole) low (is.behind height whole) is.sized

-- a witness, part by part
pub same_parts : (root grafted : List ℕ) (pending held : Option (List ℕ)) (partial next : Option (ℕ × List ℕ)) → root ≡ grafted
    → pending ≡ held → partial ≡ next
    → (let one : WitnessParts = record { grafted_root = root; pending = pending; partial = partial } in let other : WitnessParts =
    record { grafted_root = grafted; pending = held; partial = next } in one ≡ other)
same_parts root grafted pending held partial next p q r = λ i. record { grafted_root = p i; pending = q i; partial = r i }
