use Rattle.std.proofs.Common.{◌≡◌, length, map, take, Some}
use Rattle.merkle_theory.specs.Plans.{Lookup, AnswersAs}
use Rattle.merkle_proofs.proofs.plan.digests.look_up.Given as goal

abbrev pub invariant-loop-position : goal.invariant-loop-position
invariant-loop-position g l =
    goal.G-IsAlwaysCallable g l.get_node × (l.get_node ≡ l.fn.get_node) × (length l.found.items ≡ l.position-index)
    × ((known : Lookup) → AnswersAs (goal.G-post g l.fn.get_node) g.D.Write.encoding known
    → map (λ d. Some d) (map g.D.Write.encoding l.found.items) ≡ map known (take l.position-index l.positions))
