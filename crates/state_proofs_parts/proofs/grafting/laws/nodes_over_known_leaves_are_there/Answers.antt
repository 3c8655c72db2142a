use Rattle.std.proofs.Common.{length}
use Rattle.state_theory.specs.Canonical.{Setting, setting_with}
use Rattle.state_theory.specs.Laws.GraftedTrees.{nodes_there}
use Rattle.state_theory.specs.Laws.Heights.{some_height}
use Rattle.state_theory.specs.Laws.SameNodes.{born}
use Rattle.state_proofs_parts.proofs.grafting.laws.nodes_over_known_leaves_are_there.Goals as goal

pub returns : goal.returns
returns g c hash width level state operations chunks whole low few low_known high_known first tree stands =
    let setting : Setting = setting_with g.F.Family.merge_rule hash width level in
    nodes_there setting state g.F.Graftable.root_of g.met.F.Family.merges_equals g.met.F.Graftable.roots whole few g.F.Graftable.birth_of
    (born g.met.F.Graftable.births g.met.F.Graftable.births_apart g.met.F.Graftable.births_soon) g.met.F.Graftable.aligned operations chunks
    low_known
    (λ c there. high_known c ((g.met.F.Graftable.chunks_counted (length state.operations) c level few (some_height width level whole) low).0 there))
    first tree stands
