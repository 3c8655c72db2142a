use Rattle.state_theory.specs.Canonical.{Setting, setting_with}
use Rattle.state_theory.specs.Laws.Heights.{some_height}
use Rattle.state_theory.specs.Laws.SameNodes.{born}
use Rattle.state_current.proofs.ReadLemmas.{node_read}
use Rattle.state_current.proofs.laws.nodes_above_pruned_peaks_are_read.Goals as goal

pub returns : goal.returns
returns g c hash width level state leaf_digests operations chunks whole low few of_operations leaves_are of_chunks pruned first tree stands above =
    let setting : Setting = setting_with g.F.Family.merge_rule hash width level in
    node_read setting g.F.Graftable.root_of g.met.F.Family.merges_equals g.met.F.Graftable.roots g.met.F.Graftable.aligned whole
    g.F.Graftable.birth_of (born g.met.F.Graftable.births g.met.F.Graftable.births_apart g.met.F.Graftable.births_soon)
    (λ n chunk small. g.met.F.Graftable.chunks_counted n chunk level small (some_height width level whole) low)
    state few leaf_digests operations chunks of_operations leaves_are of_chunks pruned first tree stands above
