use Rattle.std.proofs.Common.{arith}
use Rattle.std.proofs.lemmas.Nat.{pow_pos}
use Rattle.state_theory.specs.Canonical.{Setting, setting_with}
use Rattle.state_theory.specs.Laws.Heights.{some_height}
use Rattle.state_current.proofs.LeafLemmas.{leaves_grow}
use Rattle.state_current.proofs.laws.leaves_grow_with_the_state.Goals as goal

pub returns : goal.returns
returns g c hash width level state change leaf_digests added updates whole low paired few are were =
    let setting : Setting = setting_with g.F.Family.merge_rule hash width level in
    leaves_grow setting g.F.Graftable.root_of g.met.F.Family.merges_equals g.met.F.Graftable.roots whole
    (λ n chunk small. g.met.F.Graftable.chunks_counted n chunk level small (some_height width level whole) low)
    state change few (omega (arith, whole, pow_pos level)) paired leaf_digests added updates are were
