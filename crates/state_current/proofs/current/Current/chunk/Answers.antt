use Rattle.std.proofs.Common.{◌≡◌, ◌*◌, ◌<◌, ◌≤◌, length, sym, ◌∙◌, subst, arith}
use Rattle.state_theory.specs.Canonical.{Setting, setting_with}
use Rattle.state_theory.specs.Laws.SameNodes.{born}
use Rattle.state_current.specs.Kept.{Kept, StandsFor}
use Rattle.state_current.proofs.CurrentLemmas.{IsGraftable, all_are, chunk_is, may_get}
use Rattle.state_current.proofs.current.Current.chunk.Goals as goal

pub get_chunk-requires : goal.get_chunk-requires
get_chunk-requires g c =
    let there = subst (λ (k : Kept). 8 * g.row.N * c.args.index < k.operations.leaves) (sym c.self.view_is) c.requires.there in
    let from = subst (λ (k : Kept). k.bits.pruned ≤ c.args.index) (sym c.self.view_is) c.requires.kept in (
      omega arith,
      (from, may_get g.row.N c.args.index c.self.inside.bits from (omega (arith, c.self.invariant.bits, there))),
    )

pub returns : goal.returns
returns g c height state stands =
    let setting : Setting = setting_with g.F.Family.merge_rule g.H.HashFunction.hash_of g.row.N height in
    let facts : IsGraftable g.F.Family.merge_rule = record {
      root = g.F.Graftable.root_of;
      birth = g.F.Graftable.birth_of;
      pairs = g.met.F.Family.merges_equals;
      roots = g.met.F.Graftable.roots;
      aligned = g.met.F.Graftable.aligned;
      born = born g.met.F.Graftable.births g.met.F.Graftable.births_apart g.met.F.Graftable.births_soon;
      counted = λ n chunk level few some low. g.met.F.Graftable.chunks_counted n chunk level few some low;
    } in
    let kept : Kept = record {
      operations = c.self.inside.operations;
      chunks = c.self.inside.chunks;
      bits = c.self.inside.bits;
      floor = c.self.inside.floor;
    } in
    let here : StandsFor setting state kept = subst (StandsFor setting state) (sym c.self.view_is) stands in
    let there = subst (λ (k : Kept). 8 * g.row.N * c.args.index < k.operations.leaves) (sym c.self.view_is) c.requires.there in
    c.get_chunk.ensures ∙ chunk_is setting state kept facts here c.self.invariant c.args.index
    (subst (λ (k : Kept). k.bits.pruned ≤ c.args.index) (sym c.self.view_is) c.requires.kept)
    (omega (arith, all_are setting state kept facts here, there))
