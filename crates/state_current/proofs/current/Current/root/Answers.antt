use Rattle.std.proofs.Common.{◌*◌, sym, ◌∙◌, ◌%◌, ap₂, subst}
use Rattle.state_theory.specs.Canonical.{Setting, setting_with}
use Rattle.state_theory.specs.Laws.SameNodes.{born}
use Rattle.state_current.specs.Kept.{Kept, StandsFor}
use Rattle.state_current.proofs.CurrentLemmas.{IsGraftable, canonical_root_is}
use Rattle.state_current.proofs.current.Current.root.Goals as goal

pub returns : goal.returns
returns g c height state stands =
    let setting : Setting = setting_with g.F.Family.merge_rule g.H.HashFunction.hash_of g.row.N height in
    let facts : IsGraftable g.F.Family.merge_rule = record {
      root = g.F.Graftable.root_of;
      birth = g.F.Graftable.birth_of;
      pairs = g.met.F.Family.merges_equals;
      roots = g.met.F.Graftable.roots;
      aligned = g.met.F.Graftable.aligned;
      born = born g.met.F.Graftable.births g.met.F.Graftable.births_apart g.met.F.Graftable.births_soon;
      counted = λ n chunk level few some low. g.met.F.Graftable.chunks_counted n chunk level few some low;
    } in
    let kept : Kept = record {
      operations = c.self.inside.operations;
      chunks = c.self.inside.chunks;
      bits = c.self.inside.bits;
      floor = c.self.inside.floor;
    } in
    let here : StandsFor setting state kept = subst (StandsFor setting state) (sym c.self.view_is) stands in
    canonical_root_is setting state kept facts here c.self.invariant c.bit_of-next.result _ _ _ _ (g.H.Digest.Write.encoding c.seal.result)
    (c.bit_of-next.ensures.bit ∙ ap₂ (λ n w. n % (8 * w)) c.len.ensures.length c.chunk_size.ensures)
    (c.root_of_operations-operations.ensures height state stands) (c.root_of_grafted-grafted.ensures height state stands)
    (c.pending_digest-pending.ensures.digest height state stands) (c.partial_digest-partial.ensures height state stands) c.seal.ensures
