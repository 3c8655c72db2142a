use Rattle.std.proofs.Common.{sym, ◌∙◌, ap, subst, take, map, ◌*◌}
use Rattle.state_theory.specs.Maps.{Map, IsMapOf}
use Rattle.state_theory.specs.Parts.{ArePinned, chunk_peaks}
use Rattle.state_theory.proofs.PartsLemmas.{parts_of_list}
use Rattle.state_theory.proofs.WidthLemmas.{wide-some}
use Rattle.state_proofs_parts.proofs.authenticated.BitMap+D+N+Merkleized+D.pruned_parts.Goals as goal

pub returns-clause-of_list : goal.returns-clause-of_list
returns-clause-of_list g c leaf_of node_of all of =
    let here = subst (IsMapOf leaf_of node_of g.row.N all) (sym c.self.view_is) of in
    let pruned = c.self.inside.bits.pruned in
    let digests = map g.D.Write.encoding c.in_ok-digests.digests.items in
    let pinned = subst (λ n. ArePinned c.self.inside.tree n digests) c.self.invariant.pruned c.in_ok-digests.ensures in
    parts_of_list leaf_of node_of g.row.N (wide-some g.row.N c.self.invariant.wide) all c.self.inside.tree pruned digests here.leaves
    c.self.invariant.pruned pinned
    ∙ ap (λ (m : Map). chunk_peaks leaf_of node_of g.row.N (take (8 * g.row.N * m.bits.pruned) all)) c.self.view_is
