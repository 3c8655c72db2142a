use Rattle.std.proofs.Common.{◌*◌, ◌/◌, ◌<◌, ◌≤◌, length, sym, ◌∙◌, ap, subst, arith}
use Rattle.std.proofs.lemmas.Nat.{le-div}
use Rattle.std.proofs.Math.Nat.{mul_comm}
use Rattle.state_theory.specs.Bits.{bit_count, full_chunks}
use Rattle.state_theory.specs.InclusionCode.{proof_digests}
use Rattle.state_theory.specs.Maps.{Map, IsMapOf, leaf_digests}
use Rattle.state_theory.proofs.KeptLemmas.{count-kept}
use Rattle.state_theory.proofs.MapLemmas.{chunk_within, clean_digests}
use Rattle.state_theory.proofs.ProveLemmas.{proved}
use Rattle.state_theory.proofs.WidthLemmas.{wide-some}
use Rattle.state_proofs_parts.proofs.authenticated.BitMap+D+N+Merkleized+D.proof.Goals as goal

pub bit_digests-requires : goal.bit_digests-requires
bit_digests-requires g c =
    let width = g.row.N in
    let pruned = c.self.inside.bits.pruned in
    let some = wide-some width c.self.invariant.wide in
    let low = subst (λ (m : Map). 8 * width * m.bits.pruned ≤ c.args.bit) (sym c.self.view_is) c.requires in
    let chunk : pruned ≤ c.args.bit / (8 * width) = le-div pruned c.args.bit (8 * width) (omega (arith, some))
    (omega (arith, low, mul_comm pruned (8 * width))) in
    let count : c.args.bit ≤ bit_count width c.self.inside.bits = omega (arith, c.if-bit-length.false, c.len-length.ensures.length) in
    let same = ap (λ n. c.args.bit / n) c.chunk_bits.ensures.bits in
    let high = chunk_within width c.self.inside.bits c.args.bit some count in
    (omega arith, (c.self.invariant.wide, (omega (arith, chunk, c.self.invariant.pruned, same), omega (arith, high, c.self.invariant.leaves, same))))

pub returns-clause-digests : goal.returns-clause-digests
returns-clause-digests g c leaf_of node_of all of =
    let hash = g.H.Hasher.hash_of in
    let bagging = g.H.Hasher.bagging_of c.args.hasher.now in
    let some = wide-some g.row.N c.self.invariant.wide in
    let here = subst (IsMapOf leaf_of node_of g.row.N all) (sym c.self.view_is) of in
    let bits = c.self.inside.bits in
    let there : c.args.bit < length all = omega (arith, c.if-bit-length.false, c.len-length.ensures.length, count-kept g.row.N all bits here.bits) in
    c.in_ok-digests.ensures.of_list node_of here.leaves.digests here.leaves.nodes
    ∙ ap (λ list. proof_digests hash node_of bagging g.row.N list bits (c.args.bit / c.chunk_bits.result))
    (clean_digests leaf_of node_of g.row.N all bits c.self.inside.tree some here.bits c.self.invariant.leaves here.leaves)
    ∙ ap (λ n. proof_digests hash node_of bagging g.row.N (leaf_digests leaf_of 0 (full_chunks g.row.N all)) bits (c.args.bit / n)) c.chunk_bits.ensures.bits
    ∙ proved hash leaf_of node_of bagging g.row.N all bits some here.bits c.args.bit there
