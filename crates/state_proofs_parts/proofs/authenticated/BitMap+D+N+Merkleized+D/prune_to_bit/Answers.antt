use Rattle.std.proofs.Common.{◌-◌, ◌*◌, ◌/◌, ◌≤◌, length, sym, ◌∙◌, ap, subst, arith}
use Rattle.merkle_forest.specs.Forest.{mmr_rule}
use Rattle.merkle_core_parts.specs.Mem.{pruned_before}
use Rattle.state_theory.specs.Bits.{bit_count}
use Rattle.state_theory.specs.Maps.{Map, IsMapOf}
use Rattle.state_theory.proofs.CallLemmas.{prune_fits, prune_of}
use Rattle.state_theory.proofs.ChunkLemmas.{chunks_le, chunks_of_bits}
use Rattle.state_theory.proofs.MapLemmas.{chunk_within}
use Rattle.state_theory.specs.Laws.Refusals.{prune_memory}
use Rattle.state_theory.proofs.WidthLemmas.{wide-some}
use Rattle.state_proofs_parts.proofs.authenticated.BitMap+D+N+Merkleized+D.prune_to_bit.Goals as goal

pub out_of_memory-requires : goal.out_of_memory-requires
out_of_memory-requires g c =
    let there = subst (λ (m : Map). c.args.bit ≤ bit_count g.row.N m.bits) (sym c.self.view_is) c.requires in
    let within = chunk_within g.row.N c.self.inside.bits c.args.bit (wide-some g.row.N c.self.invariant.wide) there in
    let chunk = ap (λ n. c.args.bit / n) c.chunk_bits.ensures.bits in
    prune_memory _ _ c.in-Err.e (omega (arith, within, chunk, c.new.ensures, c.self.invariant.leaves)) c.in-Err.ensures.refused

pub invariant_of-self-2 : goal.invariant_of-self-2
invariant_of-self-2 g c =
    let there = subst (λ (m : Map). c.args.bit ≤ bit_count g.row.N m.bits) (sym c.self.view_is) c.requires in
    let within = chunk_within g.row.N c.self.inside.bits c.args.bit (wide-some g.row.N c.self.invariant.wide) there in
    let chunk = ap (λ n. c.args.bit / n) c.chunk_bits.ensures.bits in
    prune_fits g.row.N c.self.inside.bits c.prune_to_chunk.new.self c.self.inside.tree c.prune.new.self _ _ c.prune_to_chunk.ensures
    (c.in_default.ensures.pruned ∙ ap (pruned_before mmr_rule c.self.inside.tree) c.new.ensures)
    (omega (arith, c.if-chunk-pruned_chunks.false, c.pruned_chunks.ensures.pruned)) (omega (arith, within, chunk)) c.self.invariant

pub returns-clause-of_list : goal.returns-clause-of_list
returns-clause-of_list g c leaf_of node_of all of =
    let count = subst (λ (m : Map). c.args.bit ≤ bit_count g.row.N m.bits) (sym c.self.view_is) c.requires in
    let within = chunk_within g.row.N c.self.inside.bits c.args.bit (wide-some g.row.N c.self.invariant.wide) count in
    let chunk = ap (λ n. c.args.bit / n) c.chunk_bits.ensures.bits in
    let first = c.args.bit / c.chunk_bits.result in
    let bits = c.self.inside.bits in
    let there : 8 * g.row.N * (first - bits.pruned) ≤ length bits.kept = omega (
      arith,
      chunks_le g.row.N (first - bits.pruned) (length bits.kept / (8 * g.row.N)) (omega (arith, within, chunk)),
      chunks_of_bits g.row.N (length bits.kept),
    ) in
    prune_of leaf_of node_of g.row.N all c.self.inside.bits c.prune_to_chunk.new.self c.self.inside.tree c.prune.new.self _ _
    c.prune_to_chunk.ensures (omega (arith, c.if-chunk-pruned_chunks.false, c.pruned_chunks.ensures.pruned))
    there (c.prune.ensures.of_list node_of)
    (subst (IsMapOf leaf_of node_of g.row.N all) (sym c.self.view_is) of)
