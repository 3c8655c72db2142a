use Rattle.std.proofs.Common.{◌≡◌, ◌<◌, ◌≤◌, ◌++◌, ◌∷◌, [], length, get_or, ◌∙◌, ap, arith}
use Rattle.std.proofs.lemmas.List.{take_all}
use Rattle.merkle_forest.specs.Forest.{mmr_rule}
use Rattle.merkle_core_parts.specs.Mem.{Additions, node_count}
use Rattle.state_theory.specs.MapsCode.{leaves_at}
use Rattle.state_theory.proofs.CallLemmas.{all_at, updated_next}
use Rattle.state_theory.specs.Laws.Refusals.{at_memory}
use Rattle.state_proofs_parts.proofs.tree.update_chunks.Goals as goal

pub loop-chunk-init : goal.loop-chunk-init
loop-chunk-init g c = ap (λ us. record c.args.batch { updates = us }) c.requires.none

pub out_of_memory-requires : goal.out_of_memory-requires
out_of_memory-requires g c =
    let both = all_at (λ chunk. (c.args.bits.now.pruned ≤ chunk) × (chunk < c.args.batch.base.leaves)) c.args.chunks.now c.loop-chunk.chunk-index
    (omega arith) c.requires.chunks in
    let base = ap (λ (b : Additions). b.base.leaves) c.loop-chunk.invariant in
    let boundary = ap (λ (b : Additions). b.boundary) c.loop-chunk.invariant in
    at_memory mmr_rule _ _ _ c.in-Err.e (omega (arith, both.0, boundary, c.requires.pruned, c.new-location.ensures))
    (omega (arith, both.1, base, c.new-location.ensures)) c.in-Err.ensures.refused

pub loop-chunk-preserved : goal.loop-chunk-preserved
loop-chunk-preserved g c =
    let lt : c.loop-chunk.chunk-index < length c.args.chunks.now = omega arith in
    let at : c.new-location.result ≡ get_or c.args.chunks.now c.loop-chunk.chunk-index 0 = c.new-location.ensures in
    updated_next (g.H.Hasher.leaf_of c.args.hasher.now) g.row.N c.args.bits.now c.args.batch c.loop-chunk.batch c.in-Ok.more c.args.chunks.now
    c.loop-chunk.chunk-index c.get_chunk.result.now lt c.loop-chunk.invariant c.get_chunk.ensures
    (c.in-Ok.ensures.updated ∙ ap (λ n. record c.loop-chunk.batch {
      updates = c.loop-chunk.batch.updates
          ++ (n, g.H.Hasher.leaf_of c.args.hasher.now (node_count mmr_rule n) c.get_chunk.result.now) ∷ [];
    }) at)

pub returns-clause-updated : goal.returns-clause-updated
returns-clause-updated g c =
    c.loop-chunk.invariant
    ∙ ap (λ ns. record c.args.batch { updates = leaves_at (g.H.Hasher.leaf_of c.args.hasher.now) g.row.N c.args.bits.now ns })
    (take_all c.loop-chunk.chunk-index c.args.chunks.now (omega arith))
