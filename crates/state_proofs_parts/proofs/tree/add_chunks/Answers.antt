use Rattle.std.proofs.Common.{◌≡◌, ◌-◌, ◌∙◌, ap, arith}
use Rattle.state_theory.specs.MapsCode.{leaves_from}
use Rattle.state_theory.proofs.CallLemmas.{at_chunk, added_next}
use Rattle.state_theory.specs.Laws.Refusals.{past_memory}
use Rattle.state_proofs_parts.proofs.tree.add_chunks.Goals as goal

pub loop-chunk-init : goal.loop-chunk-init
loop-chunk-init g c =
    let none : 0 ≡ c.args.first - c.args.first = omega arith in
    ap (λ ds. record c.args.batch { added = ds })
    (c.requires.none ∙ ap (leaves_from (g.H.Hasher.leaf_of c.args.hasher.now) g.row.N c.args.bits.now c.args.first) none)

pub out_of_memory-requires : goal.out_of_memory-requires
out_of_memory-requires g c =
    let at = at_chunk (g.H.Hasher.leaf_of c.args.hasher.now) g.row.N c.args.bits.now c.args.batch c.loop-chunk.batch c.args.first c.loop-chunk.chunk
    c.requires.next (omega arith) c.loop-chunk.invariant in
    past_memory _ c.in-Err.e (omega (arith, at, c.loop-chunk-test.true, c.requires.few)) c.in-Err.ensures.refused

pub loop-chunk-preserved : goal.loop-chunk-preserved
loop-chunk-preserved g c =
    added_next (g.H.Hasher.leaf_of c.args.hasher.now) g.row.N c.args.bits.now c.args.batch c.loop-chunk.batch c.in-Ok.more c.args.first
    c.loop-chunk.chunk c.get_chunk.result.now c.requires.next (omega arith) c.loop-chunk.invariant c.get_chunk.ensures c.in-Ok.ensures.added

pub returns-clause-added : goal.returns-clause-added
returns-clause-added g c =
    let last : c.loop-chunk.chunk - c.args.first ≡ c.args.end - c.args.first = omega arith in
    c.loop-chunk.invariant
    ∙ ap (λ n. record c.args.batch { added = leaves_from (g.H.Hasher.leaf_of c.args.hasher.now) g.row.N c.args.bits.now c.args.first n }) last
