use Rattle.state_theory.specs.Laws.ChunkSteps.{chunk_goes_on, chunk_ends}
use Rattle.state_proofs_parts.proofs.bits.chunk_from.Goals as goal

pub loop-preserved : goal.loop-preserved
loop-preserved c =
    rw (c.in_ok-push.ensures.items, c.byte_from.ensures, c.split_front.ensures.front, c.split_front.ensures.back)
    (chunk_goes_on c.loop.chunk.items c.loop.rest.now c.args.width c.loop.counter _ c.loop-test.true c.loop.invariant)

pub returns : goal.returns
returns c = chunk_ends c.loop.chunk.items c.loop.rest.now c.args.width c.loop.counter _ c.loop-test.false
    c.loop.invariant
