use Rattle.std.proofs.Common.{◌≡◌, ◌∷◌, [], ◌++◌, map, ap, ◌∙◌}
use Rattle.std.proofs.lemmas.List.{map_push}
use Rattle.state_theory.specs.Bits.{chunk_of}
use Rattle.state_theory.specs.Laws.ChunkSteps.{chunks_go_on, chunks_end}
use Rattle.state_proofs_parts.proofs.bits.chunks_from.Goals as goal

pub loop-preserved : goal.loop-preserved
loop-preserved c =
    let front = map (λ chunk. chunk.items) c.loop.chunks.items in
    let grown : map (λ chunk. chunk.items) c.push.new.self.items
    ≡ front ++ chunk_of c.args.chunk_size.width c.loop.rest.now ∷ [] =
    ap (map (λ chunk. chunk.items)) c.in_ok-push.ensures.items
    ∙ map_push _ c.loop.chunks.items c.in_ok-chunk_from.field-0
    ∙ ap (λ chunk. front ++ chunk ∷ []) c.in_ok-chunk_from.ensures in
    rw (grown, c.split_front.ensures.back, c.bits.ensures.bits)
    (chunks_go_on front c.loop.rest.now c.args.chunk_size.width c.args.count c.loop.counter _ c.loop-test.true
    c.loop.invariant)

pub returns : goal.returns
returns c = chunks_end (map (λ chunk. chunk.items) c.loop.chunks.items) c.loop.rest.now c.args.chunk_size.width
    c.args.count c.loop.counter _ c.loop-test.false c.loop.invariant
