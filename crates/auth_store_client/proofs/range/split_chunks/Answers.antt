use Rattle.std.proofs.Common.{map, length, sym, ◌∙◌, arith}
use Rattle.auth_store_client.proofs.Chunks.{left_over, some_of}
use Rattle.auth_store_client.proofs.range.split_chunks.Goals as goal

pub returns-then-rest-width : goal.returns-then-rest-width
returns-then-rest-width c chunks all is =
    left_over c.args.width (map (λ chunk. chunk.now) c.loop-rest.chunks.items) chunks c.loop-rest.rest.now c.args.bytes.now
    c.loop-rest.invariant.0 c.loop-rest.invariant.1 (some_of (length c.loop-rest.rest.now) (sym c.is_empty.ensures ∙ c.loop-rest-test.true))
    (omega arith) all is
