use Rattle.std.proofs.Common.{◌∙◌}
use Rattle.state_ops_parts.specs.Operation.{fixed_size, unpadded, meaning_of}
use Rattle.state_ops_parts.specs.Grammar.{unpadded_at, item_at}
use Rattle.state_ops_parts.proofs.Zeros.{padded_reads}
use Rattle.state_ops_parts.proofs.fixed.reading.read_padded.Goals as goal

pub returns-clause-read : goal.returns-clause-read
returns-clause-read g c =
    padded_reads (unpadded_at (g.K.Read.after tt) (g.V.Read.after tt) (item_at (g.S.Read.after tt)) g.V.FixedSize.SIZE)
    (meaning_of g.K.Write.encoding g.V.Write.encoding g.S.Write.encoding c.in_ok-operation.operation)
    (fixed_size g.K.FixedSize.SIZE g.V.FixedSize.SIZE g.S.FixedUpdate.UPDATE_SIZE) c.args.bytes.now c.new-cursor.result
    (unpadded (λ bytes. bytes) g.V.FixedSize.SIZE (meaning_of g.K.Write.encoding g.V.Write.encoding g.S.Write.encoding c.in_ok-operation.operation))
    c.read_unpadded.new.cursor c.in_ok-padding.padding.now c.take.new.self
    c.new-cursor.ensures c.in_ok-operation.ensures.read.0 c.in_ok-operation.ensures.read.1
    c.in_ok-padding.ensures.ok.0 (c.in_ok-padding.ensures.ok.1
    ∙ c.remaining.ensures) c.in_ok-check_zeros.ensures c.requires
