use Rattle.std.proofs.Common.{◌≡◌, ◌∷◌, [], ◌++◌, ◌+◌, ◌∙◌, ap, sym, List, map, take}
use Rattle.std.proofs.lemmas.List.{map_more}
use Rattle.state_ops.specs.Operation.{Operation, meaning_of, fixed_encoding}
use Rattle.auth_store_log.specs.Records.{Format, format_of}
use Rattle.auth_store_ledger.proofs.Written.{written_more, encoded_together}
use Rattle.auth_store_ledger.proofs.ledger.kept.encodings_of.Goals as goal

pub loop-operation-preserved : goal.loop-operation-preserved
loop-operation-preserved g c =
    let format : Format = format_of (g.K.Read.after tt) (g.V.Read.after tt) g.K.FixedSize.SIZE g.V.FixedSize.SIZE in
    let meaning = meaning_of g.K.Write.encoding g.V.Write.encoding in
    let i = c.loop-operation.operation-index in
    let operation : Operation = meaning c.operation-item.result in
    let log : List Operation = map meaning (take i c.args.operations.now) in
    let more : List Operation = map meaning (take (i + 1) c.args.operations.now) in
    let is : more ≡ log ++ operation ∷ [] = map_more meaning c.args.operations.now i c.operation-item.result
    c.loop-operation-test.true ∙ ap (λ x. log ++ meaning x ∷ []) (sym c.operation-item.is) in
    record {
      encoded = encoded_together (λ e. e.items) (fixed_encoding g.K.FixedSize.SIZE g.V.FixedSize.SIZE) c.loop-operation.encoded.items
          (c.in_ok-record.record ∷ []) c.push.new.self.items log (operation ∷ []) more c.in_ok-push.ensures.items is
          c.loop-operation.invariant.encoded (ap (λ b. b ∷ []) c.in_ok-record.ensures.bytes);
      written = written_more format log more operation is c.loop-operation.invariant.written c.in_ok-record.ensures.recorded;
    }
