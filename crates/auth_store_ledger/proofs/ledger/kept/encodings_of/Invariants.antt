use Rattle.std.proofs.Common.{◌≡◌, take, map}
use Rattle.auth_store_ledger.specs.History.{meanings}
use Rattle.auth_store_ledger.specs.Store.{encodings, AreWritten}
use Rattle.auth_store_log.specs.Records.{format_of}
use Rattle.auth_store_ledger.proofs.ledger.kept.encodings_of.Given as goal

abbrev pub invariant-loop-operation : goal.invariant-loop-operation
invariant-loop-operation g l = record {
  encoded : map (λ e. e.items) l.encoded.items ≡ encodings g.K.FixedSize.SIZE g.V.FixedSize.SIZE
      (meanings g.K.Write.encoding g.V.Write.encoding (take l.operation-index l.operations));
  written : AreWritten (format_of (g.K.Read.after tt) (g.V.Read.after tt) g.K.FixedSize.SIZE g.V.FixedSize.SIZE)
      (meanings g.K.Write.encoding g.V.Write.encoding (take l.operation-index l.operations));
}
