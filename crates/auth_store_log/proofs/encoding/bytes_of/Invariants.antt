use Rattle.std.proofs.Common.{◌≡◌, take}
use Rattle.auth_store_parts.specs.History.{meanings}
use Rattle.auth_store_log.specs.Records.{format_of, log_bytes, FloorsFit, AreRecorded}
use Rattle.auth_store_log.proofs.encoding.bytes_of.Given as goal

-- the records of the operations so far
abbrev pub invariant-loop-operation : goal.invariant-loop-operation
invariant-loop-operation g l = record {
  bytes : l.bytes.items ≡ log_bytes g.K.FixedSize.SIZE g.V.FixedSize.SIZE
      (meanings g.K.Write.encoding g.V.Write.encoding (take l.operation-index l.operations));
  recorded : FloorsFit (meanings g.K.Write.encoding g.V.Write.encoding (take l.operation-index l.operations))
      → AreRecorded (format_of (g.K.Read.after tt) (g.V.Read.after tt) g.K.FixedSize.SIZE g.V.FixedSize.SIZE)
      (meanings g.K.Write.encoding g.V.Write.encoding (take l.operation-index l.operations));
}
