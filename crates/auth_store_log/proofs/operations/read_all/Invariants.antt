use Rattle.std.proofs.Common.{◌≡◌, ◌++◌, length}
use Rattle.auth_store_parts.specs.History.{meanings}
use Rattle.auth_store_log.specs.Records.{format_of, log_bytes, AreRecorded}
use Rattle.auth_store_log.proofs.operations.read_all.Given as goal

-- what was read, and what is left behind it, are all of the bytes
abbrev pub invariant-loop-cursor : goal.invariant-loop-cursor
invariant-loop-cursor g l = record {
  bytes : l.bytes ≡ log_bytes g.K.FixedSize.SIZE g.V.FixedSize.SIZE (meanings g.K.Write.encoding g.V.Write.encoding l.log.items) ++ l.cursor;
  recorded : AreRecorded (format_of (g.K.Read.after tt) (g.V.Read.after tt) g.K.FixedSize.SIZE g.V.FixedSize.SIZE)
      (meanings g.K.Write.encoding g.V.Write.encoding l.log.items);
}

abbrev pub decreases-loop-cursor : goal.decreases-loop-cursor
decreases-loop-cursor g l = length l.cursor
