use Rattle.std.proofs.Common.{◌≡◌, ◌≤◌}
use Rattle.auth_store_log.specs.Records.{format_of, is_commit_record, up_to_last, pieces}
use Rattle.auth_store_log.proofs.records.last_commit.Given as goal

-- none of the records behind is a commit
abbrev pub invariant-loop-left : goal.invariant-loop-left
invariant-loop-left g l = record {
  within : l.left ≤ l.count;
  found : up_to_last (is_commit_record (format_of (g.K.Read.after tt) (g.V.Read.after tt) g.K.FixedSize.SIZE g.V.FixedSize.SIZE)) (pieces l.size l.left l.bytes)
      ≡ up_to_last (is_commit_record (format_of (g.K.Read.after tt) (g.V.Read.after tt) g.K.FixedSize.SIZE g.V.FixedSize.SIZE))
      (pieces l.size l.count l.bytes);
}

abbrev pub decreases-loop-left : goal.decreases-loop-left
decreases-loop-left g l = l.left
