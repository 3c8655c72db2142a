use Rattle.std.proofs.Common.{◌≡◌, false, take}
use Rattle.std.specs.List.{list_any}
use Rattle.auth_store_parts.specs.History as spec
use Rattle.auth_store_log.proofs.replay.next_batch.Given as goal

-- none that was passed is a commit
abbrev pub invariant-loop-at : goal.invariant-loop-at
invariant-loop-at g l =
    list_any spec.is_commit (spec.meanings g.K.Write.encoding g.V.Write.encoding (take l.at l.operations)) ≡ false
