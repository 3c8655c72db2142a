use Rattle.std.proofs.Common.{◌≡◌, ◌++◌, drop}
use Rattle.fault_storage.specs.Audits.{files_told}
use Rattle.fault_storage.proofs.memory.audit.files_told.Given as goal

-- what is told so far, and then what is told of the files that are left
abbrev pub invariant-loop-stored : goal.invariant-loop-stored
invariant-loop-stored l = l.told.items ++ files_told (drop l.stored-index l.files) ≡ files_told l.files
