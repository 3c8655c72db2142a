use Rattle.std.proofs.Common.{◌≡◌, ◌++◌, drop}
use Rattle.fault_storage.proofs.memory.snapshot.copied_names.Given as goal

-- what was made so far, and then what is to be made of those that are left
abbrev pub invariant-loop-name : goal.invariant-loop-name
invariant-loop-name l = l.copies.items ++ drop l.name-index l.names ≡ l.names
