use Rattle.std.proofs.Common.{◌≡◌, ◌++◌, drop}
use Rattle.fault_storage.specs.Snapshots.{durable_map}
use Rattle.fault_storage.proofs.memory.snapshot.durable_files.Given as goal

-- what was made so far, and then what is to be made of those that are left
abbrev pub invariant-loop-stored : goal.invariant-loop-stored
invariant-loop-stored l =
    l.kept.items ++ durable_map (drop l.stored-index l.files) ≡ durable_map l.files
