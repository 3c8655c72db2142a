use Rattle.std.proofs.Common.{◌≡◌, ◌+◌, ◌++◌, length}
use Rattle.fault_storage.specs.Snapshots.{numbered}
use Rattle.fault_storage.proofs.memory.snapshot.numbered_files.Given as goal

-- what was made so far, and then what is to be made of those that are left
abbrev pub invariant-loop-durable : goal.invariant-loop-durable
invariant-loop-durable l = record {
  number : l.number + length l.durable-iterator.rest.items ≡ l.from + length l.fn.kept.items;
  files : l.files.items ++ numbered l.number l.durable-iterator.rest.items ≡ numbered l.from l.fn.kept.items;
}
