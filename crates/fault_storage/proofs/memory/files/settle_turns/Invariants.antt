use Rattle.std.proofs.Common.{◌≡◌, drop}
use Rattle.fault_storage.specs.Stores.{crashed_files}
use Rattle.fault_storage.proofs.memory.files.settle_turns.Given as goal

-- what is settled so far, and then the turns that are left, leave what all of them leave
abbrev pub invariant-loop-number : goal.invariant-loop-number
invariant-loop-number g l =
    crashed_files l.files.items (drop l.number-index l.order) (g.R.Rng.stream l.rng) ≡ crashed_files l.initial.files.items l.order
    (g.R.Rng.stream l.initial.rng)
