use Rattle.std.proofs.Common.{◌≡◌, ◌+◌, ◌-◌, ◌≤◌, ◌++◌, drop}
use Rattle.auth_store_index.specs.Growth.{cleared, first_set}
use Rattle.auth_store_index.proofs.floor.first_set_from.Given as goal

abbrev pub invariant-loop-at : goal.invariant-loop-at
invariant-loop-at g l =
    let left = cleared (g.B.ReadableBits.bits l.bits ++ l.more) l.places in
    (l.start ≤ l.at) × (l.at + first_set (drop l.at left) ≡ l.start + first_set (drop l.start left))

abbrev pub decreases-loop-at : goal.decreases-loop-at
decreases-loop-at g l = l.count - l.at
