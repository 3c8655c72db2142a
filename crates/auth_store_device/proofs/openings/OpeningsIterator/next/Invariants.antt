use Rattle.std.proofs.Common.{◌≡◌, ◌≤◌, ◌-◌, length, take, drop}
use Rattle.auth_store_device.specs.OpeningsCode.{openings_from}
use Rattle.auth_store_device.proofs.openings.OpeningsIterator.next.Given as goal

abbrev pub invariant-loop-self : goal.invariant-loop-self
invariant-loop-self l =
    (l.self-inside.place ≤ length l.self-inside.record_kept.now.in_order)
    × (openings_from (take l.self-inside.place l.self-inside.record_kept.now.in_order) (drop l.self-inside.place l.self-inside.record_kept.now.in_order)
    ≡ openings_from (take l.initial.self-inside.place l.initial.self-inside.record_kept.now.in_order)
    (drop l.initial.self-inside.place l.initial.self-inside.record_kept.now.in_order))

abbrev pub decreases-loop-self : goal.decreases-loop-self
decreases-loop-self l = length l.self-inside.record_kept.now.in_order - l.self-inside.place
