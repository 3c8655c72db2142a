use Rattle.std.proofs.Common.{◌≡◌, length}
use Rattle.auth_store_device.specs.OpeningsCode.{changes_in}
use Rattle.auth_store_device.proofs.openings.MutationsIterator.next.Given as goal

abbrev pub invariant-loop-self : goal.invariant-loop-self
invariant-loop-self l = changes_in l.self-inside.calls ≡ changes_in l.initial.self-inside.calls

abbrev pub decreases-loop-self : goal.decreases-loop-self
decreases-loop-self l = length l.self-inside.calls
