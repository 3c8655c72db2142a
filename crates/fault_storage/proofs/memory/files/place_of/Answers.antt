use Rattle.std.proofs.Common.{rules}
use Rattle.fault_storage.specs.Stores.{has_number}
use Rattle.fault_storage.proofs.Places.{place-found}
use Rattle.fault_storage.proofs.memory.files.place_of.Goals as goal

pub returns-then-stored-number : goal.returns-then-stored-number
returns-then-stored-number c =
    place-found (has_number c.args.number) c.args.files.now c.loop-place.place c.index-files-place.result c.loop-place-test.true c.index-files-place.is
    (search rules)
    c.loop-place.invariant.some c.loop-place.invariant.is c.loop-place.invariant.number c.loop-place.invariant.change
