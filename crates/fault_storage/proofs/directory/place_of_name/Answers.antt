use Rattle.std.proofs.Common.{rules}
use Rattle.fault_storage.specs.Directory.{has_name}
use Rattle.fault_storage.proofs.Places.{place-found}
use Rattle.fault_storage.proofs.directory.place_of_name.Goals as goal

pub returns-then-is : goal.returns-then-is
returns-then-is c =
    place-found (has_name c.args.partition.now c.args.name.now) c.args.files.now c.loop-place.place c.index-files-place.result c.loop-place-test.true
    c.index-files-place.is (search rules)
    c.loop-place.invariant.some c.loop-place.invariant.is c.loop-place.invariant.number c.loop-place.invariant.change
