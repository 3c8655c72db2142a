use Rattle.std.proofs.Common.{rules}
use Rattle.fault_storage.specs.Pending.{has_name}
use Rattle.fault_storage.proofs.Standings.{first-found}
use Rattle.fault_storage.proofs.pending.place_of_name.Goals as goal

pub returns-then-has_name : goal.returns-then-has_name
returns-then-has_name c =
    first-found (has_name c.args.partition.now c.args.name.now) c.args.standings.now c.loop-place.place c.index-standings-place.result
    c.loop-place-test.true c.index-standings-place.is (search rules) c.loop-place.invariant.is c.loop-place.invariant.change
