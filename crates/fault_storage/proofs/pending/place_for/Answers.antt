use Rattle.std.proofs.Common.{rules}
use Rattle.fault_storage.specs.Pending.{is_of}
use Rattle.fault_storage.proofs.Standings.{first-found}
use Rattle.fault_storage.proofs.pending.place_for.Goals as goal

pub returns-then-is_of : goal.returns-then-is_of
returns-then-is_of c =
    first-found (is_of c.args.ticket.now) c.args.standings.now c.loop-place.place c.index-standings-place.result c.loop-place-test.true
    c.index-standings-place.is (search rules) c.loop-place.invariant.is c.loop-place.invariant.change
