use Rattle.std.proofs.Common.{◌≡◌, ◌++◌, drop}
use Rattle.auth_store_ledger.proofs.ledger.commit.as_locations.Given as goal

abbrev pub invariant-loop-place : goal.invariant-loop-place
invariant-loop-place l = l.locations.items ++ drop l.place-index l.places ≡ l.places
