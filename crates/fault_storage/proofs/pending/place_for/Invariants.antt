use Rattle.std.proofs.Common.{◌≡◌, ◌++◌, take, drop}
use Rattle.std.specs.Prelude.{find}
use Rattle.fault_storage.specs.Pending.{Entry, changed, is_of}
use Rattle.fault_storage.proofs.pending.place_for.Given as goal

abbrev pub invariant-loop-place : goal.invariant-loop-place
invariant-loop-place l = record {
  is : find (is_of l.ticket) (drop l.place l.standings) ≡ find (is_of l.ticket) l.standings;
  change : (change : Entry → Entry) → take l.place l.standings ++ changed (is_of l.ticket) change (drop l.place l.standings) ≡ changed (is_of l.ticket)
      change l.standings;
}
