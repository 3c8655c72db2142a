use Rattle.std.proofs.Common.{◌≡◌, ◌++◌, take, drop}
use Rattle.std.specs.Prelude.{find}
use Rattle.fault_storage.specs.Pending.{Entry, changed, has_name}
use Rattle.fault_storage.proofs.pending.place_of_name.Given as goal

abbrev pub invariant-loop-place : goal.invariant-loop-place
invariant-loop-place l = record {
  is : find (has_name l.partition l.name) (drop l.place l.standings) ≡ find (has_name l.partition l.name) l.standings;
  change : (change : Entry → Entry) → take l.place l.standings ++ changed (has_name l.partition l.name) change (drop l.place l.standings) ≡ changed
      (has_name l.partition l.name) change l.standings;
}
