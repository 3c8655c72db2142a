use Rattle.std.proofs.Common.{◌≡◌, ◌-◌, take, drop}
use Rattle.auth_store_ledger.specs.History.{meanings}
use Rattle.auth_store_proving.proofs.logged.operations_between.Given as goal

-- what was read so far, of a log that stays
abbrev pub invariant-loop-location : goal.invariant-loop-location
invariant-loop-location g l = record {
  read : meanings g.K.Write.encoding g.V.Write.encoding l.operations.items
      ≡ take (l.location - l.start) (drop l.start (g.L.LoggedValues.log l.fn.log));
  same : g.L.LoggedValues.log l.log ≡ g.L.LoggedValues.log l.fn.log;
  leads : g.L.LoggedValues.leads l.fn.log l.log;
}
