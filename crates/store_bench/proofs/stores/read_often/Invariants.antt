use Rattle.std.proofs.Common.{◌≡◌, None}
use Rattle.auth_store_machine.specs.Stores.{IsCache}
use Rattle.store_bench.proofs.stores.read_often.Given as goal

abbrev pub invariant-loop : goal.invariant-loop
invariant-loop l = (l.device.log ≡ None) × IsCache l.cache
