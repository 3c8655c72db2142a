use Rattle.std.proofs.Common.{arith}
use Rattle.auth_store_run.proofs.run_session.Goals as goal

pub run_within-requires : goal.run_within-requires
run_within-requires g c = assumption c.well_formed

pub returns-in-Ok-clause-runs : goal.returns-in-Ok-clause-runs
returns-in-Ok-clause-runs g c = c.run_within.ensures.runs (c.in-Ok.ensures.0, omega (arith, c.in-Ok.ensures.1, c.len.ensures))
