use Rattle.std.proofs.Common.{ap}
use Rattle.state_proofs.specs.Exclusion.{by_commit}
use Rattle.state_proofs.specs.ProofsCode.{parts_of}
use Rattle.auth_store_proving.proofs.absence.proof_by_commit.Goals as goal

pub returns-clause-by : goal.returns-clause-by
returns-clause-by g c = ap (by_commit (parts_of g.D.Write.encoding g.F.PendingOf.held c.args.proof)) c.in_ok-metadata.ensures.metadata
