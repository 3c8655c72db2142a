use Rattle.std.proofs.Common.{arith}
use Rattle.std.proofs.lemmas.Bool.Decides.{nat_tests}
use Rattle.fault_storage_parts.proofs.Created.{passes, shows}
use Rattle.fault_storage_parts.proofs.laws.created_is_parsed.Goals as goal

pub returns-clause-passes : goal.returns-clause-passes
returns-clause-passes c =
    passes c.args.layouts c.args.versions c.args.layouts.greatest c.args.versions.greatest (omega arith) (grind (arith, nat_tests, c.requires.layouts))
    (grind (arith, nat_tests, c.requires.versions))

pub returns-clause-shows : goal.returns-clause-shows
returns-clause-shows c = shows c.args.layouts.greatest c.args.versions.greatest (omega arith)
