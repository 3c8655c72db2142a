use Rattle.std.proofs.Common.{rules, of_calls}
use Rattle.merkle_proofs.proofs.building.build_from.Goals as goal

pub returns-clause-refused : goal.returns-clause-refused
returns-clause-refused g c = c.build.ensures.refused (g.R.Readable.digest_at c.args.nodes.now) (λ p answer low post. search (rules, of_calls))
