use Rattle.std.proofs.Common.{◌∙◌, List, ap, arith}
use Rattle.state_ops.specs.Operation.{Operation}
use Rattle.auth_store_proving.specs.Proving.{between}
use Rattle.auth_store_ledger.specs.History.{activity_bits}
use Rattle.auth_store_proving.proofs.Answered.{same_range}
use Rattle.auth_store_proving.proofs.ranges.range_between.Goals as goal

pub operations_between-requires : goal.operations_between-requires
operations_between-requires g c = record {
  may = c.requires.may;
  ordered = omega (arith, c.requires.some);
  within = omega (arith, c.requires.within, c.requires.of.keeps.current.leaves);
}

pub returns-clause-range : goal.returns-clause-range
returns-clause-range g c =
    let log : List Operation = g.L.LoggedValues.log c.args.log.now in
    same_range _ _ _ _ _ _
    (c.in_ok-operations.ensures.operations
    ∙ ap (λ (l : List Operation). between c.args.start c.args.stop l) c.requires.of.keeps.whole) (c.in_ok-active.ensures log c.requires.of
    ∙ ap (λ (l : List Operation). between c.args.start c.args.stop (activity_bits l)) c.requires.of.keeps.whole)
    (c.in_ok-bytes.ensures log c.requires.of)
