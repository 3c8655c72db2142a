use Rattle.std.proofs.Common.{◌∙◌, List, ap, arith}
use Rattle.state_ops.specs.Operation.{Operation}
use Rattle.auth_store_proving.specs.Proving.{between}
use Rattle.auth_store_proving.proofs.Answered.{same_slice}
use Rattle.auth_store_proving.proofs.ranges.slice_between.Goals as goal

pub operations_between-requires : goal.operations_between-requires
operations_between-requires g c = record {
  may = c.requires.may;
  ordered = omega (arith, c.requires.some);
  within = omega (arith, c.requires.within, c.requires.of.keeps.current.leaves);
}

pub returns-clause-slice : goal.returns-clause-slice
returns-clause-slice g c =
    let log : List Operation = g.L.LoggedValues.log c.args.log.now in
    same_slice _ _ _ _
    (c.in_ok-operations.ensures.operations
    ∙ ap (λ (l : List Operation). between c.args.start c.args.stop l) c.requires.of.keeps.whole)
    (c.in_ok-bytes.ensures log c.requires.of)
