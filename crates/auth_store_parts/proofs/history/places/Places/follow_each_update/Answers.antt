use Rattle.std.proofs.Common.{rules, arith}
use Rattle.std.proofs.lemmas.Grind.{common_steps}
use Rattle.auth_store_parts.proofs.history.places.Places.follow_each_update.Goals as goal

pub returns-in_err-follow_update-clause-earlier : goal.returns-in_err-follow_update-clause-earlier
returns-in_err-follow_update-clause-earlier g c = λ first are.
    c.follow_update.ensures.earlier first (c.loop-operation.invariant.earlier first are)

pub loop-operation-preserved : goal.loop-operation-preserved
loop-operation-preserved g c = record {
  stands = omega arith;
  updated = first_of (search rules, grind (arith, common_steps));
  earlier = λ first are. c.follow_update.ensures.earlier first (c.loop-operation.invariant.earlier first are);
}
