use Rattle.std.proofs.Common.{◌≡◌, ◌^◌, inl, inr, true, false, refl, subst, arith}
use Rattle.std.proofs.lemmas.Bool.{cases_lt}
use Rattle.std.proofs.lemmas.Nat.{le-div, pow_pos}
use Rattle.state_current.specs.Settled.{IsSettled}
use Rattle.state_current.proofs.SettledNodes.{settled_within}
use Rattle.state_current.proofs.settled.greatest_settled.Goals as goal

-- more than the operations fill are not settled
pub loop-chunks-init : goal.loop-chunks-init
loop-chunks-init g c = record {
  within = omega (arith, c.min-chunks.ensures);
  greater = λ chunks past le settled.
      let height = c.args.height in
      let fits = settled_within g.F.Family.merge_rule g.met.F.Family.merges_equals c.args.operations height chunks settled in
      let some = pow_pos height in
      let full = le-div chunks c.args.operations (2 ^ height) (omega (arith, some)) fits in
      absurd (omega (arith, past, le, full, c.min-chunks.ensures));
}

pub loop-chunks-preserved : goal.loop-chunks-preserved
loop-chunks-preserved g c = record {
  within = omega (arith, c.loop-chunks.invariant.within);
  greater = λ chunks past le settled.
      elim (cases_lt c.loop-chunks.chunks chunks) [
        | inl more ↦ c.loop-chunks.invariant.greater chunks more le settled
        | inr same ↦ absurd (
            let at : chunks ≡ c.loop-chunks.chunks = omega (arith, past, same, c.loop-chunks-test.true) in
            let e : false ≡ true =
            c.if-is_settled.ensures.1 (subst (IsSettled g.F.Family.merge_rule c.args.height c.args.operations) at settled) in
            cc)
      ];
}

pub returns-then-is_settled : goal.returns-then-is_settled
returns-then-is_settled g c before = record {
  from = omega (arith, c.loop-chunks-test.true);
  to = inr c.loop-chunks.invariant.within;
  settled = c.if-is_settled.ensures.0 refl;
  greatest = λ chunks le settled.
      elim (cases_lt c.loop-chunks.chunks chunks) [
        | inl more ↦ absurd (omega (arith, c.loop-chunks.invariant.greater chunks more le settled, more, c.loop-chunks-test.true))
        | inr few ↦ few
      ];
}

pub returns : goal.returns
returns g c before = record {
  from = omega arith;
  to = inl refl;
  settled = before;
  greatest = λ chunks le settled.
      elim (cases_lt c.loop-chunks.chunks chunks) [
        | inl more ↦ c.loop-chunks.invariant.greater chunks more le settled
        | inr few ↦ omega (arith, few, c.loop-chunks-test.false)
      ];
}
