use Rattle.std.proofs.Common.{◌∙◌, ◌%◌, nat_lt, ap, sym}
use Rattle.fault_storage_parts.specs.DrawsCode.{rate_of}
use Rattle.fault_storage_parts.proofs.DrawLemmas.{sample-certain, sample-drawn}
use Rattle.fault_storage_parts.proofs.probability.Probability.sample.Goals as goal

pub returns-then-is_certain : goal.returns-then-is_certain
returns-then-is_certain g c =
    sym (sample-certain (rate_of c.args.self.now) (g.R.Rng.stream c.args.rng.now) (sym c.is_certain.ensures ∙ c.if-is_certain.true))

pub returns : goal.returns
returns g c =
    ap (λ drawn. (nat_lt (drawn.0 % c.args.self.now.denominator) c.args.self.now.numerator, drawn.1)) c.next_u64.ensures
    ∙ sym (sample-drawn (rate_of c.args.self.now) (g.R.Rng.stream c.args.rng.now) (sym c.is_certain.ensures ∙ c.if-is_certain.false))
