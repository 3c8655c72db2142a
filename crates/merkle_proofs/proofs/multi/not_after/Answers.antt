use Rattle.std.proofs.Common.{◌≡◌, suc, ◌-◌, Some, ◌∙◌, ap, arith}
use Rattle.merkle_proofs.proofs.multi.not_after.Goals as goal

pub returns : goal.returns
returns g c leaves locations bad =
    let before : c.args.low ≡ suc (c.args.low - 1) = omega (arith, c.requires) in
    (c.args.low - 1, bad ∙ ap (λ n. Some (n, c.args.location)) before, omega (arith, c.requires, c.as_u64.ensures, c.if-as_u64-low.false))
