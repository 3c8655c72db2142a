use Rattle.std.proofs.Common.{◌≡◌, ◌<◌, ◌^◌, length, sym, ◌∙◌, arith}
use Rattle.auth_store_parts.specs.Script.{decimal_value}
use Rattle.auth_store_parts.proofs.Numbers.{decimal_value_after-past, decimal_value_after-end}
use Rattle.auth_store_parts.proofs.script.number.parse_number.Goals as goal

pub returns-in_err-checked_mul : goal.returns-in_err-checked_mul
returns-in_err-checked_mul c =
    rw c.from_residual.ensures (λ h.
    let past = decimal_value_after-past c.loop-digit.value c.loop-digit.digit-index (2 ^ 64) c.args.text.now
    (omega arith) (omega (arith, c.in_err-checked_mul.ensures)) in
    omega (arith, past, c.loop-digit.invariant.value, h.2))

pub returns-in_err-value : goal.returns-in_err-value
returns-in_err-value c =
    rw c.from_residual-in_err-value.ensures (λ h.
    let past = decimal_value_after-past c.loop-digit.value c.loop-digit.digit-index (2 ^ 64) c.args.text.now
    (omega arith) (omega (arith, c.in_ok-checked_mul.ensures, c.in_err-value.ensures)) in
    omega (arith, past, c.loop-digit.invariant.value, h.2))

pub returns : goal.returns
returns c =
    let value : c.loop-digit.value ≡ decimal_value c.args.text.now =
    sym (decimal_value_after-end c.loop-digit.value c.loop-digit.digit-index c.args.text.now (omega arith))
    ∙ c.loop-digit.invariant.value in
    let some : 0 < length c.args.text.now = grind arith in
    ((some, λ k d h. c.loop-digit.invariant.digits k d (omega arith), omega (arith, value)), value)
