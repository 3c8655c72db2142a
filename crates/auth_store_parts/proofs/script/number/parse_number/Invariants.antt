use Rattle.std.proofs.Common.{◌≡◌, ℕ, ◌<◌, ◌^◌, get_or, drop, true}
use Rattle.std.specs.Char.{is_ascii_digit}
use Rattle.auth_store_parts.specs.Script.{decimal_value, decimal_value_after}
use Rattle.auth_store_parts.proofs.script.number.parse_number.Given as goal

-- the digits so far, and the value that those to come bring it to
abbrev pub invariant-loop-digit : goal.invariant-loop-digit
invariant-loop-digit l = record {
  digits : (k d : ℕ) → k < l.digit-index → is_ascii_digit (get_or l.text k d) ≡ true;
  small : l.value < 2 ^ 64;
  value : decimal_value_after l.value (drop l.digit-index l.text) ≡ decimal_value l.text;
}
