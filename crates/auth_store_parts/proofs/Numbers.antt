-- The value of decimal text.
use Rattle.std.proofs.Common.{◌≡◌, ℕ, ◌+◌, ◌-◌, ◌*◌, ◌<◌, ◌≤◌}
use Rattle.std.proofs.Common.{List, [], ◌∷◌, length, drop, get_or, refl, ap, add-one, arith}
use Rattle.std.proofs.Math.Seq.{drop-cons}
use Rattle.std.proofs.lemmas.List.{drop_all}
use Rattle.auth_store_parts.specs.Script.{decimal_value_after}

-- more digits make no less
pub decimal_value_after-le : (n : ℕ) (cs : List ℕ) → n ≤ decimal_value_after n cs
decimal_value_after-le n [] = omega arith
decimal_value_after-le n (c ∷ cs) = let more = decimal_value_after-le (n * 10 + (c - 48)) cs in omega arith

-- one more digit
pub decimal_value_after-step : (n i : ℕ) (cs : List ℕ) → i < length cs
    → decimal_value_after n (drop i cs) ≡ decimal_value_after (n * 10 + (get_or cs i 0 - 48)) (drop (i + 1) cs)
decimal_value_after-step n i cs h = rw (add-one, drop-cons cs i 0) refl

-- a value that passes a limit with the next digit passes it with all digits
pub decimal_value_after-past : (n i limit : ℕ) (cs : List ℕ) → i < length cs → limit ≤ n * 10 + (get_or cs i 0 - 48)
    → limit ≤ decimal_value_after n (drop i cs)
decimal_value_after-past n i limit cs h past =
    let step = decimal_value_after-step n i cs h in
    let more = decimal_value_after-le (n * 10 + (get_or cs i 0 - 48)) (drop (i + 1) cs) in
    omega (arith, step, more)

-- after the last digit
pub decimal_value_after-end : (n i : ℕ) (cs : List ℕ) → length cs ≤ i → decimal_value_after n (drop i cs) ≡ n
decimal_value_after-end n i cs h = ap (decimal_value_after n) (drop_all i cs h)
