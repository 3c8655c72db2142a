-- Reading a varint group by group, as a loop does.
use Rattle.std.proofs.Common.{◌≡◌, ℕ, zero, suc, ◌+◌, ◌-◌, ◌*◌, ◌%◌, ◌^◌, ◌<◌, ◌≤◌, add-one, ltb, eqb, true, false}
use Rattle.std.proofs.Common.{List, [], ◌∷◌, ◌++◌, Result, Ok, Err, refl, sym, ◌∙◌, ap, arith, inl, inr, lit<, rules}
use Rattle.std.proofs.Common.{Fits, w64}
use Rattle.std.specs.Prelude.{if◌then◌else◌, ◌==◌}
use Rattle.std.proofs.lemmas.Bool.{lt-ltb, le-ltb, eq-eqb, ne_eqb, cases_eq}
use Rattle.std.proofs.Math.Nat.{pow-suc, pow-le-pow_right, mul-le-mul_right}
use Rattle.merkle_forest_parts.specs.declared.codec.error.Error.{Error}
use Rattle.merkle_forest_parts.specs.declared.codec.error.Error.TheVariants.{EndOfBuffer, InvalidVarint}
use Rattle.merkle_forest_parts.specs.Codec.{◌>>=◌}
use Rattle.merkle_forest_parts.specs.Varint.{varint, over_group, groups_at}
use Rattle.merkle_forest_parts.specs.Laws.Varint.{varint_small, varint_over}

-- the groups before, and the number after them, which isn't 0 in the shortest encoding
abbrev pub over_groups : ℕ → ℕ → ℕ × List ℕ → Result (ℕ × List ℕ) Error
over_groups number weight high = if high.0 == 0 then Err InvalidVarint else Ok (number + weight * high.0, high.1)

-- the first groups, which weigh less than `weight`, and the number of the groups after them
abbrev pub with_groups : ℕ → ℕ → ℕ → Result (ℕ × List ℕ) Error → Result (ℕ × List ℕ) Error
with_groups zero number weight read = read
with_groups (suc group) number weight read = read >>= over_groups number weight

-- before the first group nothing was added, and it weighs 1
pub at_first : (group number weight : ℕ) → weight ≡ 128 ^ group → number < weight → group ≡ 0
    → (number ≡ 0) × (weight ≡ 1)
at_first group number weight power small first =
    let one : weight ≡ 1 = power ∙ ap (λ g. 128 ^ g) first in (omega arith, one)

-- a group of seven bits and those before it weigh less than the next one, and that is within 63 bits
pub group_fits : (group number weight low : ℕ) → weight ≡ 128 ^ group → group < 9 → low < 128 → number < weight
    → (number + low * weight < weight * 128) × (weight * 128 ≤ 2 ^ 63)
group_fits group number weight low power some small below =
    let most : 128 ^ group ≤ 128 ^ 8 = pow-le-pow_right (lit< tt) {i = group} {j = 8} (omega arith) in
    let product : low * weight ≤ 127 * weight = mul-le-mul_right weight (omega arith) in
    (omega arith, omega arith)

pub product_fits : (group number weight low : ℕ) → weight ≡ 128 ^ group → group < 9 → low < 128 → number < weight
    → Fits w64 (low * weight)
product_fits group number weight low power some small below =
    let fits = group_fits group number weight low power some small below in let bound : low * weight < 2 ^ 64 =
    omega arith in search rules

pub sum_fits : (group number weight low : ℕ) → weight ≡ 128 ^ group → group < 9 → low < 128 → number < weight
    → Fits w64 (number + low * weight)
sum_fits group number weight low power some small below =
    let fits = group_fits group number weight low power some small below in
    let bound : number + low * weight < 2 ^ 64 = omega arith in search rules

pub weight_fits : (group weight : ℕ) → weight ≡ 128 ^ group → group < 9 → Fits w64 (weight * 128)
weight_fits group weight power some =
    let most : 128 ^ group ≤ 128 ^ 8 = pow-le-pow_right (lit< tt) {i = group} {j = 8} (omega arith) in
    let bound : weight * 128 < 2 ^ 64 = omega arith in search rules

pub next_power : (group weight : ℕ) → weight ≡ 128 ^ group → weight * 128 ≡ 128 ^ (group + 1)
next_power group weight power = rw (add-one, pow-suc, power) refl

-- what encodes the number after a group completes the number
pub encodes_on : (group number weight b : ℕ) (start bytes rest : List ℕ) → 128 ≤ b → b < 256 → bytes ≡ b ∷ rest
    → ((high : ℕ) (tail : List ℕ) → (0 < group → 0 < high) → bytes ≡ varint high ++ tail
    → start ≡ varint (number + weight * high) ++ tail)
    → (high : ℕ) (tail : List ℕ) → (0 < group + 1 → 0 < high) → rest ≡ varint high ++ tail
    → start ≡ varint (number + b % 128 * weight + weight * 128 * high) ++ tail
encodes_on group number weight b start bytes rest large byte front so_far high tail shortest after =
    let positive : 0 < high = omega (arith, shortest) in
    let low : b - 128 ≡ b % 128 = omega arith in
    let encoded : bytes ≡ varint (b - 128 + 128 * high) ++ tail = front
    ∙ rw (varint_over b high large byte positive, after) refl in
    let value : number + weight * (b - 128 + 128 * high) ≡ number + b % 128 * weight + weight * 128 * high =
    rw low (omega arith) in
    so_far (b - 128 + 128 * high) tail (λ _. omega arith) encoded ∙ ap (λ n. varint n ++ tail) value

-- the last group does too
pub encodes_last : (group number weight b : ℕ) (start bytes rest : List ℕ) → b < 128 → (0 < group → 0 < b)
    → bytes ≡ b ∷ rest
    → ((high : ℕ) (tail : List ℕ) → (0 < group → 0 < high) → bytes ≡ varint high ++ tail
    → start ≡ varint (number + weight * high) ++ tail)
    → start ≡ varint (number + b % 128 * weight) ++ rest
encodes_last group number weight b start bytes rest small shortest front so_far =
    let same : b % 128 ≡ b = omega arith in
    let value : number + weight * b ≡ number + b % 128 * weight = rw same (omega arith) in
    so_far b rest shortest (front ∙ rw (varint_small b small) refl) ∙ ap (λ n. varint n ++ rest) value

pub at_end : (group number weight more : ℕ) (bytes : List ℕ) (total : Result (ℕ × List ℕ) Error)
    → bytes ≡ [] → with_groups group number weight (groups_at more bytes) ≡ total → total ≡ Err EndOfBuffer
unfolding groups_at
at_end zero number weight more bytes total none so_far = sym so_far ∙ rw none refl
at_end (suc group) number weight more bytes total none so_far = sym so_far ∙ rw none refl

pub is_long : (group number weight more : ℕ) (bytes rest : List ℕ) (b : ℕ) (total : Result (ℕ × List ℕ) Error)
    → 0 < group → 0 < more → b ≡ 0 → bytes ≡ b ∷ rest → with_groups group number weight (groups_at more bytes) ≡ total
    → total ≡ Err InvalidVarint
unfolding groups_at
is_long zero number weight more bytes rest b total later some nothing front so_far = absurd (omega arith)
is_long (suc group) number weight zero bytes rest b total later some nothing front so_far = absurd (omega arith)
is_long (suc group) number weight (suc more) bytes rest b total later some nothing front so_far = sym so_far
    ∙ rw (front, nothing) refl

pub is_last : (group number weight more : ℕ) (bytes rest : List ℕ) (b : ℕ) (total : Result (ℕ × List ℕ) Error)
    → (group ≡ 0 → (number ≡ 0) × (weight ≡ 1)) → (0 < group → 0 < b) → 0 < more → b < 128 → bytes ≡ b ∷ rest
    → with_groups group number weight (groups_at more bytes) ≡ total → total ≡ Ok (number + b % 128 * weight, rest)
unfolding groups_at
is_last group number weight zero bytes rest b total first shortest some small front so_far = absurd (omega arith)
is_last zero number weight (suc more) bytes rest b total first shortest some small front so_far =
    let ends : ltb b 128 ≡ true = lt-ltb b 128 small in
    let start = first refl in
    let value : b ≡ number + b % 128 * weight = rw (start.0, start.1) (omega arith) in
    sym so_far ∙ rw (front, ends) (ap (λ (n : ℕ). Ok (n, rest)) value)
is_last (suc group) number weight (suc more) bytes rest b total first shortest some small front so_far =
    let ends : ltb b 128 ≡ true = lt-ltb b 128 small in
    let positive : eqb b 0 ≡ false = ne_eqb b 0 (λ e. omega (arith, shortest)) in
    let same : b % 128 ≡ b = omega arith in
    let value : number + weight * b ≡ number + b % 128 * weight = rw same (omega arith) in
    sym so_far ∙ rw (front, ends, positive) (ap (λ (n : ℕ). Ok (n, rest)) value)

-- both ways of adding a group to what follows
pub regroup : (number weight low : ℕ) (read : Result (ℕ × List ℕ) Error)
    → (read >>= over_group low >>= over_groups number weight)
    ≡ (read >>= over_groups (number + low * weight) (weight * 128))
regroup number weight low (Err e) = refl
regroup number weight low (Ok high) =
    elim (cases_eq high.0 0) [
      | inl nothing ↦ let e : eqb high.0 0 ≡ true = eq-eqb high.0 0 nothing in rw e refl
      | inr some ↦
          let e : eqb high.0 0 ≡ false = ne_eqb high.0 0 some in
          let positive : 0 < high.0 = omega arith in
          let f : eqb (low + 128 * high.0) 0 ≡ false = ne_eqb _ 0 (λ none. omega arith) in
          let value : number + weight * (low + 128 * high.0) ≡ number + low * weight + weight * 128 * high.0 =
          omega arith in
          rw (e, f) (ap (λ (n : ℕ). Ok (n, high.1)) value)
    ]

pub goes_on : (group number weight more : ℕ) (bytes rest : List ℕ) (b : ℕ) (total : Result (ℕ × List ℕ) Error)
    → (group ≡ 0 → (number ≡ 0) × (weight ≡ 1)) → group < more → 128 ≤ b → b < 256 → bytes ≡ b ∷ rest
    → with_groups group number weight (groups_at (more - group) bytes) ≡ total
    → with_groups (group + 1) (number + b % 128 * weight) (weight * 128) (groups_at (more - (group + 1)) rest) ≡ total
unfolding groups_at
goes_on zero number weight more bytes rest b total first some large byte front so_far =
    let m : more - 0 ≡ suc (more - (0 + 1)) = omega arith in
    let over : ltb b 128 ≡ false = le-ltb b 128 large in
    let low : b - 128 ≡ b % 128 = omega arith in
    let start = first refl in
    let value : number + b % 128 * weight ≡ b % 128 = rw (start.0, start.1) (omega arith) in
    let weighs : weight * 128 ≡ 128 = rw start.1 refl in
    let one : groups_at (more - 0) bytes ≡ (groups_at (more - (0 + 1)) rest >>= over_group (b % 128)) =
    rw (m, front, over, low) refl in
    rw (value, weighs) (sym one ∙ so_far)
goes_on (suc group) number weight more bytes rest b total first some large byte front so_far =
    let m : more - suc group ≡ suc (more - (suc group + 1)) = omega arith in
    let over : ltb b 128 ≡ false = le-ltb b 128 large in
    let low : b - 128 ≡ b % 128 = omega arith in
    let one : with_groups (suc group) number weight (groups_at (more - suc group) bytes)
    ≡ with_groups (suc (suc group)) (number + b % 128 * weight) (weight * 128)
    (groups_at (more - (suc group + 1)) rest) =
    rw (m, front, over, low) (regroup number weight (b % 128) (groups_at (more - (suc group + 1)) rest)) in
    let next : suc group + 1 ≡ suc (suc group) = add-one _ in
    let later : with_groups (suc (suc group)) (number + b % 128 * weight) (weight * 128)
    (groups_at (more - (suc group + 1)) rest) ≡ total = sym one ∙ so_far in
    rw next (rw next at later)

pub is_tenth : (group number weight b : ℕ) (bytes rest : List ℕ) (total : Result (ℕ × List ℕ) Error)
    → 9 ≤ group → group ≤ 9 → b ≡ 1 → bytes ≡ b ∷ rest
    → with_groups group number weight (groups_at (9 - group) bytes) ≡ total → total ≡ Ok (number + weight, rest)
unfolding groups_at
is_tenth group number weight b bytes rest total most least one front so_far =
    let nine : group ≡ 9 = omega arith in
    let value : number + weight * 1 ≡ number + weight = omega arith in
    let start : with_groups 9 number weight (groups_at 0 bytes) ≡ total = rw nine at so_far in
    sym start ∙ rw (front, one) (ap (λ (n : ℕ). Ok (n, rest)) value)

pub past_64_bits : (group number weight b : ℕ) (bytes rest : List ℕ) (total : Result (ℕ × List ℕ) Error)
    → 9 ≤ group → group ≤ 9 → (b ≡ 1 → ⊥) → bytes ≡ b ∷ rest
    → with_groups group number weight (groups_at (9 - group) bytes) ≡ total → total ≡ Err InvalidVarint
unfolding groups_at
past_64_bits group number weight b bytes rest total most least other front so_far =
    let nine : group ≡ 9 = omega arith in
    let e : eqb b 1 ≡ false = ne_eqb b 1 other in
    let start : with_groups 9 number weight (groups_at 0 bytes) ≡ total = rw nine at so_far in
    sym start ∙ rw (front, e) refl

-- a tenth byte of 1 completes the number
pub encodes_tenth : (group number weight b : ℕ) (start bytes rest : List ℕ) → b ≡ 1 → bytes ≡ b ∷ rest
    → ((high : ℕ) (tail : List ℕ) → (0 < group → 0 < high) → bytes ≡ varint high ++ tail
    → start ≡ varint (number + weight * high) ++ tail)
    → start ≡ varint (number + weight) ++ rest
encodes_tenth group number weight b start bytes rest one front so_far =
    let value : number + weight * 1 ≡ number + weight = omega arith in
    so_far 1 rest (λ _. omega arith) (front ∙ rw (one, varint_small 1 (lit< tt)) refl)
    ∙ ap (λ n. varint n ++ rest) value
