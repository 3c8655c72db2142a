-- Counts of chunks and of inactive peaks.
use Rattle.std.proofs.Common.{◌≡◌, ℕ, zero, suc, ◌+◌, ◌-◌, ◌*◌, ◌/◌, ◌%◌, ◌^◌, ◌<◌, ◌≤◌, eqb, ltb, leb, cond, Bool}
use Rattle.std.proofs.Common.{true, false, List, [], ◌∷◌, length, refl, sym, subst, arith}
use Rattle.std.proofs.lemmas.Bool.{ltb-true}
use Rattle.std.proofs.lemmas.Nat.{pow_pos}
use Rattle.std.proofs.Math.Nat.{div-lt_iff_lt-mul, lt-div-mul-add, lt-mul-div-succ}
use Rattle.merkle_forest.specs.Forest.{Tree, height, Rule, forest_of}
use Rattle.merkle_forest.specs.Nodes.{IsNodeAt, nodes_of_height}
use Rattle.merkle_forest.specs.Trees.{Located, end_of}
use Rattle.merkle_forest.specs.Laws.Trees.{length-located}
use Rattle.state_theory.specs.Canonical.{Setting, State, chunk_bits, forest, peaks, grafted_inactive}
use Rattle.state_theory.specs.Grafting.{aligned_count_with, chunk_aligned_inactive_peaks}

-- nodes begin at multiples of their leaf counts
abbrev pub Aligned : Rule → Type 0
Aligned rule = (n first : ℕ) (node : Tree) → IsNodeAt first node (forest_of rule n)
    → (part : ℕ) × (first ≡ part * 2 ^ height node)

count_case : (n power birth : ℕ) (test : Bool) → (test ≡ true → n < birth) → 0 < power → birth ≤ 2 * power
    → n / power ≤ cond test 0 ((n - birth) / power + 1) + 1
count_case n power birth true below some soon =
    let few : n / power < 2 =
    (div-lt_iff_lt-mul {k = power} {x = n} {y = 2} some).1 (omega (arith, below refl, soon)) in
    omega (arith, few)
count_case n power birth false below some soon =
    let rest : n - birth < (n - birth) / power * power + power = lt-div-mul-add {a = n - birth} {b = power} some in
    let few : n / power < (n - birth) / power + 3 =
    (div-lt_iff_lt-mul {k = power} {x = n} {y = (n - birth) / power + 3} some).1 (omega (arith, rest, soon)) in
    omega (arith, few)

-- at most one full chunk of leaves has no node
pub one_pending : (rule : Rule) (birth : ℕ → ℕ → ℕ) (n level : ℕ)
    → nodes_of_height level (forest_of rule n) ≡ cond (ltb n (birth 0 level)) 0 ((n - birth 0 level) / 2 ^ level + 1)
    → birth 0 level ≤ 2 * 2 ^ level
    → n / 2 ^ level ≤ nodes_of_height level (forest_of rule n) + 1
one_pending rule birth n level counts soon =
    subst (λ (count : ℕ). n / 2 ^ level ≤ count + 1) (sym counts)
    (count_case n (2 ^ level) (birth 0 level) (ltb n (birth 0 level)) (ltb-true n (birth 0 level))
    (pow_pos level) soon)

-- there are no more inactive peaks than peaks
last-few : (test : Bool) (n : ℕ) → cond test 1 0 ≤ suc n
last-few true n = omega arith
last-few false n = omega arith

aligned_count_with-few : (bits later : ℕ) (peak : Located) (n : ℕ) → later ≤ n
    → aligned_count_with bits later peak ≤ suc n
aligned_count_with-few bits zero peak n le = last-few (eqb (end_of peak % bits) 0) n
aligned_count_with-few bits (suc later) peak n le = omega (arith, le)

inactive-case : (test : Bool) (count n : ℕ) → count ≤ n → cond test count 0 ≤ n
inactive-case true count n le = le
inactive-case false count n le = omega arith

pub aligned-few : (bits floor : ℕ) (peaks : List Located) → chunk_aligned_inactive_peaks bits floor peaks ≤ length peaks
aligned-few bits floor [] = omega arith
aligned-few bits floor (peak ∷ peaks) =
    inactive-case (leb (end_of peak) floor) (aligned_count_with bits
    (chunk_aligned_inactive_peaks bits floor peaks) peak) (suc (length peaks))
    (aligned_count_with-few bits (chunk_aligned_inactive_peaks bits floor peaks) peak (length peaks)
    (aligned-few bits floor peaks))

pub inactive-few : (setting : Setting) (state : State) → grafted_inactive setting state ≤ length (forest setting state)
unfolding grafted_inactive
inactive-few setting state =
    omega (
      arith,
      aligned-few (chunk_bits setting) state.floor (peaks setting state),
      length-located
          (forest setting state),
    )

pub index-few : (n bits location : ℕ) → 0 < bits → location < n → location / bits ≤ n / bits
index-few n bits location some lt =
    let below : location / bits < n / bits + 1 =
    (div-lt_iff_lt-mul {k = bits} {x = location} {y = n / bits + 1} some).1
    (omega (arith, lt, lt-mul-div-succ n {b = bits} some)) in
    omega (arith, below)
