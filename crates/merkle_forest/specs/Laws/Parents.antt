-- The nodes that are born with a leaf stand right after it.
use Rattle.std.proofs.Common.{◌≡◌, ℕ, zero, suc, ◌+◌, ◌-◌, ◌^◌, ◌<◌, ◌≤◌, inl, inr, length, Some, refl, ◌∙◌, ap, subst}
use Rattle.std.proofs.Common.{arith}
use Rattle.std.proofs.lemmas.Bool.{cases_lt}
use Rattle.std.specs.Prelude.{slice_get}
use Rattle.std.specs.List.{range_with_len}
use Rattle.merkle_forest.specs.Forest.{size, Rule, forest_of}
use Rattle.merkle_forest.specs.Perfect.{IsPairing}
use Rattle.merkle_forest.specs.Laws.ForestGrowth.{some_number, leaves-below}
use Rattle.merkle_forest.specs.Nodes.{HasNodeAtPosition, AreParents, StandsAt, IsHeightAt}
use Rattle.merkle_forest.specs.Laws.NodeGrowth.{leaf-at, height-at}

pub get-range : (a n i h : ℕ) → slice_get (range_with_len a n) i ≡ Some h → (i < n) × (h ≡ a + i)
get-range a zero i h is = absurd cc
get-range a (suc n) zero h is = (omega arith, omega (arith, some_number a h is))
get-range a (suc n) (suc i) h is = let rest = get-range (a + 1) n i h is in
    (omega (arith, rest.0), omega (arith, rest.1))

pub range-get : (a n i : ℕ) → i < n → slice_get (range_with_len a n) i ≡ Some (a + i)
range-get a zero i lt = absurd (omega arith)
range-get a (suc n) zero lt = ap (λ k. Some k) (omega arith)
range-get a (suc n) (suc i) lt = range-get (a + 1) n i (omega arith) ∙ ap (λ k. Some k) (omega arith)

pub length-range : (a n : ℕ) → length (range_with_len a n) ≡ n
length-range a zero = refl
length-range a (suc n) = ap (λ k. suc k) (length-range (a + 1) n)

-- between the leaf and the next one
pub before-next : (rule : Rule) → IsPairing rule → (limit found p : ℕ) → p < size (forest_of rule limit)
    → size (forest_of rule found) ≤ p → ((n : ℕ) → n ≤ limit → size (forest_of rule n) ≤ p → n ≤ found)
    → (found < limit) × (p < size (forest_of rule (suc found)))
before-next rule pairs limit found p stands fits greatest =
    let lt : found < limit = leaves-below rule pairs found limit p fits stands in
    elim (cases_lt p (size (forest_of rule (suc found)))) [
      | inl before ↦ (lt, before)
      | inr after ↦ absurd (let more : suc found ≤ found = greatest (suc found) (omega (arith, lt)) after in
          omega (arith, more))
    ]

-- what is known of the height at a position
pub record IsHeight (rule : Rule) (p h : ℕ) : Type 0 where
  pub there : StandsAt rule p h
  pub all : IsHeightAt rule p h

pub leaf-height : (rule : Rule) → IsPairing rule → (found p : ℕ) → found < 2 ^ 62 → size (forest_of rule found) ≡ p
    → IsHeight rule p 0
leaf-height rule pairs found p few is =
    let it : HasNodeAtPosition (forest_of rule (suc found)) p 0 =
    subst (λ k. HasNodeAtPosition (forest_of rule (suc found)) k 0) is (leaf-at rule pairs found) in
    record { there = (suc found, omega (arith, few), it); all = height-at rule pairs (suc found) p 0 it }

pub parent-height : (rule : Rule) → IsPairing rule → (found p first count : ℕ) → found < 2 ^ 62
    → AreParents rule found (range_with_len first count) → size (forest_of rule found) < p
    → p < size (forest_of rule (suc found))
    → IsHeight rule p (first + (p - size (forest_of rule found) - 1)) × (p - size (forest_of rule found) - 1 < count)
parent-height rule pairs found p first count few parents after before =
    let i : ℕ = p - size (forest_of rule found) - 1 in
    let within : i < count = omega (arith, parents.0, length-range first count, after, before) in
    let at_position : suc (size (forest_of rule found)) + i ≡ p = omega (arith, after) in
    let it : HasNodeAtPosition (forest_of rule (suc found)) p (first + i) =
    subst (λ k. HasNodeAtPosition (forest_of rule (suc found)) k (first + i)) at_position
    (parents.1 i (first + i) (range-get first count i within)) in (
      record {
        there = (suc found, omega (arith, few), it);
        all = height-at rule pairs (suc found) p (first + i) it;
      },
      within,
    )

-- the height at a position, by the greatest leaf count whose forest ends there or before it
pub height-none : (rule : Rule) → IsPairing rule → (found p at q start : ℕ) → q < size (forest_of rule (2 ^ 62))
    → p ≡ q → at ≡ q → start ≡ size (forest_of rule found) → size (forest_of rule found) ≤ p
    → ((n : ℕ) → n ≤ 2 ^ 62 → size (forest_of rule n) ≤ p → n ≤ found) → at - start ≡ 0 → IsHeight rule q 0
height-none rule pairs found p at q start stands is is_at starts fits greatest none =
    let lt = (before-next rule pairs (2 ^ 62) found p (omega (arith, stands, is)) fits greatest).0 in
    leaf-height rule pairs found q lt (omega (arith, is, is_at, starts, fits, none))

pub height-some : (rule : Rule) → IsPairing rule → (found p at q start first count : ℕ)
    → q < size (forest_of rule (2 ^ 62)) → p ≡ q → at ≡ q → start ≡ size (forest_of rule found)
    → size (forest_of rule found) ≤ p
    → ((n : ℕ) → n ≤ 2 ^ 62 → size (forest_of rule n) ≤ p → n ≤ found) → 0 < at - start
    → AreParents rule found (range_with_len first count)
    → IsHeight rule q (first + (at - start - 1)) × (at - start - 1 < count)
height-some rule pairs found p at q start first count stands is is_at starts fits greatest some parents =
    let next = before-next rule pairs (2 ^ 62) found p (omega (arith, stands, is)) fits greatest in
    let it = parent-height rule pairs found q first count next.0 parents (omega (arith, is_at, starts, some))
    (omega (arith, next.1, is)) in
    let same : q - size (forest_of rule found) - 1 ≡ at - start - 1 = omega (arith, is_at, starts) in
    (subst (λ k. IsHeight rule q (first + k)) same it.0, omega (arith, same, it.1))
