-- How many nodes of a height a Merkle Mountain Range has.
use Rattle.std.proofs.Common.{◌≡◌, ℕ, zero, suc, ◌+◌, ◌-◌, ◌*◌, ◌/◌, ◌^◌, ◌<◌, ◌≤◌, Bool, true, false, cond, ltb, inl}
use Rattle.std.proofs.Common.{inr, List, [], ◌∷◌, length, refl, sym, ◌∙◌, ap, arith, pow-suc, add-mul}
use Rattle.std.proofs.lemmas.Bool.{cases_lt, eq-eqb, ne_eqb, lt-ltb, le-ltb, ltb-true, ltb-false, cond-true, cond-false}
use Rattle.std.proofs.lemmas.Nat.{pow_pos, pow-add, div-mul-add}
use Rattle.std.proofs.Math.Nat.{div-lt_iff_lt-mul, lt-div-mul-add}
use Rattle.merkle_forest.specs.Forest.{Tree, height, leaf_count, size, leaves, forest_of, mmr_rule}
use Rattle.merkle_forest.specs.Laws.Rules.{mmr_merges_equals}
use Rattle.merkle_forest.specs.Laws.ForestGrowth.{leaves-forest_of}
use Rattle.merkle_forest.specs.Nodes.{IsPeakAt, nodes_at, nodes_of_height}
use Rattle.merkle_forest.specs.Laws.Nodes.{peak-node, node-leaves, node-low, first_peak}
use Rattle.merkle_forest.specs.Laws.Peaks.{leaf_count-pos}
use Rattle.merkle_forest.specs.Mmr.{mmr_tree, IsRange}
use Rattle.merkle_forest.specs.Laws.Mmr.{height-mmr_tree, leaf_count-mmr_tree, forest_of-range}
use Rattle.merkle_forest.specs.Laws.MmrNodes.{peak-mmr}
use Rattle.merkle_forest.specs.Laws.Powers.{pow_le}

-- a tree has no node higher than itself
none_above : (level k at : ℕ) → k < level → nodes_at level (mmr_tree k at) ≡ 0
unfolding mmr_tree
none_above level zero at lt = cond-false _ 1 0 (ne_eqb level 0 (λ same. omega arith))
none_above level (suc k) at lt =
    let high : height (mmr_tree k at) ≡ k = height-mmr_tree k at in
    cond-false _ 1 (nodes_at level (mmr_tree k at) + nodes_at level (mmr_tree k (at + (2 ^ suc k - 1))))
    (ne_eqb (suc (height (mmr_tree k at))) level (λ same. omega (arith, high)))
    ∙ omega (arith, none_above level k at (omega arith), none_above level k (at + (2 ^ suc k - 1)) (omega arith))

one_at_top : (k at : ℕ) → nodes_at k (mmr_tree k at) ≡ 1
unfolding mmr_tree
one_at_top zero at = refl
one_at_top (suc k) at =
    cond-true _ 1 (nodes_at (suc k) (mmr_tree k at) + nodes_at (suc k) (mmr_tree k (at + (2 ^ suc k - 1))))
    (eq-eqb (suc (height (mmr_tree k at))) (suc k) (ap (λ n. suc n) (height-mmr_tree k at)))

-- and each level below has twice as many as the one above it
halves : (level j k at : ℕ) → k ≡ j + level → nodes_at level (mmr_tree k at) ≡ 2 ^ j
unfolding mmr_tree
halves level zero k at is = let same : k ≡ level = omega (arith, is) in ap (λ n. nodes_at level (mmr_tree n at)) same
    ∙ one_at_top level at
halves level (suc j) zero at is = absurd (omega (arith, is))
halves level (suc j) (suc k) at is =
    let high : height (mmr_tree k at) ≡ k = height-mmr_tree k at in
    cond-false _ 1 (nodes_at level (mmr_tree k at) + nodes_at level (mmr_tree k (at + (2 ^ suc k - 1))))
    (ne_eqb (suc (height (mmr_tree k at))) level (λ same. omega (arith, high, is)))
    ∙ omega (
      arith,
      pow-suc 2 j,
      halves level j k at (omega (arith, is)),
      halves level j k (at + (2 ^ suc k - 1))
          (omega (arith, is)),
    )

-- the leaves below the nodes of a height are all leaves but the last few, fewer than such a node has
pub count-bounds : (level b e : ℕ) (peaks : List Tree) → IsRange b peaks → e ≤ b → e ≤ level
    → (nodes_of_height level peaks * 2 ^ level ≤ leaves peaks)
    × (leaves peaks + 2 ^ e ≤ suc (nodes_of_height level peaks) * 2 ^ level)
count-bounds level b e [] range low under = (omega arith, omega (arith, pow_le e level under))
count-bounds level b e (t ∷ ts) range low under =
    let k : ℕ = height t in
    let mine : leaf_count t ≡ 2 ^ k = ap leaf_count range.1 ∙ leaf_count-mmr_tree k (size ts) in
    let least : 2 ^ e ≤ 2 ^ k = pow_le e k (omega (arith, low, range.0)) in
    elim (cases_lt k level) [
      | inl above ↦ (
          let none : nodes_at level t ≡ 0 = ap (nodes_at level) range.1 ∙ none_above level k (size ts) above in
          let same : (nodes_at level t + nodes_of_height level ts) * 2 ^ level
          ≡ nodes_of_height level ts * 2 ^ level = ap (λ n. n * 2 ^ level) (omega (arith, none)) in
          let rest = count-bounds level (suc k) (suc k) ts range.2 (omega arith) above in
          (omega (arith, same, rest.0), omega (arith, same, rest.1, mine, least, pow-suc 2 k)))
      | inr below ↦ (
          let some : nodes_at level t ≡ 2 ^ (k - level) = ap (nodes_at level) range.1
          ∙ halves level (k - level) k (size ts) (omega (arith, below)) in
          let whole : 2 ^ k ≡ 2 ^ (k - level) * 2 ^ level = ap (λ n. 2 ^ n) (omega (arith, below))
          ∙ pow-add 2 (k - level) level in
          let split : (nodes_at level t + nodes_of_height level ts) * 2 ^ level
          ≡ 2 ^ (k - level) * 2 ^ level + nodes_of_height level ts * 2 ^ level =
          add-mul (nodes_at level t) (nodes_of_height level ts) (2 ^ level)
          ∙ ap (λ n. n * 2 ^ level + nodes_of_height level ts * 2 ^ level) some in
          let rest = count-bounds level (suc k) level ts range.2 (omega (arith, below)) (omega arith) in
          (omega (arith, split, whole, mine, rest.0), omega (arith, split, whole, mine, rest.1, pow_le e level under)))
    ]

-- the count between these bounds
count_of_nodes : (d n count : ℕ) → 0 < d → count * d ≤ n → n < suc count * d
    → count ≡ cond (ltb n (0 + d)) 0 ((n - (0 + d)) / d + 1)
count_of_nodes d n zero some low high =
    sym (cond-true _ 0 ((n - (0 + d)) / d + 1) (lt-ltb n (0 + d) (omega (arith, high))))
count_of_nodes d n (suc count) some low high =
    let rest : n - (0 + d) ≡ count * d + (n - (d + count * d)) = omega (arith, low) in
    let quotient : (n - (0 + d)) / d ≡ count = ap (λ m. m / d) rest
    ∙ div-mul-add count d (n - (d + count * d)) (omega (arith, low, high)) in
    omega (arith, quotient) ∙ sym (cond-false _ 0 ((n - (0 + d)) / d + 1) (le-ltb n (0 + d) (omega (arith, low))))

-- so many nodes of a height stand in the forest of n leaves
pub count-mmr : (n level : ℕ) → nodes_of_height level (forest_of mmr_rule n)
    ≡ cond (ltb n (0 + 2 ^ level)) 0 ((n - (0 + 2 ^ level)) / 2 ^ level + 1)
count-mmr n level =
    let it = count-bounds level 0 0 (forest_of mmr_rule n) (forest_of-range n) (omega arith) (omega arith) in
    let all : leaves (forest_of mmr_rule n) ≡ n = leaves-forest_of mmr_rule mmr_merges_equals n in
    count_of_nodes (2 ^ level) n (nodes_of_height level (forest_of mmr_rule n)) (pow_pos level)
    (omega (arith, it.0, all)) (omega (arith, it.1, all))

pub counted-mmr : (n level : ℕ) → n ≤ 2 ^ 62 → 0 < level → level ≤ 62
    → nodes_of_height level (forest_of mmr_rule n)
    ≡ cond (ltb n (0 + 2 ^ level)) 0 ((n - (0 + 2 ^ level)) / 2 ^ level + 1)
counted-mmr n level few some low = count-mmr n level

pub soon-mmr : (level : ℕ) → 0 + 2 ^ level ≤ 2 * 2 ^ level
soon-mmr level = omega arith

-- every full chunk has its node
full-case : (n d : ℕ) (test : Bool) → 0 < d → (test ≡ true → n < 0 + d) → (test ≡ false → 0 + d ≤ n)
    → n / d ≤ cond test 0 ((n - (0 + d)) / d + 1)
full-case n d true some below above =
    let few : n / d < 1 = (div-lt_iff_lt-mul {k = d} {x = n} {y = 1} some).1 (omega (arith, below refl)) in
    omega (arith, few)
full-case n d false some below above =
    let rest : n - (0 + d) < (n - (0 + d)) / d * d + d = lt-div-mul-add {a = n - (0 + d)} {b = d} some in
    let few : n / d < (n - (0 + d)) / d + 2 =
    (div-lt_iff_lt-mul {k = d} {x = n} {y = (n - (0 + d)) / d + 2} some).1 (omega (arith, rest, above refl)) in
    omega (arith, few)

pub all-mmr : (n level : ℕ) → nodes_of_height level (forest_of mmr_rule n) < n / 2 ^ level → ⊥
all-mmr n level more =
    let few = full-case n (2 ^ level) (ltb n (0 + 2 ^ level)) (pow_pos level) (ltb-true n (0 + 2 ^ level))
    (ltb-false n (0 + 2 ^ level)) in
    omega (arith, more, count-mmr n level, few)

-- the heights of a range that has less than 2 ^ 62 leaves are different numbers below 62
few-range : (b : ℕ) (t : Tree) (ts : List Tree) → IsRange b (t ∷ ts) → leaves (t ∷ ts) < 2 ^ 62
    → length (t ∷ ts) + b ≤ 62
few-range b t [] range few =
    let mine : leaf_count t ≡ 2 ^ height t = ap leaf_count range.1 ∙ leaf_count-mmr_tree (height t) 0 in
    elim (cases_lt (height t) 62) [
      | inl low ↦ omega (arith, range.0, low)
      | inr high ↦
          absurd (omega (arith, few, mine, pow_le 62 (height t) high))
    ]
few-range b t (u ∷ ts) range few = omega (arith, range.0, few-range (suc (height t)) u ts range.2 (omega (arith, few)))

low-peak : (n first : ℕ) (node : Tree) → n < 2 ^ 62 → IsPeakAt first node (forest_of mmr_rule n) → height node ≤ 61
low-peak n first node few peak =
    let whole = node-leaves mmr_rule mmr_merges_equals n first node
    (peak-node first node (forest_of mmr_rule n) peak) in
    elim (cases_lt (height node) 62) [
      | inl low ↦ omega (arith, low)
      | inr high ↦
          absurd (omega (arith, few, whole.1, pow_le 62 (height node) high))
    ]

few-trees : (trees : List Tree) → IsRange 0 trees → leaves trees < 2 ^ 62 → length trees ≤ 62
few-trees [] range few = omega arith
few-trees (t ∷ ts) range few = omega (arith, few-range 0 t ts range few)

length-few : (trees : List Tree) → length trees ≤ leaves trees
length-few [] = omega arith
length-few (t ∷ ts) = omega (arith, leaf_count-pos t, length-few ts)

others-few : (first : ℕ) (node : Tree) (trees : List Tree) → IsPeakAt first node trees
    → leaf_count node + length trees ≤ leaves trees + 1
others-few first node [] peak = absurd peak
others-few first node (t ∷ ts) (inl peak) = omega (arith, ap leaf_count peak.1, length-few ts)
others-few first node (t ∷ ts) (inr peak) = omega (arith, leaf_count-pos t, others-few first node ts peak)

-- the forest of 2 ^ 62 leaves is one tree
one-tree : (n : ℕ) → 2 ^ 62 ≤ n → n ≤ 2 ^ 62 → length (forest_of mmr_rule n) ≤ 1
one-tree n many few =
    let all : leaves (forest_of mmr_rule n) ≡ n = leaves-forest_of mmr_rule mmr_merges_equals n in
    let first = first_peak (forest_of mmr_rule n) (omega (arith, all, many)) in
    let it = peak-mmr 0 0 first.0 (forest_of mmr_rule n) (forest_of-range n) first.1 in
    let whole = node-leaves mmr_rule mmr_merges_equals n 0 first.0
    (peak-node 0 first.0 (forest_of mmr_rule n) first.1) in
    let high : 62 ≤ height first.0 =
    elim (cases_lt (height first.0) 62) [
      | inl low ↦
          absurd (omega (arith, it.high, all, many, pow_le (suc (height first.0)) 62 low))
      | inr le ↦ le
    ] in
    omega (
      arith,
      others-few 0 first.0 (forest_of mmr_rule n) first.1,
      whole.0,
      pow_le 62
          (height first.0) high,
      all,
      few,
    )

-- a range has at most 62 peaks
pub peaks-mmr : (n : ℕ) → n ≤ 2 ^ 62 → length (forest_of mmr_rule n) ≤ 62
peaks-mmr n few =
    elim (cases_lt n (2 ^ 62)) [
      | inl less ↦
          few-trees (forest_of mmr_rule n) (forest_of-range n)
          (omega (arith, less, leaves-forest_of mmr_rule mmr_merges_equals n))
      | inr all ↦ omega (arith, one-tree n all few)
    ]

-- a peak's height and the other peaks are at most 122
pub few-mmr : (n first : ℕ) (node : Tree) → n ≤ 2 ^ 62 → IsPeakAt first node (forest_of mmr_rule n)
    → length (forest_of mmr_rule n) + height node ≤ 123
few-mmr n first node few peak =
    elim (cases_lt n (2 ^ 62)) [
      | inl less ↦ omega (
        arith,
        peaks-mmr n few,
        low-peak n first node less peak,
      )
      | inr all ↦ (let low =
          node-low mmr_rule mmr_merges_equals n first (height node) node few
          (peak-node first node (forest_of mmr_rule n) peak) refl in omega (arith, one-tree n all few, low.1))
    ]
