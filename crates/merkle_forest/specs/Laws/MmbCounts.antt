-- How many nodes of a height a Merkle Mountain Belt has, and how many peaks.
use Rattle.std.proofs.Common.{◌≡◌, ℕ, zero, suc, ◌+◌, ◌-◌, ◌*◌, ◌/◌}
use Rattle.std.proofs.Common.{◌^◌, ◌<◌, ◌≤◌, ◌⊎◌, ◌%◌, cond, ltb, inl, inr, List}
use Rattle.std.proofs.Common.{[], ◌∷◌, length, refl, sym, ◌∙◌, ap, arith, pow-suc, subst}
use Rattle.std.proofs.lemmas.Bool.{eq-eqb, ne_eqb, lt-ltb, le-ltb, cond-true, cond-false}
use Rattle.std.proofs.lemmas.Nat.{pow_pos, div-mul-add}
use Rattle.merkle_forest.specs.Forest.{Tree, leaf, branch, height, leaf_count, leaves, forest_of, mmb_rule}
use Rattle.merkle_forest.specs.Laws.Rules.{mmb_merges_equals}
use Rattle.merkle_forest.specs.Laws.ForestGrowth.{leaves-forest_of}
use Rattle.merkle_forest.specs.Nodes.{IsPeakAt, nodes_at, nodes_of_height}
use Rattle.merkle_forest.specs.Perfect.{IsPerfect}
use Rattle.merkle_forest.specs.Laws.Powers.{pow_le, pow_order}
use Rattle.merkle_forest.specs.Mmb.{birth, mmb_tree, IsBelt}
use Rattle.merkle_forest.specs.Laws.Mmb.{height-mmb_tree, leaf_count-mmb_tree, split, leaves-belt, length-belt}
use Rattle.merkle_forest.specs.Laws.Mmb.{forest_of-belt}
use Rattle.merkle_forest.specs.Laws.MmbNodes.{height-node, peak_node-mmb}

-- a perfect tree has no node higher than itself
none_above : (level : ℕ) (t : Tree) → IsPerfect t → height t < level → nodes_at level t ≡ 0
none_above level (leaf p) perfect lt = cond-false _ 1 0 (ne_eqb level 0 (λ same. omega arith))
none_above level (branch p left right) perfect lt =
    cond-false _ 1 (nodes_at level left + nodes_at level right)
    (ne_eqb (suc (height left)) level (λ same. omega arith))
    ∙ omega (
      arith,
      none_above level left perfect.1 (omega arith),
      none_above level right perfect.2 (omega (arith, perfect.0)),
    )

-- one at its top
one_at_top : (level : ℕ) (t : Tree) → height t ≡ level → nodes_at level t ≡ 1
one_at_top level (leaf p) is = cond-true _ 1 0 (eq-eqb level 0 (sym is))
one_at_top level (branch p left right) is =
    cond-true _ 1 (nodes_at level left + nodes_at level right) (eq-eqb (suc (height left)) level is)

-- and on each level below twice as many as on the one above it
halves : (level j : ℕ) (t : Tree) → IsPerfect t → height t ≡ j + level → nodes_at level t ≡ 2 ^ j
halves level zero t perfect is = one_at_top level t (omega (arith, is))
halves level (suc j) (leaf p) perfect is = absurd (omega (arith, is))
halves level (suc j) (branch p left right) perfect is =
    cond-false _ 1 (nodes_at level left + nodes_at level right)
    (ne_eqb (suc (height left)) level (λ same. omega (arith, is)))
    ∙ omega (
      arith,
      pow-suc 2 j,
      halves level j left perfect.1 (omega (arith, is)),
      halves level j right perfect.2 (omega (arith, is, perfect.0)),
    )

perfect-mmb_tree : (h first : ℕ) → IsPerfect (mmb_tree h first)
unfolding mmb_tree
perfect-mmb_tree zero first = tt
perfect-mmb_tree (suc h) first = (
  height-mmb_tree h first ∙ sym (height-mmb_tree h (first + 2 ^ h)),
  perfect-mmb_tree h first,
  perfect-mmb_tree h (first + 2 ^ h),
)

none-tree : (level h first : ℕ) (t : Tree) → t ≡ mmb_tree h first → h < level → nodes_at level t ≡ 0
none-tree level h first t is lt =
    ap (nodes_at level) is ∙ none_above level (mmb_tree h first) (perfect-mmb_tree h first)
    (omega (arith, lt, height-mmb_tree h first))

some-tree : (level j h first : ℕ) (t : Tree) → t ≡ mmb_tree h first → h ≡ j + level → nodes_at level t ≡ 2 ^ j
some-tree level j h first t is high =
    ap (nodes_at level) is ∙ halves level j (mmb_tree h first) (perfect-mmb_tree h first)
    (height-mmb_tree h first ∙ high)

-- the nodes of a height above which the belt begins
count-above : (level j index m : ℕ) (peaks : List Tree) → IsBelt index m peaks → index ≡ j + level
    → nodes_of_height level peaks + 2 ^ j ≡ m * 2 ^ j
count-above level j index m [] belt at = rw belt (omega arith)
count-above level j index m (t ∷ ts) belt at =
    let it = split m in
    let rest = count-above level (suc j) (suc index) (m / 2) ts belt.1 (omega (arith, at)) in
    let high : m / 2 * 2 ^ suc j ≡ m / 2 * (2 ^ j * 2) = ap (λ n. m / 2 * n) (pow-suc 2 j) in
    let all : m * 2 ^ j ≡ (2 * (m / 2) + m % 2) * 2 ^ j = ap (λ n. n * 2 ^ j) it.whole in
    let mine : nodes_at level t ≡ 2 ^ (j + m % 2) =
    some-tree level (j + m % 2) (index + m % 2) (leaves ts) t belt.0 (omega (arith, at)) in
    elim it.digit [
      | inl even ↦ (
          let power : 2 ^ (j + m % 2) ≡ 2 ^ j = ap (λ n. 2 ^ n) (omega (arith, even)) in
          let digit : (2 * (m / 2) + m % 2) * 2 ^ j ≡ (2 * (m / 2) + 0) * 2 ^ j =
          ap (λ n. (2 * (m / 2) + n) * 2 ^ j) even in
          omega (arith, rest, high, mine, all, power, digit, pow-suc 2 j))
      | inr odd ↦ (
          let power : 2 ^ (j + m % 2) ≡ 2 ^ suc j = ap (λ n. 2 ^ n) (omega (arith, odd)) in
          let digit : (2 * (m / 2) + m % 2) * 2 ^ j ≡ (2 * (m / 2) + 1) * 2 ^ j =
          ap (λ n. (2 * (m / 2) + n) * 2 ^ j) odd in
          omega (arith, rest, high, mine, all, power, digit, pow-suc 2 j))
    ]

-- what is known of so many nodes of height l + 1 among the peaks from an index on
record IsCount (l index count : ℕ) (peaks : List Tree) : Type 0 where
  low : (count ≡ 0) ⊎ (count * 2 ^ suc l + 2 ^ l ≤ leaves peaks + 2 ^ index)
  high : leaves peaks + 2 ^ suc index ≤ suc count * 2 ^ suc l + 2 ^ l

-- a peak of a belt has as many leaves as its index tells, or twice as many
count-peak : (index m : ℕ) (t : Tree) (ts : List Tree) → IsBelt index m (t ∷ ts)
    → (2 ^ index ≤ leaf_count t) × (leaf_count t ≤ 2 ^ suc index)
count-peak index m t ts belt =
    let mine : leaf_count t ≡ 2 ^ (index + m % 2) = ap leaf_count belt.0
    ∙ leaf_count-mmb_tree (index + m % 2) (leaves ts) in (
      omega (arith, mine, pow_le index (index + m % 2) (omega arith)),
      omega (arith, mine, pow_le (index + m % 2) (suc index) (omega arith)),
    )

more-low : (a b count sum : ℕ) → a ≤ b → (count ≡ 0) ⊎ (sum ≤ a) → (count ≡ 0) ⊎ (sum ≤ b)
more-low a b count sum le (inl none) = inl none
more-low a b count sum le (inr low) = inr (omega (arith, le, low))

count-at : (l m : ℕ) (peaks : List Tree) → IsBelt l m peaks → IsCount l l (nodes_of_height (suc l) peaks) peaks
count-at l m [] belt = record { low = inl refl; high = omega (arith, pow_pos l) }
count-at l m (t ∷ ts) belt =
    let it = split m in
    let above : nodes_of_height (suc l) ts + 1 ≡ m / 2 * 1 =
    count-above (suc l) 0 (suc l) (m / 2) ts belt.1 (omega arith) in
    let rest : leaves ts + 2 ^ suc l ≡ m / 2 * 2 ^ suc l = leaves-belt (suc l) (m / 2) ts belt.1 in
    let whole : m / 2 * 2 ^ suc l ≡ (nodes_of_height (suc l) ts + 1) * 2 ^ suc l =
    ap (λ n. n * 2 ^ suc l) (omega (arith, above)) in
    let mine : leaf_count t ≡ 2 ^ (l + m % 2) = ap leaf_count belt.0 ∙ leaf_count-mmb_tree (l + m % 2) (leaves ts) in
    elim it.digit [
      | inl even ↦ (
          let power : 2 ^ (l + m % 2) ≡ 2 ^ l = ap (λ n. 2 ^ n) (omega (arith, even)) in
          let none : nodes_at (suc l) t ≡ 0 =
          none-tree (suc l) (l + m % 2) (leaves ts) t belt.0 (omega (arith, even)) in
          let same : (nodes_at (suc l) t + nodes_of_height (suc l) ts) * 2 ^ suc l
          ≡ nodes_of_height (suc l) ts * 2 ^ suc l = ap (λ n. n * 2 ^ suc l) (omega (arith, none)) in
          record {
            low = inr (omega (arith, rest, whole, mine, power, same));
            high = omega (arith, rest, whole, mine, power, same);
          })
      | inr odd ↦ (
          let power : 2 ^ (l + m % 2) ≡ 2 ^ suc l = ap (λ n. 2 ^ n) (omega (arith, odd)) in
          let one : nodes_at (suc l) t ≡ 1 =
          some-tree (suc l) 0 (l + m % 2) (leaves ts) t belt.0 (omega (arith, odd)) in
          let same : (nodes_at (suc l) t + nodes_of_height (suc l) ts) * 2 ^ suc l
          ≡ (1 + nodes_of_height (suc l) ts) * 2 ^ suc l = ap (λ n. (n + nodes_of_height (suc l) ts) * 2 ^ suc l) one in
          record {
            low = inr (omega (arith, rest, whole, mine, power, same));
            high = omega (arith, rest, whole, mine, power, same);
          })
    ]

count-belt : (l d index m : ℕ) (peaks : List Tree) → IsBelt index m peaks → d + index ≡ l
    → IsCount l index (nodes_of_height (suc l) peaks) peaks
count-belt l zero index m peaks belt at =
    let same : l ≡ index = omega (arith, at) in
    subst (λ i. IsCount l i (nodes_of_height (suc l) peaks) peaks) same
    (count-at l m peaks (subst (λ i. IsBelt i m peaks) (sym same) belt))
count-belt l (suc d) index m [] belt at = record {
  low = inl refl;
  high = omega (arith, pow_le (suc index) l (omega (arith, at)));
}
count-belt l (suc d) index m (t ∷ ts) belt at =
    let rest = count-belt l d (suc index) (m / 2) ts belt.1 (omega (arith, at)) in
    let mine = count-peak index m t ts belt in
    let none : nodes_at (suc l) t ≡ 0 =
    none-tree (suc l) (index + m % 2) (leaves ts) t belt.0 (omega (arith, at)) in
    let same : nodes_of_height (suc l) ts ≡ nodes_of_height (suc l) (t ∷ ts) = omega (arith, none) in
    let double : 2 ^ suc index ≡ 2 ^ index * 2 = pow-suc 2 index in
    let fourfold : 2 ^ suc (suc index) ≡ 2 ^ suc index * 2 = pow-suc 2 (suc index) in
    subst (λ count. IsCount l index count (t ∷ ts)) same (record {
      low = more-low (leaves ts + 2 ^ suc index) (leaves (t ∷ ts) + 2 ^ index) (nodes_of_height (suc l) ts)
          (nodes_of_height (suc l) ts * 2 ^ suc l + 2 ^ l) (omega (arith, mine.0, double)) rest.low;
      high = omega (arith, rest.high, mine.1, fourfold);
    })

-- the count between these bounds
count_of_births : (d b n count : ℕ) → 0 < d → (count ≡ 0 → n < b) → (0 < count → b + (count - 1) * d ≤ n)
    → n < b + count * d → count ≡ cond (ltb n b) 0 ((n - b) / d + 1)
count_of_births d b n zero some none low high = sym (cond-true _ 0 ((n - b) / d + 1) (lt-ltb n b (none refl)))
count_of_births d b n (suc count) some none low high =
    let one_less : suc count - 1 ≡ count = omega arith in
    let first : b + count * d ≤ n = omega (arith, low (omega arith), ap (λ k. k * d) one_less) in
    let whole : suc count * d ≡ count * d + d = omega arith in
    let rest : n - b ≡ count * d + (n - (b + count * d)) = omega (arith, first) in
    let quotient : (n - b) / d ≡ count = ap (λ m. m / d) rest
    ∙ div-mul-add count d (n - (b + count * d)) (omega (arith, first, high, whole)) in
    omega (arith, quotient) ∙ sym (cond-false _ 0 ((n - b) / d + 1) (le-ltb n b (omega (arith, first))))

low-some : (count a b : ℕ) → (count ≡ 0) ⊎ (a ≤ b) → 0 < count → a ≤ b
low-some count a b (inl none) some = absurd (omega (arith, none, some))
low-some count a b (inr low) some = low

-- so many nodes of a height stand in the forest of n leaves
pub counted-mmb : (n level : ℕ) → n ≤ 2 ^ 62 → 0 < level → level ≤ 62
    → nodes_of_height level (forest_of mmb_rule n)
    ≡ cond (ltb n (birth 0 level)) 0 ((n - birth 0 level) / 2 ^ level + 1)
counted-mmb n zero few some low = absurd (omega (arith, some))
counted-mmb n (suc l) few some low =
    let count : ℕ = nodes_of_height (suc l) (forest_of mmb_rule n) in
    let it = count-belt l l 0 (suc n) (forest_of mmb_rule n) (forest_of-belt n) (omega arith) in
    let all : leaves (forest_of mmb_rule n) ≡ n = leaves-forest_of mmb_rule mmb_merges_equals n in
    let double : 2 ^ suc l ≡ 2 ^ l * 2 = pow-suc 2 l in
    let more : suc count * 2 ^ suc l ≡ count * 2 ^ suc l + 2 ^ suc l = omega arith in
    count_of_births (2 ^ suc l) (birth 0 (suc l)) n count (pow_pos (suc l))
    (λ none. (let zero_of : count * 2 ^ suc l ≡ 0 * 2 ^ suc l = ap (λ k. k * 2 ^ suc l) none in
    omega (arith, it.high, all, double, more, zero_of, pow_pos l)))
    (λ some_count. (
    let least : count * 2 ^ suc l + 2 ^ l ≤ leaves (forest_of mmb_rule n) + 1 =
    low-some count (count * 2 ^ suc l + 2 ^ l) (leaves (forest_of mmb_rule n) + 1) it.low some_count in
    let less : count * 2 ^ suc l ≡ (suc (count - 1)) * 2 ^ suc l =
    ap (λ k. k * 2 ^ suc l) (omega (arith, some_count)) in
    omega (arith, least, less, all, double, pow_pos l)))
    (omega (arith, it.high, all, double, more, pow_pos l))

pub soon-mmb : (level : ℕ) → birth 0 level ≤ 2 * 2 ^ level
soon-mmb zero = omega arith
soon-mmb (suc l) = omega (arith, pow-suc 2 l)

-- a node of a forest of so many leaves is at most 61 high
pub low-birth : (first h n : ℕ) → n ≤ 2 ^ 62 → birth first h ≤ n → h ≤ 61
low-birth first zero n few born = omega arith
low-birth first (suc j) n few born = omega (arith, pow_order j 60 (omega (arith, few, born)))

-- a belt has at most 62 peaks
pub peaks-mmb : (n : ℕ) → n ≤ 2 ^ 62 → length (forest_of mmb_rule n) ≤ 62
peaks-mmb n few =
    let long = length-belt 0 (suc n) (forest_of mmb_rule n) (forest_of-belt n) in
    pow_order (length (forest_of mmb_rule n)) 62 (omega (arith, long.0, few))

-- a peak's height and the other peaks are at most 122
pub few-mmb : (n first : ℕ) (node : Tree) → n ≤ 2 ^ 62 → IsPeakAt first node (forest_of mmb_rule n)
    → length (forest_of mmb_rule n) + height node ≤ 123
few-mmb n first node few peak =
    let it = peak_node-mmb n first node peak in
    omega (arith, height-node n first node it, low-birth first it.high n few it.born, peaks-mmb n few)
