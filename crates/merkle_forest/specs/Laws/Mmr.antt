-- Where the nodes of a Merkle Mountain Range stand.
use Rattle.std.proofs.Common.{◌≡◌, ◌≢◌, ℕ, zero, suc, ◌+◌, ◌-◌, ◌*◌, ◌^◌, ◌<◌, ◌≤◌, Bool, true, false, cond, eqb, List}
use Rattle.std.proofs.Common.{[], ◌∷◌, length, Some, None, refl, sym, ◌∙◌, ap, arith, pow-suc, mul_assoc, add-mul}
use Rattle.std.proofs.lemmas.Bool.{eqb-true, eqb-false}
use Rattle.std.proofs.lemmas.Nat.{pow_pos, pow-add, pow_below, ones_cat}
use Rattle.std.specs.Option.{option_map_or}
use Rattle.std.specs.Int.RustNames.{count_ones}
use Rattle.merkle_forest.specs.Forest.{Tree, leaf, branch, position, height, leaf_count, node_count, size, leaves}
use Rattle.merkle_forest.specs.Forest.{merged, peaks_after_merges, forest_of, mmr_rule}
use Rattle.merkle_forest.specs.Laws.Rules.{mmr_merges_equals}
use Rattle.merkle_forest.specs.Laws.ForestGrowth.{size-twice, leaves-forest_of}
use Rattle.merkle_forest.specs.Mmr.{leaf_position, mmr_tree, IsRange}

pub height-mmr_tree : (h first : ℕ) → height (mmr_tree h first) ≡ h
unfolding mmr_tree
height-mmr_tree zero first = refl
height-mmr_tree (suc h) first = ap (λ n. suc n) (height-mmr_tree h first)

pub leaf_count-mmr_tree : (h first : ℕ) → leaf_count (mmr_tree h first) ≡ 2 ^ h
unfolding mmr_tree
leaf_count-mmr_tree zero first = refl
leaf_count-mmr_tree (suc h) first =
    omega (arith, pow-suc 2 h, leaf_count-mmr_tree h first, leaf_count-mmr_tree h (first + (2 ^ suc h - 1)))

pub node_count-mmr_tree : (h first : ℕ) → suc (node_count (mmr_tree h first)) ≡ 2 ^ suc h
unfolding mmr_tree
node_count-mmr_tree zero first = refl
node_count-mmr_tree (suc h) first =
    omega (arith, pow-suc 2 (suc h), node_count-mmr_tree h first, node_count-mmr_tree h (first + (2 ^ suc h - 1)))

-- the root over 2 ^ h leaves of which the first has this position
pub position-mmr_tree : (h first : ℕ) → position (mmr_tree h first) ≡ first + (2 ^ suc h - 2)
unfolding mmr_tree
position-mmr_tree zero first = omega arith
position-mmr_tree (suc h) first = refl

-- two trees of one height side by side, under a new node
with_parent : (h first p : ℕ) → p ≡ first + (2 ^ suc (suc h) - 2)
    → branch p (mmr_tree h first) (mmr_tree h (first + (2 ^ suc h - 1))) ≡ mmr_tree (suc h) first
unfolding mmr_tree
with_parent h first p e = ap (λ q. branch q (mmr_tree h first) (mmr_tree h (first + (2 ^ suc h - 1)))) e

with_parent_of_pair : (t u : Tree) (us : List Tree) → t ≡ mmr_tree (height t) (node_count u + size us)
    → u ≡ mmr_tree (height u) (size us) → height t ≡ height u
    → branch (node_count t + (node_count u + size us)) u t ≡ mmr_tree (suc (height u)) (size us)
with_parent_of_pair t u us is_t is_u same =
    let nodes_t : suc (node_count t) ≡ 2 ^ suc (height u) = ap (λ x. suc (node_count x)) is_t
    ∙ node_count-mmr_tree (height t) (node_count u + size us) ∙ ap (λ h. 2 ^ suc h) same in
    let nodes_u : suc (node_count u) ≡ 2 ^ suc (height u) = ap (λ x. suc (node_count x)) is_u
    ∙ node_count-mmr_tree (height u) (size us) in
    let at : node_count u + size us ≡ size us + (2 ^ suc (height u) - 1) = omega arith in
    let right : t ≡ mmr_tree (height u) (size us + (2 ^ suc (height u) - 1)) = is_t
    ∙ ap (λ h. mmr_tree h (node_count u + size us)) same ∙ ap (mmr_tree (height u)) at in
    ap (λ x. branch (node_count t + (node_count u + size us)) x t) is_u
    ∙ ap (λ x. branch (node_count t + (node_count u + size us)) (mmr_tree (height u) (size us)) x) right
    ∙ with_parent (height u) (size us) (node_count t + (node_count u + size us))
    (omega (arith, pow-suc 2 (suc (height u)), pow_pos (suc (height u))))

tested : (P : List Tree → Type 0) (after : ℕ → List Tree) (peaks : List Tree) (test : Bool)
    → (test ≡ true → P (after 0)) → (test ≡ false → P peaks)
    → P (option_map_or after (cond test (Some 0) None) peaks)
tested P after peaks true merge stay = merge refl
tested P after peaks false merge stay = stay refl

higher : (a b : ℕ) → a ≤ b → a ≢ b → suc a ≤ b
higher a b le differ = omega arith

-- the merges after a leaf leave a range
pub peaks_after_merges-range : (room merges : ℕ) (t : Tree) (ts : List Tree) → length ts ≤ room
    → t ≡ mmr_tree (height t) (size ts) → IsRange (height t) ts
    → IsRange 0 (peaks_after_merges mmr_rule room merges (t ∷ ts))
unfolding peaks_after_merges
peaks_after_merges-range zero merges t [] fits is range = (omega arith, is, tt)
peaks_after_merges-range zero merges t (u ∷ us) fits is range = absurd (omega arith)
peaks_after_merges-range (suc room) merges t [] fits is range = (omega arith, is, tt)
peaks_after_merges-range (suc room) merges t (u ∷ us) fits is range =
    tested (IsRange 0) (λ index. peaks_after_merges mmr_rule room (suc merges)
    (merged (size (t ∷ u ∷ us)) index (t ∷ u ∷ us))) (t ∷ u ∷ us) (eqb (height t) (height u))
    (λ same. peaks_after_merges-range room (suc merges) (branch (node_count t + (node_count u + size us)) u t) us
    (omega arith)
    (with_parent_of_pair t u us is range.1 (eqb-true (height t) (height u) same)) range.2)
    (λ differ. (
      omega arith,
      is,
      (
        higher (height t) (height u) range.0
            (eqb-false (height t) (height u) differ),
        range.1,
        range.2,
      ),
    ))

pub forest_of-range : (n : ℕ) → IsRange 0 (forest_of mmr_rule n)
unfolding forest_of mmr_tree
forest_of-range zero = tt
forest_of-range (suc n) =
    peaks_after_merges-range (length (forest_of mmr_rule n)) 0 (leaf (size (forest_of mmr_rule n)))
    (forest_of mmr_rule n) (omega arith) refl (forest_of-range n)

-- a power of two has a single one
pub ones-pow : (k : ℕ) → count_ones (2 ^ k) ≡ 1
unfolding count_ones
ones-pow k = ap count_ones (omega arith) ∙ ones_cat k 1 0 (pow_pos k)

-- the leaves of a range from height h on are a multiple of 2 ^ h with a one for each peak
pub ones-range : (h : ℕ) (peaks : List Tree) → IsRange h peaks
    → (a : ℕ) × (leaves peaks ≡ a * 2 ^ h) × (count_ones (leaves peaks) ≡ length peaks)
unfolding count_ones
ones-range h [] range = (0, omega arith, refl)
ones-range h (t ∷ ts) range =
    let k : ℕ = height t in
    let rest = ones-range (suc k) ts range.2 in
    let low : 2 ^ k ≡ 2 ^ (k - h) * 2 ^ h = ap (λ n. 2 ^ n) (omega (arith, range.0)) ∙ pow-add 2 (k - h) h in
    let high : 2 ^ suc k ≡ 2 ^ (suc k - h) * 2 ^ h = ap (λ n. 2 ^ n) (omega (arith, range.0))
    ∙ pow-add 2 (suc k - h) h in
    let high_all : rest.0 * 2 ^ suc k ≡ rest.0 * 2 ^ (suc k - h) * 2 ^ h = ap (λ n. rest.0 * n) high
    ∙ sym (mul_assoc rest.0 (2 ^ (suc k - h)) (2 ^ h)) in
    let mine : leaf_count t ≡ 2 ^ k = ap leaf_count range.1 ∙ leaf_count-mmr_tree k (size ts) in
    let lt : 2 ^ k < 2 ^ suc k = pow_below k (suc k) (omega arith) in
    let split : leaf_count t + leaves ts ≡ rest.0 * 2 ^ suc k + 2 ^ k = omega (arith, rest.1, mine) in
    let whole : leaves ts ≡ rest.0 * 2 ^ suc k + 0 = omega (arith, rest.1) in
    let above : count_ones (leaves ts) ≡ count_ones rest.0 + 0 = ap count_ones whole
    ∙ ones_cat (suc k) rest.0 0 (pow_pos (suc k)) in
    let all : count_ones (leaf_count t + leaves ts) ≡ count_ones rest.0 + 1 = ap count_ones split
    ∙ ones_cat (suc k) rest.0 (2 ^ k) lt ∙ ap (λ n. count_ones rest.0 + n) (ones-pow k) in (
      rest.0 * 2 ^ (suc k - h) + 2 ^ (k - h),
      split ∙ ap (λ n. n + 2 ^ k) high_all
          ∙ ap (λ n. rest.0 * 2 ^ (suc k - h) * 2 ^ h + n) low
          ∙ sym (add-mul (rest.0 * 2 ^ (suc k - h)) (2 ^ (k - h)) (2 ^ h)),
      omega (arith, all, above, rest.2),
    )

-- the nodes of a range
pub size-range : (h : ℕ) (peaks : List Tree) → IsRange h peaks → size peaks ≡ leaf_position (leaves peaks)
size-range h peaks range = omega (arith, size-twice peaks, (ones-range h peaks range).2)

-- the position of the leaf after n leaves
pub size-mmr : (n : ℕ) → size (forest_of mmr_rule n) ≡ leaf_position n
size-mmr n = size-range 0 (forest_of mmr_rule n) (forest_of-range n)
    ∙ ap leaf_position (leaves-forest_of mmr_rule mmr_merges_equals n)

-- the greatest node count
pub size-limit : size (forest_of mmr_rule (2 ^ 62)) ≡ 2 ^ 63 - 1
size-limit = size-mmr (2 ^ 62) ∙ ap (λ n. 2 * 2 ^ 62 - n) (ones-pow 62)
