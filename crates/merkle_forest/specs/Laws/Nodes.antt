-- What holds of the nodes and the peaks of every forest.
use Rattle.std.proofs.Common.{◌≡◌, ◌↔◌, ℕ, suc, ◌+◌, ◌-◌, ◌*◌, ◌/◌}
use Rattle.std.proofs.Common.{◌%◌, ◌^◌, ◌<◌, ◌≤◌, cond, ltb, inl, inr, List, []}
use Rattle.std.proofs.Common.{◌∷◌, refl, sym, ◌∙◌, ap, subst, arith, mul-le-mul_right}
use Rattle.std.proofs.lemmas.Bool.{cases_lt, cond-true, cond-false, lt-ltb, le-ltb}
use Rattle.std.proofs.lemmas.Nat.{pow_pos, le-div, div-add-mod'}
use Rattle.merkle_forest.specs.Forest.{Tree, leaf, branch, position, height, leaf_count, leaves, Rule, forest_of}
use Rattle.merkle_forest.specs.Perfect.{IsPerfect, ArePerfect, IsPairing}
use Rattle.merkle_forest.specs.Laws.ForestGrowth.{forest_of-perfect, leaves-forest_of, leaf_count-perfect, height_fits}
use Rattle.merkle_forest.specs.Nodes.{IsWithin, IsNodeAt, IsPeakAt, IsBranchOf, HasPeak, IsSubtree, StandsAt, HasNode}
use Rattle.merkle_forest.specs.Nodes.{IsBirth, IsBirthAt, IsFirstLeaf, nodes_of_height}

-- a tree stands within itself
pub within-self : (start : ℕ) (t : Tree) → IsWithin start t start t
within-self start (leaf p) = (refl, refl)
within-self start (branch p left right) = inl (refl, refl)

-- so a peak is a node
pub peak-node : (first : ℕ) (node : Tree) (peaks : List Tree) → IsPeakAt first node peaks → IsNodeAt first node peaks
peak-node first node [] peak = peak
peak-node first node (t ∷ ts) (inl peak) = inl (rw (peak.0, peak.1) (within-self (leaves ts) t))
peak-node first node (t ∷ ts) (inr peak) = inr (peak-node first node ts peak)

-- the leaves of a node are leaves of the tree
pub within-fits : (first start : ℕ) (node t : Tree) → IsWithin first node start t
    → (start ≤ first) × (first + leaf_count node ≤ start + leaf_count t)
within-fits first start node (leaf p) within = let same : leaf_count node ≡ 1 = ap leaf_count within.1 in
    (omega (arith, within.0), omega (arith, within.0, same))
within-fits first start node (branch p left right) (inl within) =
    let same : leaf_count node ≡ leaf_count left + leaf_count right = ap leaf_count within.1 in
    (omega (arith, within.0), omega (arith, within.0, same))
within-fits first start node (branch p left right) (inr (inl within)) = let it =
    within-fits first start node left within in (it.0, omega (arith, it.1))
within-fits first start node (branch p left right) (inr (inr within)) =
    let it = within-fits first (start + leaf_count left) node right within in (omega (arith, it.0), omega (arith, it.1))

pub node-fits : (first : ℕ) (node : Tree) (peaks : List Tree) → IsNodeAt first node peaks
    → first + leaf_count node ≤ leaves peaks
node-fits first node [] stands = absurd stands
node-fits first node (t ∷ ts) (inl within) = omega (arith, (within-fits first (leaves ts) node t within).1)
node-fits first node (t ∷ ts) (inr stands) = omega (arith, node-fits first node ts stands)

-- a node of a perfect tree is perfect
pub within-perfect : (first start : ℕ) (node t : Tree) → IsPerfect t → IsWithin first node start t → IsPerfect node
within-perfect first start node (leaf p) perfect within = rw within.1 tt
within-perfect first start node (branch p left right) perfect (inl within) = rw within.1 perfect
within-perfect first start node (branch p left right) perfect (inr (inl within)) =
    within-perfect first start node left perfect.1 within
within-perfect first start node (branch p left right) perfect (inr (inr within)) =
    within-perfect first (start + leaf_count left) node right perfect.2 within

pub node-perfect : (first : ℕ) (node : Tree) (peaks : List Tree) → ArePerfect peaks → IsNodeAt first node peaks
    → IsPerfect node
node-perfect first node [] perfect stands = absurd stands
node-perfect first node (t ∷ ts) perfect (inl within) = within-perfect first (leaves ts) node t perfect.0 within
node-perfect first node (t ∷ ts) perfect (inr stands) = node-perfect first node ts perfect.1 stands

-- a node of height h of the forest of n leaves has 2 ^ h of them
pub node-leaves : (rule : Rule) → IsPairing rule → (n first : ℕ) (node : Tree)
    → IsNodeAt first node (forest_of rule n) → (leaf_count node ≡ 2 ^ height node) × (first + 2 ^ height node ≤ n)
node-leaves rule pairs n first node stands =
    let whole : leaf_count node ≡ 2 ^ height node =
    leaf_count-perfect node (node-perfect first node (forest_of rule n) (forest_of-perfect rule pairs n) stands) in
    (whole, omega (arith, whole, node-fits first node (forest_of rule n) stands, leaves-forest_of rule pairs n))

-- a branch of a forest of up to 2 ^ 62 leaves is at most 62 high
pub branch-height : (rule : Rule) → IsPairing rule → (p h : ℕ) (left right : Tree) → IsBranchOf rule p h left right
    → (h ≤ 62) × (0 < h)
branch-height rule pairs p h left right it =
    let fits : it.first + 2 ^ suc (height left) ≤ it.leaf_total =
    (node-leaves rule pairs it.leaf_total it.first (branch p left right) it.stands).1 in
    (omega (arith, it.high, height_fits 62 (suc (height left)) (omega (arith, fits, it.few))), omega (arith, it.high))

-- a forest with leaves has a peak that begins at the first
pub first_peak : (peaks : List Tree) → 0 < leaves peaks → HasPeak peaks 0
first_peak [] some = absurd (omega arith)
first_peak (t ∷ ts) some =
    elim (cases_lt 0 (leaves ts)) [
      | inl more ↦ (let rest = first_peak ts more in (rest.0, inr rest.1))
      | inr none ↦
          (t, inl (omega arith, refl))
    ]

-- after a peak that is not the last stands another
pub next_peak : (first : ℕ) (node : Tree) (peaks : List Tree) → IsPeakAt first node peaks
    → first + leaf_count node < leaves peaks → HasPeak peaks (first + leaf_count node)
next_peak first node [] peak more = absurd peak
next_peak first node (t ∷ ts) (inl peak) more =
    absurd (let same : leaf_count node ≡ leaf_count t = ap leaf_count peak.1 in omega (arith, peak.0, same))
next_peak first node (t ∷ ts) (inr peak) more =
    elim (cases_lt (first + leaf_count node) (leaves ts)) [
      | inl below ↦ (let rest = next_peak first node ts peak below in (rest.0, inr rest.1))
      | inr all ↦ (t, inl (omega (arith, node-fits first node ts (peak-node first node ts peak)), refl))
    ]

-- the leaves of a node of a forest of up to 2 ^ 62 leaves
pub node-low : (rule : Rule) → IsPairing rule → (n first h : ℕ) (node : Tree) → n ≤ 2 ^ 62
    → IsNodeAt first node (forest_of rule n) → h ≡ height node → (first + 2 ^ h ≤ 2 ^ 62) × (h ≤ 62)
node-low rule pairs n first h node few stands high =
    let fits = (node-leaves rule pairs n first node stands).1 in
    let power : 2 ^ h ≡ 2 ^ height node = ap (λ k. 2 ^ k) high in
    (omega (arith, few, fits, power), height_fits 62 h (omega (arith, few, fits, power)))

pub subtree-low : (rule : Rule) → IsPairing rule → (first h : ℕ) → IsSubtree rule first h
    → (first + 2 ^ h ≤ 2 ^ 62) × (h ≤ 62)
subtree-low rule pairs first h it = node-low rule pairs it.0 first h it.2.0 it.1 it.2.1 it.2.2

-- the node at a position is one over the leaves from its first leaf on
pub subtree-at : (rule : Rule) (p h location : ℕ) → StandsAt rule p h → IsFirstLeaf rule p h location
    → IsSubtree rule location h
subtree-at rule p h location it is_first =
    let same : it.2.0 ≡ location = sym (is_first it.0 it.2.0 it.2.1 it.1 it.2.2 it.2.3 it.2.4) in
    (it.0, it.1, (it.2.1, subst (λ k. IsNodeAt k it.2.1 (forest_of rule it.0)) same it.2.2, it.2.4))

-- the birth of the node at a position, from that of the node over its leaves
pub birth-at : (rule : Rule) (root : ℕ → ℕ → ℕ) (p h location birth : ℕ)
    → ((n first : ℕ) (node : Tree) → IsNodeAt first node (forest_of rule n)
    → (chunk : ℕ) × (first ≡ chunk * 2 ^ height node))
    → ((n first : ℕ) (node : Tree) → IsNodeAt first node (forest_of rule n) → position node ≡ root first (height node))
    → ((chunk : ℕ) → location ≡ chunk * 2 ^ h → IsBirth rule location h birth)
    → StandsAt rule p h → IsFirstLeaf rule p h location → IsBirthAt rule p h birth
birth-at rule root p h location birth aligned roots births stands is_first n few =
    let node : Tree = stands.2.1 in
    let there = stands.2.2 in
    let at : location ≡ stands.2.0 = is_first stands.0 stands.2.0 node stands.1 there stands.2.3 stands.2.4 in
    let chunk = aligned stands.0 stands.2.0 node there in
    let it = births chunk.0 (at ∙ chunk.1 ∙ ap (λ k. chunk.0 * 2 ^ k) (sym stands.2.4)) n in (
      λ found. (let same : location ≡ found.0 = is_first n found.0 found.1 few found.2 found.3 found.4 in
          it.0 (found.1, rw same found.2, found.4)),
      λ born. (let found = it.1 born in (
        location,
        found.0,
        found.1,
        stands.2.3 ∙ roots stands.0 stands.2.0 node there ∙ ap (root stands.2.0) (sym stands.2.4)
            ∙ ap (λ k. root k h) (sym at)
            ∙ ap (root location) found.2 ∙ sym (roots n location found.0 found.1),
        found.2,
      )),
    )

below-quotient : (d n birth chunk : ℕ) → 0 < d
    → (chunk * d + birth ≤ n → chunk < cond (ltb n birth) 0 ((n - birth) / d + 1))
    × (chunk < cond (ltb n birth) 0 ((n - birth) / d + 1) → chunk * d + birth ≤ n)
below-quotient d n birth chunk some =
    let split : (n - birth) / d * d + (n - birth) % d ≡ n - birth = div-add-mod' (n - birth) d in (
      λ le. rw (cond-false (ltb n birth) 0 ((n - birth) / d + 1) (le-ltb n birth (omega (arith, le))))
          (omega (arith, le-div chunk (n - birth) d some (omega (arith, le)))),
      λ lt. elim (cases_lt n birth) [
        | inl none ↦ absurd (omega (
          arith,
          subst (λ k. chunk < k)
              (cond-true (ltb n birth) 0 ((n - birth) / d + 1) (lt-ltb n birth none)) lt,
        ))
        | inr past ↦ (let within : chunk < (n - birth) / d + 1 =
            subst (λ k. chunk < k) (cond-false (ltb n birth) 0 ((n - birth) / d + 1) (le-ltb n birth past)) lt in
            let whole : chunk * d ≤ (n - birth) / d * d = mul-le-mul_right d (omega (arith, within)) in
            omega (arith, whole, split, past))
      ],
    )

-- of the chunks of 2 ^ h leaves, those before the count of the nodes of height h have their node, and no others
pub stands-counted : (rule : Rule) (birth : ℕ → ℕ → ℕ) (n h chunk : ℕ)
    → IsBirth rule (chunk * 2 ^ h) h (birth (chunk * 2 ^ h) h) → birth (chunk * 2 ^ h) h ≡ chunk * 2 ^ h + birth 0 h
    → nodes_of_height h (forest_of rule n) ≡ cond (ltb n (birth 0 h)) 0 ((n - birth 0 h) / 2 ^ h + 1)
    → HasNode (forest_of rule n) (chunk * 2 ^ h) h ↔ (chunk < nodes_of_height h (forest_of rule n))
stands-counted rule birth n h chunk born apart count =
    let formula = below-quotient (2 ^ h) n (birth 0 h) chunk (pow_pos h) in (
      λ it. rw count (formula.0 (omega (arith, (born n).0 it, apart))),
      λ lt. (born n).1 (omega (arith, formula.1 (subst (λ k. chunk < k) count lt), apart)),
    )
