-- A walk over the maximal nodes of a range from left to right.
use Rattle.std.proofs.Common.{◌≡◌, ℕ, ◌+◌, ◌-◌, ◌*◌, ◌/◌, ◌%◌, ◌^◌}
use Rattle.std.proofs.Common.{◌<◌, ◌≤◌, ◌↔◌, true, false, cond, leb, ◌&&◌, min}
use Rattle.std.proofs.Common.{inl, inr, List, [], ◌∷◌, ◌++◌, map, refl, sym, ◌∙◌, ap, subst, arith}
use Rattle.std.proofs.lemmas.Bool.{cases_lt, le-leb, lt-leb, leb-true, and_parts, and_from, and_left, and_right}
use Rattle.std.proofs.lemmas.Bool.{cond-true, cond-false}
use Rattle.std.proofs.lemmas.Nat.{pow_pos, one_shl, div-add-mod', mod-mul-add}
use Rattle.merkle_forest.specs.Forest.{Tree, leaf, branch, position, height, leaf_count, leaves, Rule, forest_of}
use Rattle.merkle_forest.specs.Perfect.{IsPairing}
use Rattle.merkle_forest.specs.Laws.ForestGrowth.{leaves-forest_of}
use Rattle.merkle_forest.specs.Nodes.{IsWithin, IsNodeAt, HasNode, IsBirth}
use Rattle.merkle_forest.specs.Laws.Nodes.{within-fits, node-fits, node-leaves}
use Rattle.merkle_forest.specs.Peaks.{position_and_height}
use Rattle.merkle_forest.specs.Laws.Peaks.{leaf_count-pos}
use Rattle.merkle_forest.specs.Laws.Powers.{pow_le}
use Rattle.merkle_forest.specs.Maximal.{is_inside, maximal_in_tree, maximal_nodes, maximal_positions}

pub inside : (from to start : ℕ) (t : Tree) → from ≤ start → start + leaf_count t ≤ to
    → is_inside from to start t ≡ true
inside from to start t low high =
    and_from (leb from start) (leb (start + leaf_count t) to) (le-leb from start low)
    (le-leb (start + leaf_count t) to high)

pub inside-parts : (from to start : ℕ) (t : Tree) → is_inside from to start t ≡ true
    → (from ≤ start) × (start + leaf_count t ≤ to)
inside-parts from to start t is =
    let both = and_parts (leb from start) (leb (start + leaf_count t) to) is in
    (leb-true from start both.0, leb-true (start + leaf_count t) to both.1)

before : (from to start : ℕ) (t : Tree) → start < from → is_inside from to start t ≡ false
before from to start t lt = and_left (leb from start) (leb (start + leaf_count t) to) (lt-leb from start lt)

past_end : (from to start : ℕ) (t : Tree) → to < start + leaf_count t → is_inside from to start t ≡ false
past_end from to start t lt =
    and_right (leb from start) (leb (start + leaf_count t) to) (lt-leb (start + leaf_count t) to lt)

-- a tree that starts in the range stands in it if it ends there
inside-end : (from to start : ℕ) (t : Tree) → from ≤ start → is_inside from to start t ≡ leb (start + leaf_count t) to
inside-end from to start t low = ap (λ b. b && leb (start + leaf_count t) to) (le-leb from start low)

-- a tree before the range has no nodes in it
none-tree : (from to start : ℕ) (t : Tree) → start + leaf_count t ≤ from → maximal_in_tree from to start t ≡ []
none-tree from to start (leaf p) le =
    cond-false _ ((start, leaf p) ∷ []) [] (before from to start (leaf p) (omega arith))
none-tree from to start (branch p left right) le =
    cond-false _ ((start, branch p left right) ∷ [])
    (maximal_in_tree from to start left ++ maximal_in_tree from to (start + leaf_count left) right)
    (before from to start (branch p left right) (omega (arith, leaf_count-pos left)))
    ∙ ap (λ xs. xs ++ maximal_in_tree from to (start + leaf_count left) right)
    (none-tree from to start left (omega arith))
    ∙ none-tree from to (start + leaf_count left) right (omega arith)

pub none-before : (from to : ℕ) (peaks : List Tree) → leaves peaks ≤ from → maximal_nodes from to peaks ≡ []
none-before from to [] le = refl
none-before from to (t ∷ ts) le =
    ap (λ xs. xs ++ maximal_in_tree from to (leaves ts) t) (none-before from to ts (omega arith))
    ∙ none-tree from to (leaves ts) t (omega arith)

-- nor has an empty range
none-inside : (from to start : ℕ) (t : Tree) → to ≤ from → maximal_in_tree from to start t ≡ []
none-inside from to start (leaf p) le =
    elim (cases_lt start from) [
      | inl lt ↦ cond-false _ ((start, leaf p) ∷ []) [] (before from to start (leaf p) lt)
      | inr ge ↦ cond-false _ ((start, leaf p) ∷ []) [] (past_end from to start (leaf p) (omega arith))
    ]
none-inside from to start (branch p left right) le =
    let out : is_inside from to start (branch p left right) ≡ false =
    elim (cases_lt start from) [
      | inl lt ↦ before from to start (branch p left right) lt
      | inr ge ↦
          past_end from to start (branch p left right) (omega (arith, leaf_count-pos left))
    ] in
    cond-false _ ((start, branch p left right) ∷ [])
    (maximal_in_tree from to start left ++ maximal_in_tree from to (start + leaf_count left) right) out
    ∙ ap (λ xs. xs ++ maximal_in_tree from to (start + leaf_count left) right) (none-inside from to start left le)
    ∙ none-inside from to (start + leaf_count left) right le

pub none-empty : (from to : ℕ) (peaks : List Tree) → to ≤ from → maximal_nodes from to peaks ≡ []
none-empty from to [] le = refl
none-empty from to (t ∷ ts) le =
    ap (λ xs. xs ++ maximal_in_tree from to (leaves ts) t) (none-empty from to ts le)
    ∙ none-inside from to (leaves ts) t le

-- a tree after the start of the range doesn't see where that is
same-tree : (from after to start : ℕ) (t : Tree) → from ≤ start → after ≤ start
    → maximal_in_tree from to start t ≡ maximal_in_tree after to start t
same-tree from after to start (leaf p) low low' =
    ap (λ b. cond b ((start, leaf p) ∷ []) []) (inside-end from to start (leaf p) low
    ∙ sym (inside-end after to start (leaf p) low'))
same-tree from after to start (branch p left right) low low' =
    ap (λ b. cond b ((start, branch p left right) ∷ [])
    (maximal_in_tree from to start left ++ maximal_in_tree from to (start + leaf_count left) right))
    (inside-end from to start (branch p left right) low ∙ sym (inside-end after to start (branch p left right) low'))
    ∙ ap (λ xs. cond (is_inside after to start (branch p left right)) ((start, branch p left right) ∷ [])
    (xs ++ maximal_in_tree from to (start + leaf_count left) right)) (same-tree from after to start left low low')
    ∙ ap (λ ys. cond (is_inside after to start (branch p left right)) ((start, branch p left right) ∷ [])
    (maximal_in_tree after to start left ++ ys))
    (same-tree from after to (start + leaf_count left) right (omega arith) (omega arith))

-- Where the highest node that starts with the range and stands in it is this one, it comes first, and then those after
-- it.
step-tree : (next to start : ℕ) (node t : Tree) → IsWithin next node start t → next + leaf_count node ≤ to
    → ((other : Tree) → IsWithin next other start t → next + leaf_count other ≤ to → leaf_count other ≤ leaf_count node)
    → maximal_in_tree next to start t ≡ (next, node) ∷ maximal_in_tree (next + leaf_count node) to start t
step-tree next to start node (leaf p) within fits highest =
    let same : leaf_count node ≡ 1 = ap leaf_count within.1 in
    cond-true _ ((start, leaf p) ∷ []) [] (inside next to start (leaf p) (omega (arith, within.0))
    (omega (arith, fits, within.0, same)))
    ∙ ap (λ k. (k, leaf p) ∷ []) (sym within.0) ∙ ap (λ n. (next, n) ∷ []) (sym within.1)
    ∙ ap (λ xs. (next, node) ∷ xs)
    (sym (none-tree (next + leaf_count node) to start (leaf p) (omega (arith, within.0, same))))
step-tree next to start node (branch p left right) (inl within) fits highest =
    let same : leaf_count node ≡ leaf_count left + leaf_count right = ap leaf_count within.1 in
    cond-true _ ((start, branch p left right) ∷ [])
    (maximal_in_tree next to start left ++ maximal_in_tree next to (start + leaf_count left) right)
    (inside next to start (branch p left right) (omega (arith, within.0)) (omega (arith, fits, within.0, same)))
    ∙ ap (λ k. (k, branch p left right) ∷ []) (sym within.0) ∙ ap (λ n. (next, n) ∷ []) (sym within.1)
    ∙ ap (λ xs. (next, node) ∷ xs)
    (sym (none-tree (next + leaf_count node) to start (branch p left right) (omega (arith, within.0, same))))
step-tree next to start node (branch p left right) (inr (inl within)) fits highest =
    let bounds = within-fits next start node left within in
    let after : ℕ = next + leaf_count node in
    let middle : ℕ = start + leaf_count left in
    let whole : Tree = branch p left right in
    let out : is_inside next to start whole ≡ false =
    elim (cases_lt start next) [
      | inl lt ↦ before next to start whole lt
      | inr le ↦ (elim (cases_lt to (start + leaf_count whole)) [
        | inl past ↦ past_end next to start whole past
        | inr high ↦ absurd (omega (
          arith,
          bounds,
          leaf_count-pos right,
          highest whole
              (inl (omega (arith, bounds, le), refl)) (omega (arith, bounds, le, high)),
        ))
      ])
    ] in
    let out_after : is_inside after to start whole ≡ false =
    before after to start whole (omega (arith, bounds, leaf_count-pos node)) in
    cond-false _ ((start, whole) ∷ []) (maximal_in_tree next to start left ++ maximal_in_tree next to middle right) out
    ∙ ap (λ xs. xs ++ maximal_in_tree next to middle right)
    (step-tree next to start node left within fits (λ other w. highest other (inr (inl w))))
    ∙ ap (λ ys. (next, node) ∷ (maximal_in_tree after to start left ++ ys))
    (same-tree next after to middle right (omega (arith, bounds)) (omega (arith, bounds)))
    ∙ ap (λ xs. (next, node) ∷ xs)
    (sym (cond-false _ ((start, whole) ∷ [])
    (maximal_in_tree after to start left ++ maximal_in_tree after to middle right) out_after))
step-tree next to start node (branch p left right) (inr (inr within)) fits highest =
    let bounds = within-fits next (start + leaf_count left) node right within in
    let after : ℕ = next + leaf_count node in
    let middle : ℕ = start + leaf_count left in
    let whole : Tree = branch p left right in
    let out : is_inside next to start whole ≡ false =
    before next to start whole (omega (arith, bounds, leaf_count-pos left)) in
    let out_after : is_inside after to start whole ≡ false =
    before after to start whole (omega (arith, bounds, leaf_count-pos left)) in
    cond-false _ ((start, whole) ∷ []) (maximal_in_tree next to start left ++ maximal_in_tree next to middle right) out
    ∙ ap (λ xs. xs ++ maximal_in_tree next to middle right) (none-tree next to start left (omega (arith, bounds)))
    ∙ step-tree next to middle node right within fits (λ other w. highest other (inr (inr w)))
    ∙ ap (λ xs. (next, node) ∷ (xs ++ maximal_in_tree after to middle right))
    (sym (none-tree after to start left (omega (arith, bounds))))
    ∙ ap (λ xs. (next, node) ∷ xs)
    (sym (cond-false _ ((start, whole) ∷ [])
    (maximal_in_tree after to start left ++ maximal_in_tree after to middle right) out_after))

pub step-nodes : (next to : ℕ) (node : Tree) (peaks : List Tree) → IsNodeAt next node peaks
    → next + leaf_count node ≤ to
    → ((other : Tree) → IsNodeAt next other peaks → next + leaf_count other ≤ to → leaf_count other ≤ leaf_count node)
    → maximal_nodes next to peaks ≡ (next, node) ∷ maximal_nodes (next + leaf_count node) to peaks
step-nodes next to node [] stands fits highest = absurd stands
step-nodes next to node (t ∷ ts) (inl within) fits highest =
    let bounds = within-fits next (leaves ts) node t within in
    let after : ℕ = next + leaf_count node in
    ap (λ xs. xs ++ maximal_in_tree next to (leaves ts) t) (none-before next to ts bounds.0)
    ∙ step-tree next to (leaves ts) node t within fits (λ other w. highest other (inl w))
    ∙ ap (λ xs. (next, node) ∷ (xs ++ maximal_in_tree after to (leaves ts) t))
    (sym (none-before after to ts (omega (arith, bounds))))
step-nodes next to node (t ∷ ts) (inr stands) fits highest =
    let bounds = node-fits next node ts stands in
    let after : ℕ = next + leaf_count node in
    ap (λ xs. xs ++ maximal_in_tree next to (leaves ts) t)
    (step-nodes next to node ts stands fits (λ other s. highest other (inr s)))
    ∙ ap (λ ys. (next, node) ∷ (maximal_nodes after to ts ++ ys))
    (same-tree next after to (leaves ts) t (omega (arith, bounds)) (omega (arith, bounds)))

-- a leaf stands at each location
leaf-tree : (location start : ℕ) (t : Tree) → start ≤ location → location < start + leaf_count t
    → (node : Tree) × IsWithin location node start t × (0 ≡ height node)
leaf-tree location start (leaf p) low high = (leaf p, (omega arith, refl), refl)
leaf-tree location start (branch p left right) low high =
    elim (cases_lt location (start + leaf_count left)) [
      | inl lt ↦ (let it = leaf-tree location start left low lt in (it.0, inr (inl it.1), it.2))
      | inr ge ↦ (let it = leaf-tree location (start + leaf_count left) right ge (omega arith) in
          (it.0, inr (inr it.1), it.2))
    ]

pub leaf-stands : (location : ℕ) (peaks : List Tree) → location < leaves peaks → HasNode peaks location 0
leaf-stands location [] lt = absurd (omega arith)
leaf-stands location (t ∷ ts) lt =
    elim (cases_lt location (leaves ts)) [
      | inl there ↦ (let it = leaf-stands location ts there in (it.0, inr it.1, it.2))
      | inr here ↦ (let it = leaf-tree location (leaves ts) t here (omega arith) in (it.0, inl it.1, it.2))
    ]

-- the walk begins at the start of the chunk
pub chunk-positions : (rule : Rule) → IsPairing rule → (n chunk h next to : ℕ) → n ≤ 2 ^ 62 → h ≤ 62
    → next ≡ min (chunk * 2 ^ h) (2 ^ 64 - 1) → to ≡ min (next + 2 ^ h) (2 ^ 64 - 1)
    → maximal_positions next to (forest_of rule n)
    ≡ maximal_positions (chunk * 2 ^ h) (chunk * 2 ^ h + 2 ^ h) (forest_of rule n)
chunk-positions rule pairs n chunk h next to few low is_next is_to =
    let all : leaves (forest_of rule n) ≡ n = leaves-forest_of rule pairs n in
    let from : ℕ = chunk * 2 ^ h in
    let width : 2 ^ h ≤ 2 ^ 62 = pow_le h 62 low in
    elim (cases_lt from n) [
      | inl there ↦ (let same : next ≡ from = omega (arith, is_next) in
          let same_end : to ≡ from + 2 ^ h = omega (arith, is_to, same, width) in
          ap (λ k. maximal_positions k to (forest_of rule n)) same
          ∙ ap (λ k. maximal_positions from k (forest_of rule n)) same_end)
      | inr past ↦ ap (map position_and_height) (none-before next to (forest_of rule n) (omega (arith, all, is_next))
          ∙ sym (none-before from (from + 2 ^ h) (forest_of rule n) (omega (arith, all))))
    ]

-- after the range or all leaves it ends
pub end-positions : (rule : Rule) → IsPairing rule → (n next to : ℕ) → min to n ≤ next
    → maximal_positions next to (forest_of rule n) ≡ []
end-positions rule pairs n next to le =
    let all : leaves (forest_of rule n) ≡ n = leaves-forest_of rule pairs n in
    elim (cases_lt next to) [
      | inl lt ↦ ap (map position_and_height) (none-before next to (forest_of rule n) (omega (arith, all, le)))
      | inr ge ↦ ap (map position_and_height) (none-empty next to (forest_of rule n) ge)
    ]

-- one step: over the highest node that fits
pub step-positions : (rule : Rule) → IsPairing rule → (n next to h p : ℕ) → HasNode (forest_of rule n) next h
    → next + 2 ^ h ≤ min to n
    → ((k : ℕ) → HasNode (forest_of rule n) next k → next + 2 ^ k ≤ min to n → k ≤ h)
    → ((node : Tree) → IsNodeAt next node (forest_of rule n) → h ≡ height node → p ≡ position node)
    → maximal_positions next to (forest_of rule n) ≡ (p, h) ∷ maximal_positions (next + 2 ^ h) to (forest_of rule n)
step-positions rule pairs n next to h p found fits highest at_position =
    let node : Tree = found.0 in
    let counts = node-leaves rule pairs n next node found.1 in
    let power : 2 ^ h ≡ 2 ^ height node = ap (λ k. 2 ^ k) found.2 in
    let leaf_total : leaf_count node ≡ 2 ^ h = omega (arith, counts.0, power) in
    ap (map position_and_height) (step-nodes next to node (forest_of rule n) found.1 (omega (arith, leaf_total, fits))
    (λ other stands ends. (let its = node-leaves rule pairs n next other stands in
    omega (
      arith,
      its.0,
      leaf_total,
      pow_le (height other) h
          (highest (height other) (other, stands, refl) (omega (arith, its, ends))),
    ))))
    ∙ ap (λ k. position_and_height (next, node) ∷ maximal_positions k to (forest_of rule n))
    (ap (λ m. next + m) leaf_total)
    ∙ ap (λ k. (position node, k) ∷ maximal_positions (next + 2 ^ h) to (forest_of rule n)) (sym found.2)
    ∙ ap (λ k. (k, h) ∷ maximal_positions (next + 2 ^ h) to (forest_of rule n)) (sym (at_position node found.1 found.2))

-- at a multiple of 2 ^ h the birth tells whether the node stands
pub born-there : (rule : Rule) (birth : ℕ → ℕ → ℕ) (n first h b : ℕ)
    → ((chunk k : ℕ) → IsBirth rule (chunk * 2 ^ k) k (birth (chunk * 2 ^ k) k))
    → h ≤ 62 → first % (1 * 2 ^ h % 2 ^ 64) ≡ 0 → b ≡ birth first h → HasNode (forest_of rule n) first h ↔ (b ≤ n)
born-there rule birth n first h b births low none is =
    let width : 1 * 2 ^ h % 2 ^ 64 ≡ 2 ^ h = one_shl h 64 (omega (arith, low)) in
    let rest : first % 2 ^ h ≡ 0 = ap (λ m. first % m) (sym width) ∙ none in
    let whole : first / 2 ^ h * 2 ^ h ≡ first = omega (arith, rest, div-add-mod' first (2 ^ h)) in
    let at : IsBirth rule first h (birth first h) =
    subst (λ k. IsBirth rule k h (birth k h)) whole (births (first / 2 ^ h) h) in
    subst (λ k. HasNode (forest_of rule n) first h ↔ (k ≤ n)) (sym is) (at n)

-- elsewhere there is none
pub never-there : (rule : Rule) (n first h : ℕ)
    → ((m start : ℕ) (node : Tree) → IsNodeAt start node (forest_of rule m)
    → (chunk : ℕ) × (start ≡ chunk * 2 ^ height node))
    → h ≤ 62 → HasNode (forest_of rule n) first h → first % (1 * 2 ^ h % 2 ^ 64) ≡ 0
never-there rule n first h aligned low found =
    let it = aligned n first found.0 found.1 in
    let width : 1 * 2 ^ h % 2 ^ 64 ≡ 2 ^ h = one_shl h 64 (omega (arith, low)) in
    let whole : first ≡ it.0 * 2 ^ h + 0 = omega (arith, it.1 ∙ ap (λ k. it.0 * 2 ^ k) (sym found.2)) in
    ap (λ m. first % m) width ∙ ap (λ m. m % 2 ^ h) whole ∙ mod-mul-add it.0 (2 ^ h) 0 (pow_pos h)
