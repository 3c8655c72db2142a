-- The list of the maximal nodes has those nodes and no others.
use Rattle.std.proofs.Common.{◌≡◌, ◌↔◌, ℕ, ◌+◌, ◌≤◌, true, false, inl, inr, List, [], ◌∷◌, ◌++◌, sym, ap, subst, arith}
use Rattle.std.specs.Prelude.{Contains}
use Rattle.std.proofs.lemmas.Bool.{cases_Bool, both_ways, cond-true, cond-false}
use Rattle.std.proofs.lemmas.List.Elements.{Contains-append_left, Contains-append_right, Contains-append_cases}
use Rattle.std.proofs.lemmas.List.Elements.{Contains-push, Contains-push_cases}
use Rattle.merkle_forest.specs.Forest.{Tree, leaf, branch, leaf_count, leaves}
use Rattle.merkle_forest.specs.Nodes.{IsWithin}
use Rattle.merkle_forest.specs.Laws.Nodes.{within-fits, within-self, node-fits}
use Rattle.merkle_forest.specs.Laws.Peaks.{leaf_count-pos}
use Rattle.merkle_forest.specs.Trees.{Located}
use Rattle.merkle_forest.specs.Maximal.{is_inside, maximal_in_tree, maximal_nodes, IsMaximalNode}
use Rattle.merkle_forest.specs.Laws.Maximal.{inside, inside-parts}

-- the same of a tree
record IsTop (from to start : ℕ) (t : Tree) (first : ℕ) (node : Tree) : Type 0 where
  stands : IsWithin first node start t
  low : from ≤ first
  high : first + leaf_count node ≤ to
  top : (s : ℕ) (other : Tree) → IsWithin s other start t → from ≤ s → s + leaf_count other ≤ to
      → IsWithin first node s other → other ≡ node

-- a node with all leaves of the tree is the tree
whole-within : (s start : ℕ) (other t : Tree) → IsWithin s other start t → leaf_count t ≤ leaf_count other
    → (s ≡ start) × (other ≡ t)
whole-within s start other (leaf p) within le = within
whole-within s start other (branch p left right) (inl within) le = within
whole-within s start other (branch p left right) (inr (inl within)) le =
    absurd (omega (arith, within-fits s start other left within, leaf_count-pos right))
whole-within s start other (branch p left right) (inr (inr within)) le =
    absurd (omega (arith, within-fits s (start + leaf_count left) other right within, leaf_count-pos left))

-- a tree in the range is the top of itself
top-whole : (from to start : ℕ) (t : Tree) → is_inside from to start t ≡ true → IsTop from to start t start t
top-whole from to start t is =
    let parts = inside-parts from to start t is in
    record {
      stands = within-self start t;
      low = parts.0;
      high = parts.1;
      top = λ s other within low high above.
          (whole-within s start other t within
          (omega (arith, within-fits start s t other above, within-fits s start other t within))).1;
    }

single : (start first : ℕ) (t node : Tree) → Contains {X = Located} ((start, t) ∷ []) (first, node)
    → (start ≡ first) × (t ≡ node)
single start first t node there =
    elim (Contains-push_cases {X = Located} [] (start, t) (first, node) there)
    [ inl none ↦ absurd (omega (arith, none.1)) | inr same ↦ (ap (λ z. z.0) same, ap (λ z. z.1) same) ]

top-single : (from to start first : ℕ) (t node : Tree) → is_inside from to start t ≡ true
    → Contains {X = Located} ((start, t) ∷ []) (first, node) → IsTop from to start t first node
top-single from to start first t node is there =
    let same = single start first t node there in
    subst (λ n. IsTop from to start t first n) same.1
    (subst (λ k. IsTop from to start t k t) same.0 (top-whole from to start t is))

none : (start first : ℕ) (node : Tree) → Contains {X = Located} [] (first, node) → ⊥
none start first node there = omega (arith, there.1)

-- the whole tree isn't in the range: a top of the left one is one of the tree
top-left : (from to start p first : ℕ) (left right node : Tree)
    → is_inside from to start (branch p left right) ≡ false → IsTop from to start left first node
    → IsTop from to start (branch p left right) first node
top-left from to start p first left right node out it = record {
  stands = inr (inl it.stands);
  low = it.low;
  high = it.high;
  top = λ s other within low high above. elim within [
    | inl here ↦ absurd (let same : leaf_count other ≡ leaf_count left + leaf_count right = ap leaf_count here.1 in
        both_ways (is_inside from to start (branch p left right)) out
        (inside from to start (branch p left right) (omega (arith, here.0)) (omega (arith, here.0, same))))
    | inr rest ↦ elim rest [
      | inl there ↦ it.top s other there low high above
      | inr there ↦ absurd
          (omega (
            arith,
            within-fits s (start + leaf_count left) other right there,
            within-fits first start node left
                it.stands,
            within-fits first s node other above,
            leaf_count-pos node,
          ))
    ]
  ];
}

top-right : (from to start p first : ℕ) (left right node : Tree)
    → is_inside from to start (branch p left right) ≡ false → IsTop from to (start + leaf_count left) right first node
    → IsTop from to start (branch p left right) first node
top-right from to start p first left right node out it = record {
  stands = inr (inr it.stands);
  low = it.low;
  high = it.high;
  top = λ s other within low high above. elim within [
    | inl here ↦ absurd (let same : leaf_count other ≡ leaf_count left + leaf_count right = ap leaf_count here.1 in
        both_ways (is_inside from to start (branch p left right)) out
        (inside from to start (branch p left right) (omega (arith, here.0)) (omega (arith, here.0, same))))
    | inr rest ↦ elim rest [
      | inl there ↦ absurd
          (omega (
            arith,
            within-fits s start other left there,
            within-fits first
                (start + leaf_count left) node right it.stands,
            within-fits first s node other above,
            leaf_count-pos node,
          ))
      | inr there ↦ it.top s other there low high above
    ]
  ];
}

found-tree : (from to start first : ℕ) (t node : Tree) → Contains (maximal_in_tree from to start t) (first, node)
    → IsTop from to start t first node
found-tree from to start first (leaf p) node there =
    let all : List Located = (start, leaf p) ∷ [] in
    elim (cases_Bool (is_inside from to start (leaf p))) [
      | inl is ↦ top-single from to start first (leaf p) node is
          (subst (λ xs. Contains xs (first, node)) (cond-true (is_inside from to start (leaf p)) all [] is) there)
      | inr out ↦ absurd (none start first node (subst (λ xs. Contains xs (first, node))
          (cond-false (is_inside from to start (leaf p)) all [] out) there))
    ]
found-tree from to start first (branch p left right) node there =
    let whole : Tree = branch p left right in
    let all : List Located = (start, whole) ∷ [] in
    let below : List Located =
    maximal_in_tree from to start left ++ maximal_in_tree from to (start + leaf_count left) right in
    elim (cases_Bool (is_inside from to start whole)) [
      | inl is ↦ top-single from to start first whole node is
          (subst (λ xs. Contains xs (first, node)) (cond-true (is_inside from to start whole) all below is) there)
      | inr out ↦ (
          elim (Contains-append_cases (maximal_in_tree from to start left)
          (maximal_in_tree from to (start + leaf_count left) right) (first, node)
          (subst (λ xs. Contains xs (first, node)) (cond-false (is_inside from to start whole) all below out) there)) [
            | inl at_left ↦ top-left from to start p first left right node out
                (found-tree from to start first left node at_left)
            | inr at_right ↦ top-right from to start p first left right node out
                (found-tree from to (start + leaf_count left) first right node at_right)
          ])
    ]

-- where the whole tree is in the range, it is the only top
only-whole : (from to start first : ℕ) (t node : Tree) → is_inside from to start t ≡ true
    → IsTop from to start t first node → Contains {X = Located} ((start, t) ∷ []) (first, node)
only-whole from to start first t node is it =
    let parts = inside-parts from to start t is in
    let same : t ≡ node = it.top start t (within-self start t) parts.0 parts.1 it.stands in
    let counts : leaf_count t ≡ leaf_count node = ap leaf_count same in
    let here : start ≡ first = omega (arith, within-fits first start node t it.stands, counts) in
    subst (λ n. Contains {X = Located} ((start, t) ∷ []) (first, n)) same
    (subst (λ k. Contains {X = Located} ((start, t) ∷ []) (k, t)) here (Contains-push {X = Located} [] (start, t)))

kept-tree : (from to start first : ℕ) (t node : Tree) → IsTop from to start t first node
    → Contains (maximal_in_tree from to start t) (first, node)
kept-tree from to start first (leaf p) node it =
    let all : List Located = (start, leaf p) ∷ [] in
    let same : leaf_count node ≡ 1 = ap leaf_count it.stands.1 in
    let is : is_inside from to start (leaf p) ≡ true =
    inside from to start (leaf p) (omega (arith, it.low, it.stands.0))
    (omega (arith, it.high, it.stands.0, same)) in
    subst (λ xs. Contains xs (first, node)) (sym (cond-true (is_inside from to start (leaf p)) all [] is))
    (only-whole from to start first (leaf p) node is it)
kept-tree from to start first (branch p left right) node it =
    let whole : Tree = branch p left right in
    let all : List Located = (start, whole) ∷ [] in
    let below : List Located =
    maximal_in_tree from to start left ++ maximal_in_tree from to (start + leaf_count left) right in
    elim (cases_Bool (is_inside from to start whole)) [
      | inl is ↦ subst (λ xs. Contains xs (first, node))
          (sym (cond-true (is_inside from to start whole) all below is))
          (only-whole from to start first whole node is it)
      | inr out ↦ subst (λ xs. Contains xs (first, node))
          (sym (cond-false (is_inside from to start whole) all below out)) (elim it.stands [
            | inl here ↦ absurd (let same : leaf_count node ≡ leaf_count left
                + leaf_count right = ap leaf_count here.1 in
                both_ways (is_inside from to start whole) out
                (inside from to start whole (omega (arith, it.low, here.0)) (omega (arith, it.high, here.0, same))))
            | inr rest ↦ elim rest [
              | inl there ↦ Contains-append_left (maximal_in_tree from to start left)
                  (maximal_in_tree from to (start + leaf_count left) right) (first, node)
                  (kept-tree from to start first left node (record {
                    stands = there;
                    low = it.low;
                    high = it.high;
                    top = λ s other w. it.top s other (inr (inl w));
                  }))
              | inr there ↦ Contains-append_right (maximal_in_tree from to start left)
                  (maximal_in_tree from to (start + leaf_count left) right) (first, node)
                  (kept-tree from to (start + leaf_count left) first right node
                  (record {
                    stands = there;
                    low = it.low;
                    high = it.high;
                    top = λ s other w. it.top s other (inr (inr w));
                  }))
            ]
          ])
    ]

found-nodes : (from to first : ℕ) (node : Tree) (peaks : List Tree)
    → Contains (maximal_nodes from to peaks) (first, node) → IsMaximalNode from to peaks first node
found-nodes from to first node [] there = absurd (none 0 first node there)
found-nodes from to first node (t ∷ ts) there =
    elim (Contains-append_cases (maximal_nodes from to ts) (maximal_in_tree from to (leaves ts) t)
    (first, node) there) [
      | inl before ↦ (let it = found-nodes from to first node ts before in record {
        stands = inr it.stands;
        low = it.low;
        high = it.high;
        top = λ s other stands low high above. elim stands [
          | inl here ↦ absurd (omega (
            arith,
            within-fits s
                (leaves ts) other t here,
            node-fits first node ts it.stands,
            within-fits first s node other above,
            leaf_count-pos node,
          ))
          | inr rest ↦ it.top s other rest low high above
        ];
      })
      | inr last ↦ (let it = found-tree from to (leaves ts) first t node last in record {
        stands = inl it.stands;
        low = it.low;
        high = it.high;
        top = λ s other stands low high above. elim stands [
          | inl here ↦ it.top s other here low high above
          | inr rest ↦ absurd (omega (
            arith,
            node-fits s other ts rest,
            within-fits first
                (leaves ts) node t it.stands,
            within-fits first s node other above,
            leaf_count-pos node,
          ))
        ];
      })
    ]

kept-nodes : (from to first : ℕ) (node : Tree) (peaks : List Tree) → IsMaximalNode from to peaks first node
    → Contains (maximal_nodes from to peaks) (first, node)
kept-nodes from to first node [] it = absurd it.stands
kept-nodes from to first node (t ∷ ts) it =
    elim it.stands [
      | inl here ↦ Contains-append_right (maximal_nodes from to ts) (maximal_in_tree from to (leaves ts) t)
          (first, node)
          (kept-tree from to (leaves ts) first t node (record {
            stands = here;
            low = it.low;
            high = it.high;
            top = λ s other w. it.top s other (inl w);
          }))
      | inr rest ↦ Contains-append_left (maximal_nodes from to ts) (maximal_in_tree from to (leaves ts) t) (first, node)
          (kept-nodes from to first node ts (record {
            stands = rest;
            low = it.low;
            high = it.high;
            top = λ s other w. it.top s other (inr w);
          }))
    ]

pub maximal-meaning : (from to first : ℕ) (node : Tree) (peaks : List Tree)
    → Contains (maximal_nodes from to peaks) (first, node) ↔ IsMaximalNode from to peaks first node
maximal-meaning from to first node peaks = (found-nodes from to first node peaks, kept-nodes from to first node peaks)
