-- The leaves of the tree of the chunks, as a state grows.
use Rattle.std.proofs.Common.{◌≡◌, ℕ, zero, suc, ◌+◌, ◌-◌, ◌*◌, ◌/◌, ◌^◌, ◌<◌}
use Rattle.std.proofs.Common.{◌≤◌, true, false, eqb, cond, inl, inr, List, [], ◌∷◌, ◌++◌, length, get_or}
use Rattle.std.proofs.Common.{Some, None, refl, sym, ◌∙◌, ap, ap₂, subst, arith, length-append, eq-eqb}
use Rattle.std.specs.List.{AllByRecursion}
use Rattle.std.specs.Prelude.{◌||◌, ◌↔◌, slice_get}
use Rattle.std.specs.Option.{option_map}
use Rattle.std.proofs.lemmas.Bool.{cases_lt, cases_eq, cond-true, cond-false, ne_eqb}
use Rattle.std.proofs.lemmas.List.{get_or_append_left, get_or-append_right}
use Rattle.std.proofs.lemmas.Nat.{le-div}
use Rattle.std.proofs.Math.Nat.{mul_comm}
use Rattle.merkle_forest.specs.Forest.{Tree, leaf, branch, height, leaf_count, Rule, forest_of}
use Rattle.merkle_forest.specs.Hashing.{Hash, leaf_string, node_string}
use Rattle.merkle_forest.specs.Laws.ForestGrowth.{leaves-forest_of, forest_of-perfect, leaf_count-perfect}
use Rattle.merkle_forest.specs.Laws.NodeGrowth.{one-node}
use Rattle.merkle_forest.specs.Laws.Nodes.{node-fits, node-perfect}
use Rattle.merkle_forest.specs.Nodes.{HasNode, IsNodeAt, nodes_of_height}
use Rattle.merkle_forest.specs.Perfect.{IsPairing}
use Rattle.merkle_forest.specs.Trees.{plain_digest}
use Rattle.merkle_core_parts.specs.Laws.Replaced.{get-replaced, length-replaced}
use Rattle.merkle_core_parts.specs.Mem.{Replacement, replaced, value_after}
use Rattle.state_theory.specs.Canonical.{Setting, State, chunk, forest, full_chunks}
use Rattle.state_theory.specs.GraftedNodes.{AreGraftedLeaves}
use Rattle.state_theory.specs.Grafting.{grafted}
use Rattle.state_theory.specs.Laws.GraftedNodes.{Roots}
use Rattle.state_current.specs.Growth.{Change, grown, IsGraftedLeaf, is_updated, AreBrought}
use Rattle.state_current.proofs.ChunkLemmas.{chunk_at-more, chunk_at-cleared, state_chunk}

-- ---- what stands at an index, in both words
pub get_or-slice_get : (xs : List (List ℕ)) (i : ℕ) (d : List ℕ) → slice_get xs i ≡ Some d → get_or xs i [] ≡ d
get_or-slice_get [] i d is = absurd (let clash : None ≡ Some d = is in cc)
get_or-slice_get (x ∷ xs) zero d is = let same : Some x ≡ Some d = is in cc
get_or-slice_get (x ∷ xs) (suc i) d is = get_or-slice_get xs i d is

pub slice_get-get_or : (xs : List (List ℕ)) (i : ℕ) → i < length xs → slice_get xs i ≡ Some (get_or xs i [])
slice_get-get_or [] i lt = absurd (omega arith)
slice_get-get_or (x ∷ xs) zero lt = refl
slice_get-get_or (x ∷ xs) (suc i) lt = slice_get-get_or xs i (omega arith)

-- ---- what stands at an index after updates, where each one of it is right, and so is the old one if there is none
pub value_all : (P : List ℕ → Type 0) (us : List Replacement) (k : ℕ) (old : List ℕ)
    → AllByRecursion (λ (u : Replacement). u.0 ≡ k → P u.1) us → (is_updated k us ≡ false → P old) → P (value_after us k old)
value_all P [] k old all clean = clean refl
value_all P (u ∷ us) k old all clean =
    elim (cases_eq u.0 k) [
      | inl same ↦
          (let is : cond (eqb u.0 k) u.1 old ≡ u.1 = cond-true (eqb u.0 k) u.1 old (eq-eqb u.0 k same) in
          subst (λ o. P (value_after us k o)) (sym is) (value_all P us k u.1 all.1 (λ none. all.0 same)))
      | inr apart ↦
          (let test : eqb u.0 k ≡ false = ne_eqb u.0 k apart in
          let is : cond (eqb u.0 k) u.1 old ≡ old = cond-false (eqb u.0 k) u.1 old test in
          subst (λ o. P (value_after us k o)) (sym is)
          (value_all P us k old all.1 (λ none. clean (ap (λ b. b || is_updated k us) test ∙ none))))
    ]

-- ---- plain digests stay as elements are added
pub plain_more : (hash : Hash) (elements more : List (List ℕ)) (first : ℕ) (tree : Tree) → first + leaf_count tree ≤ length elements
    → plain_digest hash (elements ++ more) first tree ≡ plain_digest hash elements first tree
plain_more hash elements more first (leaf p) le =
    ap (λ e. hash (leaf_string p e)) (get_or_append_left elements more [] first (omega (arith, le)))
plain_more hash elements more first (branch p left right) le =
    ap₂ (λ a b. hash (node_string p a b))
    (plain_more hash elements more first left (omega (arith, le)))
    (plain_more hash elements more (first + leaf_count left) right (omega (arith, le)))

-- a chunk has its node exactly if it is one of so many
abbrev pub Counted : Rule → ℕ → Type 0
Counted rule level = (n chunk : ℕ) → n ≤ 2 ^ 62
    → HasNode (forest_of rule n) (chunk * 2 ^ level) level ↔ (chunk < nodes_of_height level (forest_of rule n))

-- none of the places is in a chunk whose leaf is not updated
pub clean_apart : (width i count : ℕ) (places : List ℕ) (us : List Replacement) → i < count → is_updated i us ≡ false
    → AllByRecursion (λ at. at / (8 * width) < count → is_updated (at / (8 * width)) us ≡ true) places
    → AllByRecursion (λ at. i ≡ at / (8 * width) → ⊥) places
clean_apart width i count [] us lt none all = tt
clean_apart width i count (at ∷ places) us lt none all = (
  λ same. (let is : true ≡ false = sym (all.0 (omega (arith, same, lt))) ∙ ap (λ k. is_updated k us) (sym same) ∙ none in absurd cc),
  clean_apart width i count places us lt none all.1,
)

module _ (setting : Setting) (root : ℕ → ℕ → ℕ) (pairs : IsPairing setting.rule) (roots : Roots setting.rule root)
    (whole : 8 * setting.width ≡ 2 ^ setting.grafting_height) (counted : Counted setting.rule setting.grafting_height) where
  abbrev rule : Rule
  rule = setting.rule

  abbrev hash : Hash
  hash = setting.hash

  abbrev level : ℕ
  level = setting.grafting_height

  abbrev graftable : State → ℕ
  graftable state = nodes_of_height level (forest setting state)

  -- one node begins at a location and has a height
  pub same_node : (n m first : ℕ) (a b : Tree) → IsNodeAt first a (forest_of rule n) → IsNodeAt first b (forest_of rule m)
      → height a ≡ height b → a ≡ b
  same_node n m first a b one other high =
      (one-node rule pairs n m first first a b one other
      (roots n first a one ∙ ap (root first) high ∙ sym (roots m first b other))).1

  -- a node over a chunk ends within the leaves, so the chunk is full
  pub node_end : (n index : ℕ) (node : Tree) → IsNodeAt (index * 2 ^ level) node (forest_of rule n) → height node ≡ level
      → 8 * setting.width * suc index ≤ n
  node_end n index node stands high =
      let perfect = node-perfect (index * 2 ^ level) node (forest_of rule n) (forest_of-perfect rule pairs n) stands in
      let fits = node-fits (index * 2 ^ level) node (forest_of rule n) stands in
      let long : leaf_count node ≡ 8 * setting.width = leaf_count-perfect node perfect ∙ ap (λ k. 2 ^ k) high ∙ sym whole in
      let begins : index * 2 ^ level ≡ 8 * setting.width * index = ap (λ k. index * k) (sym whole) ∙ mul_comm index (8 * setting.width) in
      omega (arith, fits, long, begins, leaves-forest_of rule pairs n)

  pub full_of : (state : State) (index : ℕ) → 1 ≤ setting.width → 8 * setting.width * suc index ≤ length state.operations
      → index < full_chunks setting state
  full_of state index some le =
      let at_least = le-div (suc index) (length state.operations) (8 * setting.width) (omega (arith, some))
      (omega (arith, le, mul_comm (suc index) (8 * setting.width))) in
      omega (arith, at_least)

  module _ (state : State) (change : Change) (few : length (state.operations ++ change.operations) ≤ 2 ^ 62)
      (some : 1 ≤ setting.width) (paired : length state.bits ≡ length state.operations) where
    abbrev after : State
    after = grown state change

    abbrev old_count : length state.operations ≤ length (state.operations ++ change.operations)
    old_count = omega (arith, length-append state.operations change.operations)

    -- a chunk that has its node, and no cleared place, stays
    pub chunk_stays : (index : ℕ) (node : Tree) → IsNodeAt (index * 2 ^ level) node (forest setting state) → height node ≡ level
        → AllByRecursion (λ at. index ≡ at / (8 * setting.width) → ⊥) change.cleared
        → chunk setting after index ≡ chunk setting state index
    chunk_stays index node stands high apart =
        let end = node_end (length state.operations) index node stands high in
        state_chunk setting after index (full_of after index some (omega (arith, end, length-append state.operations change.operations)))
        ∙ chunk_at-cleared setting.width (state.bits ++ change.bits) index change.cleared some apart
        ∙ chunk_at-more setting.width state.bits change.bits index (omega (arith, end, paired))
        ∙ sym (state_chunk setting state index (full_of state index some end))

    -- so its leaf stays
    pub leaf_stays : (index : ℕ) (old : Tree) (digest : List ℕ) → IsNodeAt (index * 2 ^ level) old (forest setting state)
        → height old ≡ level → AllByRecursion (λ at. index ≡ at / (8 * setting.width) → ⊥) change.cleared
        → digest ≡ grafted hash (chunk setting state index) (plain_digest hash state.operations (index * 2 ^ level) old)
        → IsGraftedLeaf setting after index digest
    leaf_stays index old digest stands high apart is node stands' high' =
        let same : old ≡ node = same_node (length state.operations) (length after.operations) (index * 2 ^ level) old node stands stands'
        (high ∙ sym high') in
        let fits : index * 2 ^ level + leaf_count old ≤ length state.operations =
        omega (arith, node-fits (index * 2 ^ level) old (forest setting state) stands, leaves-forest_of rule pairs (length state.operations)) in
        is
        ∙ ap (λ c. grafted hash c (plain_digest hash state.operations (index * 2 ^ level) old)) (sym (chunk_stays index old stands high apart))
        ∙ ap (grafted hash (chunk setting after index)) (sym (plain_more hash state.operations change.operations (index * 2 ^ level) old fits))
        ∙ ap (λ n. grafted hash (chunk setting after index) (plain_digest hash after.operations (index * 2 ^ level) n)) same

    module _ (leaf_digests added : List (List ℕ)) (updates : List Replacement)
        (are : AreBrought setting state after change.cleared added updates) (were : AreGraftedLeaves setting state leaf_digests) where
      abbrev joined_list : List (List ℕ)
      joined_list = leaf_digests ++ added

      long : length joined_list ≡ graftable after
      long = omega (arith, length-append leaf_digests added, were.counted, are.counted)

      old_leaf : (index : ℕ) → index < graftable state → is_updated index updates ≡ false
          → IsGraftedLeaf setting after index (get_or joined_list index [])
      old_leaf index lt none =
          let there = (counted (length state.operations) index (omega (arith, few, old_count))).1 lt in
          let listed = were.joined index there.0 there.1 (sym there.2) in
          leaf_stays index there.0 (get_or joined_list index []) there.1 (sym there.2)
          (clean_apart setting.width index (graftable state) change.cleared updates lt none are.covered)
          (get_or_append_left leaf_digests added [] index (omega (arith, lt, were.counted))
          ∙ get_or-slice_get leaf_digests index _ listed)

      new_leaf : (index : ℕ) → graftable state ≤ index → index < graftable after
          → IsGraftedLeaf setting after index (get_or joined_list index [])
      new_leaf index ge lt =
          let at : graftable state + (index - graftable state) ≡ index = omega (arith, ge) in
          let within : index - graftable state < length added = omega (arith, ge, lt, are.counted) in
          let same : get_or joined_list index [] ≡ get_or added (index - graftable state) [] =
          get_or-append_right leaf_digests added (graftable state) index [] were.counted ge in
          subst (λ d. IsGraftedLeaf setting after index d) (sym same)
          (subst (λ k. IsGraftedLeaf setting after k (get_or added (index - graftable state) [])) at
          (are.added (index - graftable state) (get_or added (index - graftable state) []) (slice_get-get_or added (index - graftable state) within)))

      updated_all : (index : ℕ) (us : List Replacement) → AllByRecursion (λ one. IsGraftedLeaf setting after one.0 one.1) us
          → AllByRecursion (λ (u : Replacement). u.0 ≡ index → IsGraftedLeaf setting after index u.1) us
      updated_all index [] all = tt
      updated_all index (u ∷ us) all =
          (λ same. subst (λ k. IsGraftedLeaf setting after k u.1) same all.0, updated_all index us all.1)

      brought : (index : ℕ) → index < graftable after → IsGraftedLeaf setting after index (value_after updates index (get_or joined_list index []))
      brought index lt =
          value_all (IsGraftedLeaf setting after index) updates index (get_or joined_list index []) (updated_all index updates are.updates)
          (λ none. elim (cases_lt index (graftable state)) [
            | inl old ↦ old_leaf index old none
            | inr new ↦ new_leaf index new lt
          ])

      pub leaves_grow : AreGraftedLeaves setting after (replaced joined_list updates)
      leaves_grow = record {
        counted = length-replaced joined_list updates ∙ long;
        joined = λ index node stands high.
            let lt = (counted (length after.operations) index few).0 (node, stands, sym high) in
            get-replaced joined_list updates index
            ∙ ap (option_map (value_after updates index)) (slice_get-get_or joined_list index (omega (arith, lt, long)))
            ∙ ap (λ d. Some d) (brought index lt node stands high);
      }
