-- Proofs of several elements that are built out of the nodes of a plain tree lead to its root.
use Rattle.std.proofs.Common.{◌≡◌, ⊎_elim, ℕ, zero, suc, ◌+◌, ◌<◌, ◌≤◌, Bool, true, false, ◌||◌, cond, List, [], ◌∷◌}
use Rattle.std.proofs.Common.{◌++◌, length, map, get_or, Contains, Option, Some, option_map, refl, sym, ◌∙◌, ap, subst}
use Rattle.std.proofs.Common.{arith}
use Rattle.std.specs.List.{AllByRecursion, filter}
use Rattle.std.specs.List.Sorted.{IsNonDecreasingBy}
use Rattle.std.specs.Prelude.{◌==◌, nat_lt, slice_get, slice_index_or}
use Rattle.std.proofs.lemmas.Bool.{cases_lt, cases_Bool, eqb-true, lt-ltb, le-ltb}
use Rattle.std.proofs.lemmas.List.{length-map}
use Rattle.std.proofs.lemmas.List.Sorted.{Contains-permutation, length_permutation}
use Rattle.merkle_forest.specs.declared.bagging.Bagging.{Bagging}
use Rattle.merkle_forest.specs.Forest.{Tree, leaf, branch, position, height, leaf_count, Rule, forest_of}
use Rattle.merkle_forest.specs.Hashing.{Hash, number}
use Rattle.merkle_forest.specs.Made.{value}
use Rattle.merkle_forest.specs.Laws.Nodes.{peak-node}
use Rattle.merkle_forest.specs.Nodes.{IsNodeAt}
use Rattle.merkle_forest.specs.Perfect.{IsPairing}
use Rattle.merkle_forest.specs.Trees.{Located, located, plain_digest, tree_root, peak_digests}
use Rattle.merkle_forest.specs.Laws.Places.{node-left, node-right}
use Rattle.merkle_core_parts.specs.Laws.Plain.{digest-plain, length-plain}
use Rattle.merkle_core_parts.specs.Mem.{plain_node, plain_leaf_digests}
use Rattle.merkle_theory.specs.MadeRoots.{peaks_of}
use Rattle.merkle_theory.specs.MadeTrees.{plain_over, branch_made}
use Rattle.merkle_theory.specs.Multi.{is_named, unnamed_nodes, multi_nodes, AreMultiDigests}
use Rattle.merkle_theory.specs.MultiReads.{locations_of, shown_at, rank_among, ranked, read_shown, read_peaks}
use Rattle.merkle_theory.specs.MultiReads.{can_be_shown, needed_positions, multi_root}
use Rattle.merkle_theory.specs.MultiSoundness.{shown_of}
use Rattle.merkle_theory.specs.Plans.{Lookup, IsLookupOf, positions_of}
use Rattle.merkle_theory.specs.Soundness.{plain_names}
use Rattle.merkle_theory.proofs.Lookups.{IsNode, all_if, all_append, located_all, all_flat, all_front, all_back}
use Rattle.merkle_theory.proofs.ManyDigests.{known_at, some_there}
use Rattle.merkle_theory.proofs.MultiRoots.{root_counted}
use Rattle.merkle_theory.proofs.PeakReads.{root_there}
use Rattle.merkle_theory.proofs.ShownLists.{one_place}
use Rattle.merkle_theory.proofs.ShownRanks.{rank_permuted}
use Rattle.merkle_theory.proofs.ShownTrees.{value_bytes, read_unnamed, read_leaf, read_branch, both_values}
use Rattle.merkle_theory.proofs.Unnamed.{unnamed_test, unnamed_none}

none_less : (p : ℕ) (xs : List ℕ) → ((j : ℕ) → j < length xs → p ≤ get_or xs j 0) → rank_among xs p ≡ 0
none_less p [] all = refl
none_less p (x ∷ xs) all =
    ap (λ b. length (cond b (x ∷ filter (λ q. nat_lt q p) xs) (filter (λ q. nat_lt q p) xs))) (le-ltb x p (all 0
    (omega arith)))
    ∙ none_less p xs (λ j below. all (suc j) (omega (arith, below)))

rank_more : (p x : ℕ) (xs : List ℕ) → x < p → rank_among (x ∷ xs) p ≡ suc (rank_among xs p)
rank_more p x xs less = ap (λ b. length (cond b (x ∷ filter (λ q. nat_lt q p) xs) (filter (λ q. nat_lt q p) xs)))
    (lt-ltb x p less)

-- in ascending order a position stands where as many are less
pub rank_finds : (p : ℕ) (xs : List ℕ) → IsNonDecreasingBy (λ q. q) xs → (k : ℕ) → k < length xs → get_or xs k p ≡ p
    → slice_get xs (rank_among xs p) ≡ Some p
rank_finds p [] up k below is = absurd (omega (arith, below))
rank_finds p (x ∷ xs) up zero below is =
    ap (slice_get (x ∷ xs)) (none_less p (x ∷ xs) (λ j under. omega (arith, is, up 0 j 0 (omega arith) under)))
    ∙ ap (λ q. Some q) is
rank_finds p (x ∷ xs) up (suc k) below is =
    ⊎_elim
    (λ less. ap (slice_get (x ∷ xs)) (rank_more p x xs less)
    ∙ rank_finds p xs (λ i j d le under. up (suc i) (suc j) d (omega (arith, le)) (omega (arith, under))) k (omega
    (arith, below)) is)
    (λ le.
    ap (slice_get (x ∷ xs)) (none_less p (x ∷ xs) (λ j under. omega (arith, le, up 0 j 0 (omega arith) under)))
    ∙ ap (λ q. Some q) (omega (arith, le, up 0 (suc k) p (omega arith) below, is)))
    (cases_lt x p)

all_weaker : (P Q : Located → Type 0) → ((n : Located) → P n → Q n) → (ns : List Located) → AllByRecursion P ns
    → AllByRecursion Q ns
all_weaker P Q each [] all = tt
all_weaker P Q each (n ∷ ns) all = (each n all.0, all_weaker P Q each ns all.1)

all_both : (P Q R : Located → Type 0) → ((n : Located) → P n → Q n → R n) → (ns : List Located)
    → AllByRecursion P ns → AllByRecursion Q ns
    → AllByRecursion R ns
all_both P Q R each [] one other = tt
all_both P Q R each (n ∷ ns) one other = (each n one.0 other.0, all_both P Q R each ns one.1 other.1)

-- the position of each node is among their positions
all_among : (ns : List Located) → AllByRecursion (λ n. Contains (positions_of ns) (position n.1)) ns
all_among [] = tt
all_among (n ∷ ns) = (
  (0, omega arith, refl),
  all_weaker (λ m. Contains (positions_of ns) (position m.1)) (λ m. Contains (positions_of (n ∷ ns)) (position m.1))
      (λ m is. (suc is.0, omega (arith, is.1), is.2)) ns (all_among ns),
)

module _ (locations : List ℕ) (forest : List Tree) where
  unnamed_all : (at : ℕ) (t : Tree) → IsNodeAt at t forest
      → AllByRecursion (IsNode forest) (unnamed_nodes locations at t)
  unnamed_all at (leaf p) stands =
      all_if (IsNode forest) (is_named locations (at, leaf p)) [] ((at, leaf p) ∷ []) tt (stands, tt)
  unnamed_all at (branch p left right) stands =
      let middle = at + leaf_count left in
      all_if (IsNode forest) (is_named locations (at, branch p left right))
      (unnamed_nodes locations at left ++ unnamed_nodes locations middle right)
      ((at, branch p left right) ∷ [])
      (all_append (IsNode forest) (unnamed_nodes locations at left) (unnamed_nodes locations middle right)
      (unnamed_all at left (node-left at p left right forest stands)) (unnamed_all middle right
      (node-right at p left right forest stands)))
      (stands, tt)

  -- what a proof of several elements is made of are nodes of the forest
  pub multi_all : AllByRecursion (IsNode forest) (multi_nodes locations (located forest))
  multi_all =
      all_flat (IsNode forest) (λ peak. unnamed_nodes locations peak.0 peak.1)
      (λ x stands. unnamed_all x.0 x.1 stands) (located forest)
      (located_all (IsNode forest) forest (λ first node stands. peak-node first node forest stands))

or_rest : (a b : Bool) → a ≡ false → (a || b) ≡ true → b ≡ true
or_rest true b is either = let clash : true ≡ false = is in absurd cc
or_rest false b is either = either

-- of a list the element at a location is shown there
shown_list : (elements : List (List ℕ)) (locations : List ℕ) (at p : ℕ) → is_named locations (at, leaf p) ≡ true
    → shown_at (shown_of elements locations) at ≡ slice_index_or elements at []
shown_list elements [] at p named = absurd cc
shown_list elements (l ∷ locations) at p named =
    let test = one_place at l (cases_lt l at) (cases_lt l (at + 1)) in
    ⊎_elim
    (λ is. ap (λ b. cond b (slice_index_or elements l []) (shown_at (shown_of elements locations) at)) is
    ∙ ap (λ k. slice_index_or elements k []) (eqb-true l at is))
    (λ is. ap (λ b. cond b (slice_index_or elements l []) (shown_at (shown_of elements locations) at)) is
    ∙ shown_list elements locations at p (or_rest _ (is_named locations (at, leaf p)) (test ∙ is) named))
    (cases_Bool (l == at))

module _ (hash : Hash) (elements : List (List ℕ)) (locations : List ℕ) (known : Lookup) where
  abbrev plain : ℕ → Tree → List ℕ
  plain = plain_digest hash elements

  abbrev IsKnown : Located → Type 0
  IsKnown n = known (position n.1) ≡ Some (plain n.0 n.1)

  abbrev read_at : ℕ → Tree → Option (List ℕ)
  read_at at t = option_map (value hash) (read_shown plain_over (shown_at
      (shown_of elements locations)) locations known at t)

  unnamed_value : (at : ℕ) (t : Tree) → is_named locations (at, t) ≡ false
      → AllByRecursion IsKnown (unnamed_nodes locations at t)
      → read_at at t ≡ Some (plain at t)
  unnamed_value at t out all =
      ap (option_map (value hash)) (read_unnamed plain_over (shown_at
      (shown_of elements locations)) locations known at t out)
      ∙ value_bytes hash (known (position t))
      ∙ (subst (AllByRecursion IsKnown) (unnamed_none locations at t out) all).0

  tree_value : (at : ℕ) (t : Tree) → AllByRecursion IsKnown (unnamed_nodes locations at t)
      → read_at at t ≡ Some (plain at t)
  tree_value at (leaf p) all =
      ⊎_elim
      (λ named. ap (option_map (value hash)) (read_leaf plain_over (shown_at
      (shown_of elements locations)) locations known at p named)
      ∙ ap (λ e. Some (hash (number p ++ e))) (shown_list elements locations at p named))
      (λ out. unnamed_value at (leaf p) out all) (cases_Bool (is_named locations (at, leaf p)))
  tree_value at (branch p left right) all =
      let middle = at + leaf_count left in
      let shown = shown_at (shown_of elements locations) in
      ⊎_elim
      (λ named.
      let nodes = subst (AllByRecursion IsKnown) (unnamed_test locations at p left right true named) all in
      ap (option_map (value hash)) (read_branch plain_over shown locations known at p left right named)
      ∙ both_values (value hash) (branch_made plain_over at (height (branch p left right)) p) (value hash) (value hash)
      (λ a b. hash (number p ++ (a ++ b))) (read_shown plain_over shown locations known at left)
      (read_shown plain_over shown locations known middle right) (plain at left) (plain middle right) (λ x y. refl)
      (tree_value at left (all_front IsKnown (unnamed_nodes locations at left)
      (unnamed_nodes locations middle right) nodes))
      (tree_value middle right (all_back IsKnown (unnamed_nodes locations at left)
      (unnamed_nodes locations middle right) nodes)))
      (λ out. unnamed_value at (branch p left right) out all) (cases_Bool (is_named locations
      (at, branch p left right)))

  pub peaks_value : (peaks : List Located) → AllByRecursion IsKnown (multi_nodes locations peaks)
      → option_map (map (value hash)) (read_peaks plain_over (shown_at
      (shown_of elements locations)) locations known peaks)
      ≡ Some (map (λ peak. plain peak.0 peak.1) peaks)
  peaks_value [] all = refl
  peaks_value (peak ∷ peaks) all =
      let shown = shown_at (shown_of elements locations) in
      both_values (map (value hash)) (λ x xs. x ∷ xs) (value hash) (map (value hash)) (λ d ds. d ∷ ds)
      (read_shown plain_over shown locations known peak.0 peak.1) (read_peaks plain_over shown locations known peaks)
      (plain peak.0 peak.1) (map (λ peak. plain peak.0 peak.1) peaks) (λ x xs. refl)
      (tree_value peak.0 peak.1 (all_front IsKnown (unnamed_nodes locations peak.0 peak.1)
      (multi_nodes locations peaks) all))
      (peaks_value peaks (all_back IsKnown (unnamed_nodes locations peak.0 peak.1) (multi_nodes locations peaks) all))

named_list : (elements : List (List ℕ)) (locations : List ℕ) → locations_of (shown_of elements locations) ≡ locations
named_list elements [] = refl
named_list elements (l ∷ locations) = ap (λ ls. l ∷ ls) (named_list elements locations)

some_same : {A : Type 0} (x y : A) → Some x ≡ Some y → x ≡ y
some_same x y is = cc

module _ (hash : Hash) (bagging : Bagging) (rule : Rule) (pairs : IsPairing rule) (elements : List (List ℕ))
    (locations : List ℕ) (known : Lookup)
    (digests : List (List ℕ)) (of : IsLookupOf (plain_node hash) rule (plain_leaf_digests hash rule 0 elements) known)
    (are : AreMultiDigests rule (length elements) locations known digests) where
  abbrev count : ℕ
  count = length elements

  abbrev needed : List ℕ → List ℕ
  needed ls = needed_positions rule count ls

  node_known : (n : Located) → IsNode (forest_of rule count) n → Contains (needed locations) (position n.1)
      → IsKnown hash elements locations (ranked (needed locations) digests) n
  node_known n stands among =
      let p = position n.1 in
      let at = Contains-permutation (needed locations) are.positions p are.at.all among in
      let i = rank_among are.positions p in
      let found = rank_finds p are.positions are.at.ascending at.0 at.1 at.2 in
      let some = some_there digests known are.positions i p are.known_there found in
      let there : known p ≡ Some some.0 = sym (known_at known digests are.positions i p are.known_there found)
      ∙ some.1 in
      let leaf_digests = plain_leaf_digests hash rule 0 elements in
      let stands_there = subst (λ m. IsNodeAt n.0 n.1 (forest_of rule m)) (sym
      (length-plain hash rule 0 elements)) stands in
      ap (slice_get digests) (rank_permuted p (needed locations) are.positions are.at.all) ∙ some.1
      ∙ ap (λ d. Some d) (of n.0 n.1 some.0 stands_there there ∙ digest-plain hash rule pairs elements n.0 n.1 stands)

  all_known : AllByRecursion (IsKnown hash elements locations (ranked (needed locations) digests))
      (multi_nodes locations (peaks_of rule count))
  all_known = all_both (IsNode (forest_of rule count)) (λ n. Contains (needed locations) (position n.1))
      (IsKnown hash elements locations (ranked (needed locations) digests)) node_known (multi_nodes locations
      (peaks_of rule count))
      (multi_all locations (forest_of rule count)) (all_among (multi_nodes locations (peaks_of rule count)))

  pub many_root : (inactive : ℕ) → can_be_shown count locations ≡ true → inactive ≤ length (peaks_of rule count)
      → option_map (value hash) (multi_root plain_names plain_over bagging rule count inactive
      (shown_of elements locations) digests)
      ≡ Some (tree_root hash bagging rule elements inactive)
  unfolding tree_root
  many_root inactive can enough =
      let shown = shown_of elements locations in
      let same = named_list elements locations in
      let peaks = peaks_of rule count in
      let there = peak_digests (plain_digest hash elements) (forest_of rule count) in
      let long : length digests ≡ length (needed locations) = omega (
        arith,
        length-map digests (λ d. Some d),
        length-map are.positions known,
        ap length are.known_there,
        length_permutation (needed locations) are.positions are.at.all,
      ) in
      let read = subst (λ ls. option_map (map (value hash)) (read_peaks plain_over (shown_at shown) ls (ranked
      (needed ls) digests) peaks) ≡ Some there)
      (sym same) (peaks_value hash elements locations (ranked (needed locations) digests) peaks all_known) in
      ap (option_map (value hash)) (root_counted plain_names plain_over bagging rule count inactive shown digests
      (ap (can_be_shown count) same ∙ can)
      (long ∙ ap (λ ls. length (needed ls)) (sym same)))
      ∙ root_there hash plain_names plain_over bagging rule count inactive shown (ranked (needed
      (locations_of shown)) digests) there
      (there, read, refl) enough
