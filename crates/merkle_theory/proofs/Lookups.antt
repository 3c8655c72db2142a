-- Digests that are looked up at the nodes of a range are those of the list.
use Rattle.std.proofs.Common.{◌≡◌, ℕ, zero, suc, ◌+◌, ◌<◌, ◌≤◌, Bool, true, false, cond, inl, inr, filter, take, length}
use Rattle.std.proofs.Common.{List, [], ◌∷◌, ◌++◌, Option, Some, None, refl, sym, ◌∙◌, ap, ap₂, subst, arith}
use Rattle.std.proofs.lemmas.List.{length-take-le}
use Rattle.std.specs.List.{flat_map, AllByRecursion}
use Rattle.std.specs.Prelude.{unwrap_or, is_none, slice_index_or, Result, Ok, Err, IfOk, OnOk, IfSome}
use Rattle.merkle_forest.specs.declared.bagging.Bagging.{Bagging}
use Rattle.merkle_forest.specs.Forest.{Tree, leaf, branch, position, leaf_count, leaves, Rule, forest_of}
use Rattle.merkle_forest.specs.Hashing.{Hash}
use Rattle.merkle_forest.specs.Nodes.{IsNodeAt, IsPeakAt}
use Rattle.merkle_forest.specs.Perfect.{IsPairing}
use Rattle.merkle_forest.specs.Laws.ForestGrowth.{leaves-forest_of}
use Rattle.merkle_forest.specs.Laws.NodeGrowth.{node-stays}
use Rattle.merkle_forest.specs.Laws.Nodes.{peak-node, node-fits}
use Rattle.merkle_forest.specs.Trees.{Located, located}
use Rattle.merkle_core_parts.specs.Mem.{Nodes, node_at, NodeHash, tree_digest, AreNodesOf}
use Rattle.merkle_core_parts.specs.Laws.Held.{right-there}
use Rattle.merkle_forest.specs.Laws.Places.{node-left, node-right}
use Rattle.merkle_theory.specs.Assembled.{assembled}
use Rattle.merkle_theory.specs.MadeRoots.{peaks_of}
use Rattle.merkle_theory.specs.Plans.{Asked, Lookup, looked_up, first_missing, IsLookupOf, sibling_nodes, inner_nodes}
use Rattle.merkle_theory.specs.Plans.{range_nodes, positions_of, range_positions, honest_digests}
use Rattle.merkle_theory.specs.Ranges.{Digests, is_before, is_after, meets, singly}
use Rattle.merkle_theory.proofs.PlanFolds.{assembled_is}

pub all_if : (P : Located → Type 0) (b : Bool) (xs ys : List Located) → AllByRecursion P xs → AllByRecursion P ys → AllByRecursion P (cond b xs ys)
all_if P true xs ys one two = one
all_if P false xs ys one two = two

pub all_append : (P : Located → Type 0) (xs ys : List Located) → AllByRecursion P xs → AllByRecursion P ys → AllByRecursion P (xs ++ ys)
all_append P [] ys one two = two
all_append P (x ∷ xs) ys one two = (one.0, all_append P xs ys one.1 two)

pub all_front : (P : Located → Type 0) (xs ys : List Located) → AllByRecursion P (xs ++ ys) → AllByRecursion P xs
all_front P [] ys all = tt
all_front P (x ∷ xs) ys all = (all.0, all_front P xs ys all.1)

pub all_back : (P : Located → Type 0) (xs ys : List Located) → AllByRecursion P (xs ++ ys) → AllByRecursion P ys
all_back P [] ys all = all
all_back P (x ∷ xs) ys all = all_back P xs ys all.1

pub all_filter : (P : Located → Type 0) (test : Located → Bool) (xs : List Located) → AllByRecursion P xs → AllByRecursion P (filter test xs)
all_filter P test [] all = tt
all_filter P test (x ∷ xs) all =
    all_if P (test x) (x ∷ filter test xs) (filter test xs) (all.0, all_filter P test xs all.1) (all_filter P test xs all.1)

pub all_flat : (P : Located → Type 0) (f : Located → List Located) → ((x : Located) → P x → AllByRecursion P (f x)) → (xs : List Located)
    → AllByRecursion P xs → AllByRecursion P (flat_map f xs)
all_flat P f each [] all = tt
all_flat P f each (x ∷ xs) all = all_append P (f x) (flat_map f xs) (each x all.0) (all_flat P f each xs all.1)

pub located_all : (P : Located → Type 0) (peaks : List Tree) → ((first : ℕ) (node : Tree) → IsPeakAt first node peaks → P (first, node))
    → AllByRecursion P (located peaks)
located_all P [] each = tt
located_all P (t ∷ ts) each =
    all_append P (located ts) ((leaves ts, t) ∷ []) (located_all P ts (λ first node stands. each first node (inr stands)))
    (each (leaves ts) t (inl (refl, refl)), tt)

abbrev pub IsNode : List Tree → Located → Type 0
IsNode peaks node = IsNodeAt node.0 node.1 peaks

module _ (forest : List Tree) (start stop : ℕ) where
  siblings_nodes : (at : ℕ) (t : Tree) → IsNodeAt at t forest → AllByRecursion (IsNode forest) (sibling_nodes start stop at t)
  siblings_nodes at (leaf p) stands =
      all_if (IsNode forest) (meets start stop (at, leaf p)) [] ((at, leaf p) ∷ []) tt (stands, tt)
  siblings_nodes at (branch p left right) stands =
      let middle = at + leaf_count left in
      all_if (IsNode forest) (meets start stop (at, branch p left right)) (sibling_nodes start stop at left ++ sibling_nodes start stop middle right)
      ((at, branch p left right) ∷ [])
      (all_append (IsNode forest) (sibling_nodes start stop at left) (sibling_nodes start stop middle right)
      (siblings_nodes at left (node-left at p left right forest stands)) (siblings_nodes middle right (node-right at p left right forest stands)))
      (stands, tt)

  -- what a proof of a range is made of are nodes of the forest
  pub range_all : AllByRecursion (IsNode forest) (range_nodes start stop (located forest))
  range_all =
      let peaks = located_all (IsNode forest) forest (λ first node stands. peak-node first node forest stands) in
      all_append (IsNode forest) (filter (is_before start) (located forest)) (filter (is_after stop)
      (located forest) ++ inner_nodes start stop (located forest))
      (all_filter (IsNode forest) (is_before start) (located forest) peaks)
      (all_append (IsNode forest) (filter (is_after stop) (located forest)) (inner_nodes start stop (located forest))
      (all_filter (IsNode forest) (is_after stop) (located forest) peaks)
      (all_flat (IsNode forest) (λ peak. sibling_nodes start stop peak.0 peak.1) (λ x stands. siblings_nodes x.0 x.1 stands)
      (filter (meets start stop) (located forest)) (all_filter (IsNode forest) (meets start stop) (located forest) peaks)))

module _ (digest other : Digests) where
  abbrev pub AreSame : Located → Type 0
  AreSame n = digest n.0 n.1 ≡ other n.0 n.1

  pub same_all : (nodes : List Located) → AllByRecursion AreSame nodes → singly digest nodes ≡ singly other nodes
  same_all [] all = refl
  same_all (n ∷ nodes) all = ap₂ (λ d ds. d ∷ ds) all.0 (same_all nodes all.1)

  -- where the digests of all nodes are the same, the proofs are
  pub honest_same : (hash : Hash) (bagging : Bagging) (rule : Rule) (count k start stop : ℕ)
      → AllByRecursion AreSame (range_nodes start stop (peaks_of rule count))
      → honest_digests hash digest bagging rule count k start stop ≡ honest_digests hash other bagging rule count k start stop
  honest_same hash bagging rule count k start stop all =
      let peaks = peaks_of rule count in
      let fronts = filter (is_before start) peaks in
      let backs = filter (is_after stop) peaks in
      let inner = inner_nodes start stop peaks in
      let n = length (filter (is_before start) (take k peaks)) in
      let m = length (filter (is_after stop) (take k peaks)) in
      let rest = all_back AreSame fronts (backs ++ inner) all in
      sym (assembled_is digest start stop hash bagging k n m peaks refl refl)
      ∙ ap (λ ds. assembled hash bagging n ds m (singly digest backs) (singly digest inner))
      (same_all fronts (all_front AreSame fronts (backs ++ inner) all))
      ∙ ap (λ ds. assembled hash bagging n (singly other fronts) m ds (singly digest inner)) (same_all backs (all_front AreSame backs inner rest))
      ∙ ap (λ ds. assembled hash bagging n (singly other fronts) m (singly other backs) ds) (same_all inner (all_back AreSame backs inner rest))
      ∙ assembled_is other start stop hash bagging k n m peaks refl refl

module _ (node : NodeHash) (rule : Rule) (list : List (List ℕ)) (known : Lookup) (of : IsLookupOf node rule list known) where
  same_here : (n : Located) (nodes : List Located) (answer : Option (List ℕ)) → known (position n.1) ≡ answer
      → first_missing known (positions_of (n ∷ nodes)) ≡ None → IsNode (forest_of rule (length list)) n
      → (looked_up known n.0 n.1 ≡ tree_digest node list n.0 n.1) × (first_missing known (positions_of nodes) ≡ None)
  same_here n nodes (Some d) is none stands = (
    ap (λ o. unwrap_or o []) is ∙ of n.0 n.1 d stands is,
    sym (ap (λ o. cond (is_none o) (Some (position n.1)) (first_missing known (positions_of nodes))) is) ∙ none,
  )
  same_here n nodes None is none stands =
      absurd (let there : Some (position n.1) ≡ None =
      sym (ap (λ o. cond (is_none o) (Some (position n.1)) (first_missing known (positions_of nodes))) is) ∙ none in cc)

  same_looked_up : (nodes : List Located) → first_missing known (positions_of nodes) ≡ None
      → AllByRecursion (IsNode (forest_of rule (length list))) nodes → AllByRecursion (AreSame (looked_up known) (tree_digest node list)) nodes
  same_looked_up [] none all = tt
  same_looked_up (n ∷ nodes) none all =
      let by = same_here n nodes (known (position n.1)) refl none all.0 in
      (by.0, same_looked_up nodes by.1 all.1)

  -- the digests that are looked up for a proof are those of the list
  pub honest_of_list : (hash : Hash) (bagging : Bagging) (count k start stop : ℕ) → length list ≡ count
      → first_missing known (range_positions rule count start stop) ≡ None
      → honest_digests hash (looked_up known) bagging rule count k start stop ≡ honest_digests hash (tree_digest node list) bagging rule count k start stop
  honest_of_list hash bagging count k start stop is none =
      let All : ℕ → Type 0 = λ total. AllByRecursion (IsNode (forest_of rule (length list))) (range_nodes start stop (peaks_of rule total)) in
      honest_same (looked_up known) (tree_digest node list) hash bagging rule count k start stop
      (same_looked_up (range_nodes start stop (peaks_of rule count)) none (subst All is (range_all (forest_of rule (length list)) start stop)))

index_taken : (xs : List (List ℕ)) (n i : ℕ) → i < n → slice_index_or (take n xs) i [] ≡ slice_index_or xs i []
index_taken xs zero i lt = absurd (omega (arith, lt))
index_taken [] (suc n) i lt = refl
index_taken (x ∷ xs) (suc n) zero lt = refl
index_taken (x ∷ xs) (suc n) (suc i) lt = index_taken xs n i (omega (arith, lt))

digest_taken : (node : NodeHash) (list : List (List ℕ)) (n first : ℕ) (t : Tree) → first + leaf_count t ≤ n
    → tree_digest node (take n list) first t ≡ tree_digest node list first t
digest_taken node list n first (leaf p) fits = index_taken list n first (omega (arith, fits))
digest_taken node list n first (branch p left right) fits =
    ap₂ (λ x y. node p x y) (digest_taken node list n first left (omega (arith, fits)))
    (digest_taken node list n (first + leaf_count left) right (omega (arith, fits)))

-- what is known of a list is known of its first digests
pub lookup_taken : (node : NodeHash) (rule : Rule) → IsPairing rule → (list : List (List ℕ)) (known : Lookup) (n : ℕ) → n ≤ length list
    → IsLookupOf node rule list known → IsLookupOf node rule (take n list) known
lookup_taken node rule pairs list known n le of first tree digest stands is =
    let count : length (take n list) ≡ n = length-take-le n list le in
    let fits = node-fits first tree (forest_of rule (length (take n list))) stands in
    let all = leaves-forest_of rule pairs (length (take n list)) in
    of first tree digest (node-stays rule pairs (length (take n list)) (length list) first tree (omega (arith, count, le)) stands) is
    ∙ sym (digest_taken node list n first tree (omega (arith, fits, all, count)))

-- the nodes of a tree in memory that are there are those of its list
pub lookup_of_nodes : (node : NodeHash) (rule : Rule) (list : List (List ℕ)) (nodes : Nodes) → AreNodesOf node rule list nodes
    → IsLookupOf node rule list (node_at rule nodes)
lookup_of_nodes node rule list nodes are first tree digest stands is =
    subst (λ o. IfSome o (λ d. d ≡ tree_digest node list first tree)) is (right-there node rule list nodes are first tree stands)

-- a proof that was built of what is known of a list is that of the list
pub built_of_list : {T E : Type 0} (node : NodeHash) (rule : Rule) (hash : Hash) (bagging : Bagging) (list : List (List ℕ)) (known : Lookup) (k : ℕ)
    (digests : T → List (List ℕ)) (result : Result T E) (plan asked : Asked) → plan ≡ asked
    → IfOk result (λ x. digests x ≡ honest_digests hash (looked_up known) bagging rule plan.leaves k plan.start plan.stop)
    → OnOk result (first_missing known (range_positions rule plan.leaves plan.start plan.stop) ≡ None)
    → length list ≡ asked.leaves → IsLookupOf node rule list known
    → IfOk result (λ x. digests x ≡ honest_digests hash (tree_digest node list) bagging rule asked.leaves k asked.start asked.stop)
built_of_list node rule hash bagging list known k digests (Err e) plan asked same made there count of = tt
built_of_list node rule hash bagging list known k digests (Ok x) plan asked same made there count of =
    made ∙ ap (λ (a : Asked). honest_digests hash (looked_up known) bagging rule a.leaves k a.start a.stop) same
    ∙ honest_of_list node rule list known of hash bagging asked.leaves k asked.start asked.stop count
    (subst (λ (a : Asked). first_missing known (range_positions rule a.leaves a.start a.stop) ≡ None) same there)
