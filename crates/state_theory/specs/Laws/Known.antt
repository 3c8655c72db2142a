-- A tree that is pruned before a range has each node that the proof of the range is made of.
use Rattle.std.proofs.Common.{◌≡◌, inl, inr, ℕ, ◌+◌, ◌<◌, ◌≤◌, Bool, true, false, not, cond, leb, filter, List, [], ◌∷◌}
use Rattle.std.proofs.Common.{◌++◌}
use Rattle.std.proofs.Common.{Option, None, Some, refl, sym, ◌∙◌, ap, arith}
use Rattle.std.proofs.lemmas.Bool.{cases_lt, le-leb}
use Rattle.std.specs.List.{flat_map, AllByRecursion}
use Rattle.std.specs.Prelude.{◌||◌, IsSome, is_none}
use Rattle.merkle_forest.specs.Forest.{Tree, leaf, branch, position, leaf_count, leaves, Rule, forest_of}
use Rattle.merkle_forest.specs.Laws.NodeGrowth.{numbered}
use Rattle.merkle_forest.specs.Laws.Nodes.{peak-node}
use Rattle.merkle_forest.specs.Nodes.{IsNodeAt, IsPeakAt}
use Rattle.merkle_forest.specs.Perfect.{IsPairing}
use Rattle.merkle_forest.specs.Trees.{Located, located}
use Rattle.merkle_core_parts.specs.Laws.Held.{kept-there}
use Rattle.merkle_core_parts.specs.Laws.Kept.{kept}
use Rattle.merkle_forest.specs.Laws.Places.{node-left, node-right}
use Rattle.merkle_core_parts.specs.Laws.Rebuilt.{after-leaf}
use Rattle.merkle_core_parts.specs.Mem.{Nodes, AreKeptNodes, IsKept, node_at}
use Rattle.merkle_theory.specs.MadeRoots.{peaks_of}
use Rattle.merkle_theory.specs.Plans.{Lookup, first_missing, sibling_nodes, inner_nodes, range_nodes, positions_of}
use Rattle.merkle_theory.specs.Plans.{range_positions}
use Rattle.merkle_theory.specs.Ranges.{is_before, is_after, meets}

module _ (P : Located → Type 0) where
  pub all_if : (b : Bool) (xs ys : List Located) → (b ≡ true → AllByRecursion P xs) → (b ≡ false → AllByRecursion P ys)
      → AllByRecursion P (cond b xs ys)
  all_if true xs ys one two = one refl
  all_if false xs ys one two = two refl

  pub all_append : (xs ys : List Located) → AllByRecursion P xs → AllByRecursion P ys → AllByRecursion P (xs ++ ys)
  all_append [] ys one two = two
  all_append (x ∷ xs) ys one two = (one.0, all_append xs ys one.1 two)

  pub all_filter : (test : Located → Bool) (xs : List Located) → AllByRecursion P xs → AllByRecursion P (filter test xs)
  all_filter test [] all = tt
  all_filter test (x ∷ xs) all =
      all_if (test x) (x ∷ filter test xs) (filter test xs) (λ is. (all.0, all_filter test xs all.1))
      (λ is. all_filter test xs all.1)

  pub all_located : (peaks : List Tree) → ((first : ℕ) (t : Tree) → IsPeakAt first t peaks → P (first, t))
      → AllByRecursion P (located peaks)
  all_located [] each = tt
  all_located (t ∷ ts) each =
      all_append (located ts) ((leaves ts, t) ∷ []) (all_located ts (λ first node stands. each first node (inr stands)))
      (each (leaves ts) t (inl (refl, refl)), tt)

pub all_flat : (P Q : Located → Type 0) (f : Located → List Located)
    → ((x : Located) → P x → AllByRecursion Q (f x)) → (xs : List Located)
    → AllByRecursion P xs → AllByRecursion Q (flat_map f xs)
all_flat P Q f each [] all = tt
all_flat P Q f each (x ∷ xs) all = all_append Q (f x) (flat_map f xs) (each x all.0) (all_flat P Q f each xs all.1)

-- a tree that meets a range ends after the range begins
pub meets_after : (start stop at : ℕ) (t : Tree) → meets start stop (at, t) ≡ true → start < at + leaf_count t
meets_after start stop at t met =
    elim (cases_lt start (at + leaf_count t)) [
      | inl lt ↦ lt
      | inr le ↦ absurd (let clash : false ≡ true =
          ap (λ b. not (b || leb stop at)) (sym (le-leb (at + leaf_count t) start le)) ∙ met in cc)
    ]

-- where the digest of each node is known, none is missing
not_none : (o : Option (List ℕ)) → IsSome o → is_none o ≡ false
not_none None is = absurd cc
not_none (Some d) is = refl

pub none_missing : (known : Lookup) (nodes : List Located)
    → AllByRecursion (λ node. IsSome (known (position node.1))) nodes
    → first_missing known (positions_of nodes) ≡ None
none_missing known [] all = refl
none_missing known (x ∷ nodes) all =
    ap (λ b. cond b (Some (position x.1)) (first_missing known (positions_of nodes)))
    (not_none (known (position x.1)) all.0)
    ∙ none_missing known nodes all.1

module _ (rule : Rule) (pairs : IsPairing rule) (nodes : Nodes) (shape : AreKeptNodes rule nodes) (start stop : ℕ)
    (from : nodes.boundary ≤ start) where
  abbrev forest : List Tree
  forest = forest_of rule nodes.leaves

  -- it is a node that is kept
  record Stands (node : Located) : Type 0 where
    pub stands : IsNodeAt node.0 node.1 forest
    pub keeps : IsKept rule nodes.boundary (position node.1)

  siblings : (at : ℕ) (t : Tree) → Stands (at, t) → AllByRecursion Stands (sibling_nodes start stop at t)
  siblings at (leaf p) it =
      all_if Stands (meets start stop (at, leaf p)) [] ((at, leaf p) ∷ []) (λ is. tt) (λ is. (it, tt))
  siblings at (branch p left right) it =
      let middle = at + leaf_count left in
      all_if Stands (meets start stop (at, branch p left right)) (sibling_nodes start stop at left
      ++ sibling_nodes start stop middle right)
      ((at, branch p left right) ∷ [])
      (λ met.
      let early = meets_after start stop at (branch p left right) met in
      let past = after-leaf rule pairs nodes.leaves at nodes.boundary (branch p left right) it.stands shape.within
      (omega (arith, from, early)) in
      let held = kept rule pairs nodes.boundary nodes.leaves shape.within in
      all_append Stands (sibling_nodes start stop at left) (sibling_nodes start stop middle right)
      (siblings at left (record {
        stands = node-left at p left right forest it.stands;
        keeps = held.left at p left right it.stands past;
      }))
      (siblings middle right (record {
        stands = node-right at p left right forest it.stands;
        keeps = held.right at p left right it.stands past;
      })))
      (λ is. (it, tt))

  peaks_stand : AllByRecursion Stands (located forest)
  peaks_stand =
      all_located Stands forest (λ first t stands. record {
        stands = peak-node first t forest stands;
        keeps = (kept rule pairs nodes.boundary nodes.leaves shape.within).peak t (first, stands);
      })

  all_stand : AllByRecursion Stands (range_nodes start stop (peaks_of rule nodes.leaves))
  all_stand =
      let peaks = located forest in
      all_append Stands (filter (is_before start) peaks) (filter (is_after stop) peaks ++ inner_nodes start stop peaks)
      (all_filter Stands (is_before start) peaks peaks_stand)
      (all_append Stands (filter (is_after stop) peaks) (inner_nodes start stop peaks)
      (all_filter Stands (is_after stop) peaks peaks_stand)
      (all_flat Stands Stands (λ peak. sibling_nodes start stop peak.0 peak.1) (λ x it. siblings x.0 x.1 it)
      (filter (meets start stop) peaks)
      (all_filter Stands (meets start stop) peaks peaks_stand)))

  there : (x : Located) → Stands x → IsSome (node_at rule nodes (position x.1))
  there x it =
      kept-there rule nodes (position x.1) shape it.keeps ((numbered rule pairs nodes.leaves).below x.0 x.1 it.stands)

  all_there : (some : List Located) → AllByRecursion Stands some
      → AllByRecursion (λ node. IsSome (node_at rule nodes (position node.1))) some
  all_there [] all = tt
  all_there (x ∷ some) all = (there x all.0, all_there some all.1)

  -- so none is missing
  pub all_known : first_missing (node_at rule nodes) (range_positions rule nodes.leaves start stop) ≡ None
  all_known =
      none_missing (node_at rule nodes) (range_nodes start stop (peaks_of rule nodes.leaves))
      (all_there (range_nodes start stop (peaks_of rule nodes.leaves)) all_stand)
