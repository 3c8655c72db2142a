-- What is kept of a proof are nodes of the tree, each with its digest.
use Rattle.std.proofs.Common.{◌≡◌, inl, inr, ℕ, ◌+◌, Bool, true, filter, take, drop, List, [], ◌∷◌, ◌++◌, Option}
use Rattle.std.proofs.Common.{None, Some, IfSome, option_map, refl, sym, ◌∙◌, ap}
use Rattle.std.specs.Prelude.{◌==◌, find}
use Rattle.std.specs.Option.{option_map_or}
use Rattle.std.specs.List.{All, flat_map}
use Rattle.std.proofs.lemmas.Bool.{eqb-true}
use Rattle.std.proofs.lemmas.List.Elements.{All-nil, All-cons, All-head, All-tail, All-append, All-filter, All-take, All-drop}
use Rattle.std.proofs.lemmas.List.Sorted.{All-permutation}
use Rattle.merkle_forest.specs.Forest.{Tree, leaf, branch, position, leaf_count, leaves, Rule, forest_of}
use Rattle.merkle_forest.specs.Nodes.{IsWithin, IsNodeAt}
use Rattle.merkle_forest.specs.Laws.NodeGrowth.{one-node}
use Rattle.merkle_forest.specs.Laws.Nodes.{within-self}
use Rattle.merkle_forest.specs.Perfect.{IsPairing}
use Rattle.merkle_forest.specs.Trees.{Located, located}
use Rattle.merkle_core_parts.specs.Mem.{encoded}
use Rattle.merkle_proofs.specs.Extracted.{told_nodes, inner_told, extracted_nodes, node_digests, AreExtracted}
use Rattle.merkle_theory.specs.Laws.MadeTrees.{choose}
use Rattle.merkle_theory.specs.MadeRoots.{peaks_of}
use Rattle.merkle_proofs.specs.ProofStores.{digest_among, known_with, IsKnownOf}
use Rattle.merkle_theory.specs.Ranges.{Digests, is_before, is_after, meets}

all_imply : {A : Type 0} (P Q : A → Type 0) (xs : List A) → ((x : A) → P x → Q x) → All P xs → All Q xs
all_imply P Q [] each all = All-nil Q
all_imply P Q (x ∷ xs) each all = All-cons Q x xs (each x (All-head P x xs all)) (all_imply P Q xs each (All-tail P x xs all))

pub all_flat : {A B : Type 0} (P : A → Type 0) (Q : B → Type 0) (f : A → List B) (xs : List A) → ((x : A) → P x → All Q (f x)) → All P xs
    → All Q (flat_map f xs)
all_flat P Q f [] each all = All-nil Q
all_flat P Q f (x ∷ xs) each all =
    All-append Q (f x) (flat_map f xs) (each x (All-head P x xs all)) (all_flat P Q f xs each (All-tail P x xs all))

module _ (whole : List Tree) where
  abbrev pub IsNode : Located → Type 0
  IsNode n = IsNodeAt n.0 n.1 whole

  -- so are all that stand in it
  abbrev HasNodes : Located → Type 0
  HasNodes n = (first : ℕ) (node : Tree) → IsWithin first node n.0 n.1 → IsNodeAt first node whole

  all_peaks : (trees : List Tree) → ((first : ℕ) (node : Tree) → IsNodeAt first node trees → IsNodeAt first node whole) → All HasNodes (located trees)
  all_peaks [] into = All-nil HasNodes
  all_peaks (t ∷ trees) into =
      All-append HasNodes (located trees) ((leaves trees, t) ∷ []) (all_peaks trees (λ first node stands. into first node (inr stands)))
      (All-cons HasNodes (leaves trees, t) [] (λ first node within. into first node (inl within)) (All-nil HasNodes))

  itself : (n : Located) → HasNodes n → IsNode n
  itself n has = has n.0 n.1 (within-self n.0 n.1)

  one : (n : Located) → HasNodes n → All IsNode (n ∷ [])
  one n has = All-cons IsNode n [] (itself n has) (All-nil IsNode)

  all_told : (start stop at : ℕ) (t : Tree) → HasNodes (at, t) → All IsNode (told_nodes start stop at t)
  all_told start stop at (leaf p) has = one (at, leaf p) has
  all_told start stop at (branch p left right) has =
      let own : List Located = (at, branch p left right) ∷ [] in
      let lefts = told_nodes start stop at left in
      let rights = told_nodes start stop (at + leaf_count left) right in
      choose (All IsNode) (meets start stop (at, branch p left right)) (lefts ++ (rights ++ own)) own
      (λ met. All-append IsNode lefts (rights ++ own) (all_told start stop at left (λ first node within. has first node (inr (inl within))))
      (All-append IsNode rights own (all_told start stop (at + leaf_count left) right (λ first node within. has first node (inr (inr within))))
      (one (at, branch p left right) has)))
      (λ out. one (at, branch p left right) has)

  pub all_extracted : (singles start stop : ℕ) → All IsNode (extracted_nodes singles start stop (located whole))
  all_extracted singles start stop =
      let peaks = located whole in
      let all = all_peaks whole (λ first node stands. stands) in
      let before = filter (is_before start) (drop singles peaks) in
      let after = filter (is_after stop) (take singles peaks) in
      let inner = inner_told start stop peaks in
      All-append IsNode before (after ++ inner)
      (all_imply HasNodes IsNode before itself (All-filter (is_before start) HasNodes (drop singles peaks) (All-drop HasNodes singles peaks all)))
      (All-append IsNode after inner
      (all_imply HasNodes IsNode after itself (All-filter (is_after stop) HasNodes (take singles peaks) (All-take HasNodes singles peaks all)))
      (all_flat HasNodes IsNode (λ peak. told_nodes start stop peak.0 peak.1) (filter (meets start stop) peaks)
      (λ peak has. all_told start stop peak.0 peak.1 has) (All-filter (meets start stop) HasNodes peaks all)))

module _ {D : Type 0} (encoding : D → List ℕ) (rule : Rule) (pairs : IsPairing rule) (leaf_total : ℕ) (digest : Digests) where
  -- a node's digest stands at its position
  abbrev IsOf : ℕ × D → Type 0
  IsOf n = (at : Located) × IsNode (forest_of rule leaf_total) at × (position at.1 ≡ n.0) × (digest at.0 at.1 ≡ encoding n.1)

  all_of : (nodes : List Located) (told : List (ℕ × D)) → All (IsNode (forest_of rule leaf_total)) nodes
      → encoded encoding told ≡ node_digests digest nodes → All IsOf told
  all_of [] [] all same = All-nil IsOf
  all_of [] (n ∷ told) all same = absurd cc
  all_of (at ∷ nodes) [] all same = absurd cc
  all_of (at ∷ nodes) (n ∷ told) all same =
      let one : ℕ × List ℕ = (n.0, encoding n.1) in
      let other : ℕ × List ℕ = (position at.1, digest at.0 at.1) in
      let first : one ≡ other = cc in
      let places : n.0 ≡ position at.1 = ap (λ x. x.0) first in
      let digests : encoding n.1 ≡ digest at.0 at.1 = ap (λ x. x.1) first in
      let others : encoded encoding told ≡ node_digests digest nodes = cc in
      All-cons IsOf n told (at, All-head (IsNode (forest_of rule leaf_total)) at nodes all, sym places, sym digests)
      (all_of nodes told (All-tail (IsNode (forest_of rule leaf_total)) at nodes all) others)

  found : (test : ℕ × D → Bool) (nodes : List (ℕ × D)) → All IsOf nodes → IfSome (find test nodes) (λ n. IsOf n × (test n ≡ true))
  found test [] all = tt
  found test (n ∷ nodes) all =
      choose (λ o. IfSome o (λ m. IsOf m × (test m ≡ true))) (test n) (Some n) (find test nodes)
      (λ passes. (All-head IsOf n nodes all, passes))
      (λ fails. found test nodes (All-tail IsOf n nodes all))

  known_is : (p : ℕ) (o : Option (ℕ × D)) (first : ℕ) (tree : Tree) (d : List ℕ) → IfSome o (λ n. IsOf n × ((n.0 == p) ≡ true))
      → IsNodeAt first tree (forest_of rule leaf_total) → p ≡ position tree → option_map (λ n. encoding n.1) o ≡ Some d → d ≡ digest first tree
  known_is p None first tree d it stands is known = absurd cc
  known_is p (Some n) first tree d it stands is known =
      let value : encoding n.1 ≡ d = cc in
      let same = one-node rule pairs leaf_total leaf_total it.0.0.0 first it.0.0.1 tree it.0.1 stands (it.0.2 ∙ eqb-true n.0 p it.1 ∙ is) in
      sym value ∙ sym it.0.3 ∙ ap (λ f. digest f it.0.0.1) same.0 ∙ ap (digest first) same.1

  pub kept_known : (singles start stop : ℕ) (nodes : List (ℕ × D))
      → AreExtracted encoding digest (extracted_nodes singles start stop (peaks_of rule leaf_total)) nodes
      → IsKnownOf rule leaf_total digest (digest_among encoding nodes)
  kept_known singles start stop nodes it first tree d stands known =
      let told = all_of (extracted_nodes singles start stop (peaks_of rule leaf_total)) it.told
      (all_extracted (forest_of rule leaf_total) singles start stop) it.is in
      known_is (position tree) (find (λ n. n.0 == position tree) nodes) first tree d
      (found (λ n. n.0 == position tree) nodes (All-permutation IsOf it.told nodes it.all told)) stands refl known

-- what is known of nodes that are kept and of others
pub both_known : {D : Type 0} (encoding : D → List ℕ) (rule : Rule) (leaf_total : ℕ) (digest : Digests) (nodes supplied : List (ℕ × D))
    → IsKnownOf rule leaf_total digest (digest_among encoding nodes) → IsKnownOf rule leaf_total digest (digest_among encoding supplied)
    → IsKnownOf rule leaf_total digest (known_with encoding nodes supplied)
both_known encoding rule leaf_total digest nodes supplied one other first tree d stands known =
    by (find (λ n. n.0 == position tree) nodes) (one first tree d stands) (other first tree d stands) known
  where
    by : (o : Option (ℕ × _)) → (option_map (λ n. encoding n.1) o ≡ Some d → d ≡ digest first tree)
        → (digest_among encoding supplied (position tree) ≡ Some d → d ≡ digest first tree)
        → option_map_or (λ n. Some (encoding n.1)) o (digest_among encoding supplied (position tree)) ≡ Some d → d ≡ digest first tree
    by None here there is = there is
    by (Some n) here there is = here is
