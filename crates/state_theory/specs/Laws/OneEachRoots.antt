-- One string a site, in the root of a tree that is hashed or rebuilt.
use Rattle.std.proofs.Common.{◌≡◌, ◌⊎◌, inl, inr, ⊎_elim, ℕ, ◌+◌, ◌^◌, ◌||◌, ltb, List, [], ◌∷◌, ◌++◌, length, take}
use Rattle.std.proofs.Common.{drop, None, Some}
use Rattle.std.proofs.Common.{option_map, option_and_then, IfSome, refl, arith}
use Rattle.merkle_forest.specs.Forest.{Tree, leaf, branch, position, height, leaf_count, leaves, Rule, forest_of}
use Rattle.merkle_forest.specs.Hashing.{Hash, number}
use Rattle.merkle_forest.specs.Laws.ForestGrowth.{forest_of-perfect}
use Rattle.merkle_forest.specs.Laws.NodeGrowth.{one-node}
use Rattle.merkle_forest.specs.Laws.Nodes.{within-fits, node-fits}
use Rattle.merkle_forest.specs.Laws.Peaks.{leaf_count-pos}
use Rattle.merkle_forest.specs.Made.{at_fold, at_grafted_fold, Made, value, strings}
use Rattle.merkle_forest.specs.Nodes.{IsWithin, IsNodeAt}
use Rattle.merkle_forest.specs.Perfect.{IsPerfect, ArePerfect, IsPairing}
use Rattle.merkle_forest.specs.Trees.{Located, located}
use Rattle.merkle_forest.specs.declared.bagging.Bagging.{Bagging}
use Rattle.merkle_theory.specs.Laws.MadeBags.{map_good}
use Rattle.merkle_theory.specs.Laws.MadeTrees.{choose}
use Rattle.merkle_theory.specs.MadeRoots.{Naming, from_left, peaks_of, bag_of, root_made, made_root, Bagged, read_bag}
use Rattle.merkle_theory.specs.MadeRoots.{used, read_root}
use Rattle.merkle_theory.specs.MadeTrees.{Over, Elements, made_tree}
use Rattle.state_theory.specs.Canonical.{peaks}
use Rattle.state_theory.specs.MadeGrafted.{grafted_names}
use Rattle.state_theory.specs.MadeStates.{operations_names}
use Rattle.state_theory.specs.Laws.OneEachLists.{IsOne}
use Rattle.state_theory.specs.Laws.OneEachTrees.{Numbered, IsOver, tree_one, read_one}
use Rattle.state_theory.specs.Laws.OneEachBags.{IsAmong, AreApart, IsNaming, IsInAny, IsOfPart, bag_one, bag_read}
use Rattle.state_theory.specs.Laws.OneEachBags.{root_one}

-- ---- the nodes of a forest have positions of their own
among_append : (first : ℕ) (node : Tree) (peaks : List Located) (peak : Located)
    → IsAmong first node (peaks ++ peak ∷ [])
    → IsAmong first node peaks ⊎ IsWithin first node peak.0 peak.1
among_append first node [] peak (inl is) = inr is
among_append first node [] peak (inr is) = absurd is
among_append first node (p ∷ peaks) peak (inl is) = inl (inl is)
among_append first node (p ∷ peaks) peak (inr is) =
    ⊎_elim (λ x. inl (inr x)) (λ x. inr x) (among_append first node peaks peak is)

among_node : (first : ℕ) (node : Tree) (trees : List Tree) → IsAmong first node (located trees)
    → IsNodeAt first node trees
among_node first node [] is = absurd is
among_node first node (t ∷ ts) is =
    ⊎_elim (λ earlier. inr (among_node first node ts earlier)) (λ here. inl here)
    (among_append first node (located ts) (leaves ts, t) is)

apart_append : (peaks : List Located) (peak : Located) → AreApart peaks → Numbered peak.0 peak.1 → IsPerfect peak.1
    → ((f g : ℕ) (a b : Tree) → IsAmong f a peaks → IsWithin g b peak.0 peak.1 → position a ≡ position b → ⊥)
    → AreApart (peaks ++ peak ∷ [])
apart_append [] peak apart numbered perfect none = (numbered, perfect, (λ f g a b one other same. other), tt)
apart_append (p ∷ peaks) peak apart numbered perfect none = (
  apart.0,
  apart.1,
  (λ f g a b one other same. ⊎_elim (λ earlier. apart.2 f g a b one earlier same)
      (λ here. none f g a b (inl one) here same)
      (among_append g b peaks peak other)),
  apart_append peaks peak apart.3 numbered perfect (λ f g a b one other same. none f g a b (inr one) other same),
)

apart_located : (rule : Rule) → IsPairing rule → (n : ℕ) (trees : List Tree) → ArePerfect trees
    → ((first : ℕ) (node : Tree) → IsNodeAt first node trees → IsNodeAt first node (forest_of rule n))
    → AreApart (located trees)
apart_located rule pairs n [] perfect all = tt
apart_located rule pairs n (t ∷ ts) perfect all =
    apart_append (located ts) (
      leaves ts,
      t,
    ) (apart_located rule pairs n ts perfect.1 (λ first node stands. all first node (inr stands)))
    (λ f g a b one other same. one-node rule pairs n n f g a b (all f a (inl one)) (all g b (inl other)) same)
    perfect.0
    (λ f g a b earlier here same.
    let stands : IsNodeAt f a ts = among_node f a ts earlier in
    let one = one-node rule pairs n n f g a b (all f a (inr stands)) (all g b (inl here)) same in
    omega (arith, one.0, node-fits f a ts stands, within-fits g (leaves ts) b t here, leaf_count-pos a))

peaks_apart : (rule : Rule) → IsPairing rule → (n : ℕ) → AreApart (peaks_of rule n)
peaks_apart rule pairs n =
    apart_located rule pairs n (forest_of rule n) (forest_of-perfect rule pairs n) (λ first node stands. stands)

pub one_among : (rule : Rule) → IsPairing rule → (n f g : ℕ) (a b : Tree) → IsAmong f a (peaks_of rule n)
    → IsAmong g b (peaks_of rule n)
    → position a ≡ position b → (f ≡ g) × (a ≡ b)
one_among rule pairs n f g a b one other same =
    one-node rule pairs n n f g a b (among_node f a (forest_of rule n) one)
    (among_node g b (forest_of rule n) other) same

-- ---- one root, hashed or read
module _ (hash : Hash) (rule : Rule) (pairs : IsPairing rule) (part : ℕ) (names : Naming) (naming : IsNaming part names)
    (Below : ℕ → Type 0) (over : Over)
    (Own : ℕ → Tree → List ℕ
    → Type 0) (Joined : Type 0) (is_over : IsOver hash Below Joined over) (bagging : Bagging) (n inactive : ℕ) where
  pub made_one : (elements : Elements)
      → ((at p : ℕ) → Own at (leaf p) (number p ++ elements at))
      → ((at p : ℕ) (left right : Tree) → IsPerfect (branch p left right) → Below (height (branch p left right))
      → Own at (branch p left right) (number p ++ (value hash (made_tree over elements at left)
      ++ value hash (made_tree over elements (at + leaf_count left) right))))
      → IsOne (IsOfPart Own Joined part (peaks_of rule n))
      (strings hash (made_root names over elements bagging rule n inactive))
  made_one elements leaf_own branch_own =
      let all : List Located = peaks_of rule n in
      root_one hash part names naming Own Joined (length all) bagging n inactive all
      (bag_of names over elements bagging inactive all)
      (bag_one hash part names naming Own Joined (length all) over elements
      (tree_one hash Below over Own Joined is_over elements leaf_own branch_own)
      (from_left bagging inactive (length all)) all (peaks_apart rule pairs n) refl)

  pub root_read : ((first : ℕ) (node : Tree) (u : List ℕ) → Own first node u)
      → (claimed : Elements) (start stop outer : ℕ) (digests : List (List ℕ))
      → IfSome (read_root names over bagging rule n inactive start stop claimed outer digests)
      (λ made. IsOne (IsOfPart Own Joined part (peaks_of rule n)) (strings hash made))
  root_read own claimed start stop outer digests =
      let all : List Located = peaks_of rule n in
      let last : ℕ = length all in
      let got : Bagged = read_bag names over claimed start stop last (from_left bagging inactive last) all
      (take outer digests, drop outer digests) in
      let IsRoot : Made → Type 0 = λ made. IsOne (IsOfPart Own Joined part all) (strings hash made) in
      let IsBag : Made → Type 0 = λ made. IsOne (λ s u. IsInAny Own Joined all s u
      ⊎ ((a : ℕ) × (b : ℕ) × (s ≡ names.fold_site a b)))
      (strings hash made) in
      choose (λ r. IfSome r IsRoot) (ltb (2 ^ 62) n || (ltb last inactive || ltb n stop)) None
      (option_map (root_made names bagging n inactive) (option_and_then used got))
      (λ is. tt)
      (λ is. map_good IsBag IsRoot (root_made names bagging n inactive) (option_and_then used got)
      (all_used IsBag got (bag_read hash part names naming Own Joined last over claimed start stop
      (λ at t more numbered. read_one hash Below over Own Joined is_over own claimed start stop at t more numbered)
      (from_left bagging inactive last) all (take outer digests, drop outer digests) (peaks_apart rule pairs n) refl))
      (λ bag one. root_one hash part names naming Own Joined last bagging n inactive all bag one))
    where
      all_used : (P : Made → Type 0) (got : Bagged) → IfSome got (λ x. P x.0) → IfSome (option_and_then used got) P
      all_used P None is = tt
      all_used P (Some (made, ([], []))) is = is
      all_used P (Some (made, ((d ∷ outer), inner))) is = tt
      all_used P (Some (made, ([], (d ∷ inner)))) is = tt

fold_same : (a b c d : ℕ) → at_fold a b ≡ at_fold c d → (a ≡ c) × (b ≡ d)
fold_same a b c d same = (cc, cc)

grafted_fold_same : (a b c d : ℕ) → at_grafted_fold a b ≡ at_grafted_fold c d → (a ≡ c) × (b ≡ d)
grafted_fold_same a b c d same = (cc, cc)

pub operations_naming : IsNaming 3 operations_names
operations_naming = record {
  low = omega arith;
  root = refl;
  fold = λ a b. refl;
  same = fold_same;
  not_fold = λ a b is. absurd cc;
}

pub grafted_naming : IsNaming 4 grafted_names
grafted_naming = record {
  low = omega arith;
  root = refl;
  fold = λ a b. refl;
  same = grafted_fold_same;
  not_fold = λ a b is. absurd cc;
}
