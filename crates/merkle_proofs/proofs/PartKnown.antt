-- What is looked up for the proof of a part of a range are digests of the tree.
use Rattle.std.proofs.Common.{◌≡◌, ℕ, zero, suc, List, [], ◌∷◌, ◌++◌, map, filter, take, drop, Some, refl, sym, ◌∙◌, ap, ap₂}
use Rattle.std.specs.List.{AllByRecursion}
use Rattle.merkle_core_parts.specs.declared.error.Error.{Error}
use Rattle.merkle_core_parts.specs.declared.error.Error.TheVariants.{ElementPruned, Memory}
use Rattle.merkle_forest.specs.Forest.{Tree, position, Rule, forest_of}
use Rattle.merkle_forest.specs.Trees.{Located, located}
use Rattle.merkle_theory.specs.Plans.{Lookup, inner_nodes, positions_of, IsRefusalToLookUp, first_missing}
use Rattle.merkle_proofs.specs.ProofStores.{Kept, IsKnownOf, IsPart, IsRefusalToBuildPart, digest_among, part_nodes}
use Rattle.merkle_theory.specs.Ranges.{Digests, is_before, is_after, singly}
use Rattle.merkle_theory.proofs.Lookups.{IsNode, range_all}

module _ {A : Type 0} (P : A → Type 0) where
  first_all : (xs ys : List A) → AllByRecursion P (xs ++ ys) → AllByRecursion P xs
  first_all [] ys all = tt
  first_all (x ∷ xs) ys all = (all.0, first_all xs ys all.1)

  rest_all : (xs ys : List A) → AllByRecursion P (xs ++ ys) → AllByRecursion P ys
  rest_all [] ys all = all
  rest_all (x ∷ xs) ys all = rest_all xs ys all.1

  both_all : (xs ys : List A) → AllByRecursion P xs → AllByRecursion P ys → AllByRecursion P (xs ++ ys)
  both_all [] ys one other = other
  both_all (x ∷ xs) ys one other = (one.0, both_all xs ys one.1 other)

  take_each : (n : ℕ) (xs : List A) → AllByRecursion P xs → AllByRecursion P (take n xs)
  take_each zero xs all = tt
  take_each (suc n) [] all = tt
  take_each (suc n) (x ∷ xs) all = (all.0, take_each n xs all.1)

  drop_each : (n : ℕ) (xs : List A) → AllByRecursion P xs → AllByRecursion P (drop n xs)
  drop_each zero xs all = all
  drop_each (suc n) [] all = tt
  drop_each (suc n) (x ∷ xs) all = drop_each n xs all.1

part_all : (forest : List Tree) (start stop b n : ℕ) → AllByRecursion (IsNode forest) (drop b (filter (is_before start) (located forest))
    ++ (take n (filter (is_after stop) (located forest)) ++ inner_nodes start stop (located forest)))
part_all forest start stop b n =
    let before = filter (is_before start) (located forest) in
    let after = filter (is_after stop) (located forest) in
    let inner = inner_nodes start stop (located forest) in
    let P = IsNode forest in
    let all : AllByRecursion P (before ++ (after ++ inner)) = range_all forest start stop in
    let later = rest_all P before (after ++ inner) all in
    both_all P (drop b before) (take n after ++ inner) (drop_each P b before (first_all P before (after ++ inner) all))
    (both_all P (take n after) inner (take_each P n after (first_all P after inner later)) (rest_all P after inner later))

known_each : (rule : Rule) (leaf_total : ℕ) (digest : Digests) (known : Lookup) → IsKnownOf rule leaf_total digest known
    → (digests : List (List ℕ)) (nodes : List Located) → AllByRecursion (IsNode (forest_of rule leaf_total)) nodes
    → map (λ d. Some d) digests ≡ map known (positions_of nodes) → digests ≡ singly digest nodes
known_each rule leaf_total digest known of [] [] all is = refl
known_each rule leaf_total digest known of [] (n ∷ nodes) all is = absurd cc
known_each rule leaf_total digest known of (d ∷ digests) [] all is = absurd cc
known_each rule leaf_total digest known of (d ∷ digests) (n ∷ nodes) all is =
    let heads : Some d ≡ known (position n.1) = cc in
    let tails : map (λ x. Some x) digests ≡ map known (positions_of nodes) = cc in
    ap₂ (λ x xs. x ∷ xs) (of n.0 n.1 d all.0 (sym heads)) (known_each rule leaf_total digest known of digests nodes all.1 tails)

-- the digests that are looked up are those of the nodes
pub part_known : {D : Type 0} (rule : Rule) (digest : Digests) (known : Lookup) (store : Kept D) (start stop : ℕ)
    → IsKnownOf rule store.leaves digest known → (digests : List (List ℕ))
    → map (λ d. Some d) digests ≡ map known (positions_of (part_nodes rule store start stop))
    → digests ≡ singly digest (part_nodes rule store start stop)
part_known rule digest known store start stop of digests is =
    known_each rule store.leaves digest known of digests (part_nodes rule store start stop)
    (part_all (forest_of rule store.leaves) start stop _ _) is

-- what refuses the look-up refuses the proof
pub part_refused : {F D : Type 0} (rule : Rule) (encoding : D → List ℕ) (store : Kept D) (start stop : ℕ) (positions : List ℕ) (e : Error F)
    → IsPart store start stop → positions ≡ positions_of (part_nodes rule store start stop)
    → IsRefusalToLookUp (digest_among encoding store.nodes) positions e → IsRefusalToBuildPart rule encoding store start stop e
part_refused rule encoding store start stop positions (ElementPruned p) part same why =
    (part, ap (first_missing (digest_among encoding store.nodes)) (sym same) ∙ why)
part_refused rule encoding store start stop positions Memory part same why = tt
part_refused rule encoding store start stop positions e part same why = absurd why
