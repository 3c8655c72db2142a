-- A proof of a range whose term agrees with the root of a tree was read from the honest digests of that tree.
use Rattle.std.proofs.Common.{◌≡◌, ℕ, ◌+◌, ◌<◌, ◌^◌, ◌||◌, ltb, List, [], ◌∷◌, ◌++◌, length, take, drop, Option, None}
use Rattle.std.proofs.Common.{Some, IfSome, option_map, option_and_then, refl, sym, ◌∙◌, ap, arith}
use Rattle.std.proofs.lemmas.Bool.{ltb-true}
use Rattle.std.proofs.lemmas.List.{take-append-drop}
use Rattle.merkle_forest.specs.declared.bagging.Bagging.{Bagging}
use Rattle.merkle_forest.specs.Forest.{Tree, leaf, branch, leaf_count, Rule, forest_of}
use Rattle.merkle_forest.specs.Hashing.{Hash}
use Rattle.merkle_forest.specs.Made.{Made, value}
use Rattle.merkle_forest.specs.Trees.{Located}
use Rattle.merkle_forest.specs.Laws.Matching.{Agrees}
use Rattle.merkle_theory.specs.HonestReads.{AreDigestsOver, ChildrenAgree, IsReadHonestly, ReadsHonestly}
use Rattle.merkle_theory.specs.MadeRoots.{Naming, Bagged, peaks_of, from_left, made_root, root_made, used, read_bag, read_root}
use Rattle.merkle_theory.specs.MadeTrees.{Over, Elements, from, made_tree}
use Rattle.merkle_theory.specs.RangeCounts.{range_outer}
use Rattle.merkle_theory.specs.Ranges.{Digests, inner_digests, range_digests}
use Rattle.merkle_theory.specs.Reads.{Agrees as MadeOver}
use Rattle.merkle_theory.specs.Laws.MadeTrees.{choose}
use Rattle.merkle_theory.specs.Laws.Sound.{if_some}
use Rattle.merkle_theory.proofs.HonestRoots.{ascend_located, outer_read, outer_same, proof_parts}
use Rattle.merkle_theory.proofs.ListReads.{BagTold, bag_told}

none_left : (xs : List (List ℕ)) → xs ++ [] ≡ xs
none_left [] = refl
none_left (x ∷ xs) = ap (λ ys. x ∷ ys) (none_left xs)

-- digests that are made over all elements are those of the trees that are made of them
pub tree_made : (hash : Hash) (over : Over) (elements : Elements) (digest : Digests) → AreDigestsOver hash over elements digest
    → (at : ℕ) (t : Tree) → value hash (made_tree over elements at t) ≡ digest at t
tree_made hash over elements digest made at (leaf p) = (made at (at + 1)).leaf at p (omega arith) (omega arith)
tree_made hash over elements digest made at (branch p left right) =
    (made 0 0).branch at p left right (made_tree over elements at left) (made_tree over elements (at + leaf_count left) right)
    (tree_made hash over elements digest made at left) (tree_made hash over elements digest made (at + leaf_count left) right)

module _ (hash : Hash) (names : Naming) (read there : Over) (claimed real : Elements) (digest : Digests) (start stop : ℕ) (some : start < stop)
    (made_over : MadeOver hash there real digest start stop) (is : (at : ℕ) (t : Tree) → value hash (made_tree there real at t) ≡ digest at t)
    (children : ChildrenAgree hash read there) (bagging : Bagging) (rule : Rule) (leaf_total inactive outer : ℕ) (digests : List (List ℕ)) where
  abbrev peaks : List Located
  peaks = peaks_of rule leaf_total

  abbrev k : ℕ
  k = from_left bagging inactive (length peaks)

  -- the digests, of which so many are outer ones, are those of the tree
  abbrev pub AreOfTree : Type 0
  AreOfTree = (take outer digests ≡ outer_read hash digest start stop some bagging inactive peaks)
      × (drop outer digests ≡ inner_digests digest start stop peaks)

  abbrev pub RootTold : Made → Type 0
  RootTold made = Agrees hash made (made_root names there real bagging rule leaf_total inactive) → AreOfTree

  abbrev OfBag : Made × (List (List ℕ) × List (List ℕ)) → Type 0
  OfBag = BagTold hash names read there claimed real digest start stop (length peaks) some made_over is children k peaks
      (take outer digests, drop outer digests)

  root_used : (got : Bagged) → IfSome got OfBag → IfSome (option_map (root_made names bagging leaf_total inactive) (option_and_then used got)) RootTold
  root_used None told = tt
  root_used (Some (made, ([], []))) told = λ same. let it = told same.1.1.1 in (
    it.0 ∙ none_left (outer_read hash digest start stop some bagging inactive peaks),
    it.1 ∙ none_left (inner_digests digest start stop peaks),
  )
  root_used (Some (made, ((d ∷ outers), inners))) told = tt
  root_used (Some (made, ([], (d ∷ inners)))) told = tt

  pub root_told : IfSome (read_root names read bagging rule leaf_total inactive start stop claimed outer digests) RootTold
  root_told =
      let got = read_bag names read claimed start stop (length peaks) k peaks (take outer digests, drop outer digests) in
      choose (λ r. IfSome r RootTold) (ltb (2 ^ 62) leaf_total || (ltb (length peaks) inactive || ltb leaf_total stop)) None
      (option_map (root_made names bagging leaf_total inactive) (option_and_then used got))
      (λ refused. tt)
      (λ fits. root_used got (bag_told hash names read there claimed real digest start stop (length peaks) some made_over is children k peaks
      (take outer digests, drop outer digests) (ascend_located (forest_of rule leaf_total))))

  -- so they are those of the honest proof
  pub spelled_out : AreOfTree → digests ≡ range_digests hash digest bagging start stop (take inactive peaks) (drop inactive peaks)
  spelled_out are =
      sym (take-append-drop outer digests) ∙ ap (λ ds. ds ++ drop outer digests) are.0
      ∙ ap (λ ds. outer_read hash digest start stop some bagging inactive peaks ++ ds) are.1
      ∙ ap (λ ds. ds ++ inner_digests digest start stop peaks)
      (sym (outer_same hash digest start stop some bagging inactive peaks (ascend_located (forest_of rule leaf_total))))
      ∙ sym (proof_parts hash digest start stop some bagging inactive peaks)

pub range_read : (rule : Rule) → ReadsHonestly rule
range_read rule hash names read there bagging digest elements leaf_total inactive start shown digests made children =
    let stop : ℕ = start + length shown in
    let outer : ℕ = range_outer bagging start stop inactive (peaks_of rule leaf_total) in
    let is = tree_made hash there elements digest made in
    let Honest : Made → Type 0 = IsReadHonestly hash names there elements digest bagging rule leaf_total inactive start stop digests in
    let root : Option Made = read_root names read bagging rule leaf_total inactive start stop (from start shown) outer digests in
    choose (λ r. IfSome r Honest) (ltb 0 (length shown)) root None
    (λ shows. let many : 0 < length shown = ltb-true 0 (length shown) shows in
    let some : start < stop = omega (arith, many) in
    if_some (RootTold hash names read there (from start shown) elements digest start stop some (made start stop) is children bagging rule leaf_total
    inactive outer digests) Honest root
    (root_told hash names read there (from start shown) elements digest start stop some (made start stop) is children bagging rule leaf_total inactive
    outer digests)
    (λ it told same. spelled_out hash names read there (from start shown) elements digest start stop some (made start stop) is children bagging rule
    leaf_total inactive outer digests (told same)))
    (λ nothing_shown. tt)
