-- What is read of shown elements, where it agrees with a tree, was read from that tree's digests of the nodes that hold none of them.
use Rattle.std.proofs.Common.{◌≡◌, ℕ, ◌+◌, ⊎_elim, true, false, List, [], ◌∷◌, ◌++◌, length, map, Option, None, Some}
use Rattle.std.proofs.Common.{option_map, IfSome, refl, sym, ◌∙◌, ap, subst, arith, append_assoc}
use Rattle.std.specs.List.{AllByRecursion}
use Rattle.std.proofs.lemmas.Bool.{cases_Bool}
use Rattle.merkle_forest.specs.Forest.{Tree, leaf, branch, position, height, leaf_count}
use Rattle.merkle_forest.specs.Hashing.{Hash}
use Rattle.merkle_forest.specs.Made.{Made, bytes, value}
use Rattle.merkle_forest.specs.Trees.{Located, end_of}
use Rattle.merkle_forest.specs.Laws.Matching.{Agrees}
use Rattle.merkle_theory.specs.HonestReads.{ChildrenAgree}
use Rattle.merkle_theory.specs.MadeRoots.{Naming, made_peak}
use Rattle.merkle_theory.specs.MadeTrees.{Over, Elements, leaf_made, branch_made, made_tree}
use Rattle.merkle_theory.specs.Multi.{is_named, unnamed_nodes, multi_nodes}
use Rattle.merkle_theory.specs.MultiReads.{both_there, read_shown, read_peaks}
use Rattle.merkle_theory.specs.Plans.{Lookup}
use Rattle.merkle_theory.specs.Ranges.{Digests}
use Rattle.merkle_theory.specs.Laws.MadeTrees.{choose}
use Rattle.merkle_theory.proofs.HonestRanges.{Ascend}
use Rattle.merkle_theory.proofs.Lookups.{all_append}
use Rattle.merkle_theory.proofs.PartFolds.{ascend_from}
use Rattle.merkle_theory.proofs.PeakMatches.{AllAgree}
use Rattle.merkle_theory.proofs.ShownTruth.{both_good}
use Rattle.merkle_theory.proofs.Unnamed.{unnamed_leaf, unnamed_none, unnamed_test}

module _ (hash : Hash) (read there : Over) (claimed real : Elements) (digest : Digests) (locations : List ℕ) (known : Lookup)
    (is : (at : ℕ) (t : Tree) → value hash (made_tree there real at t) ≡ digest at t) (children : ChildrenAgree hash read there) where
  -- the digest that is known of a node is its own
  abbrev pub IsOwn : Located → Type 0
  IsOwn n = known (position n.1) ≡ Some (digest n.0 n.1)

  abbrev ShownTold : ℕ → Tree → Made → Type 0
  ShownTold at t made = Agrees hash made (made_tree there real at t) → AllByRecursion IsOwn (unnamed_nodes locations at t)

  given_told : (at : ℕ) (t : Tree) → is_named locations (at, t) ≡ false → (o : Option (List ℕ)) → known (position t) ≡ o
      → IfSome (option_map bytes o) (ShownTold at t)
  given_told at t out None found = tt
  given_told at t out (Some d) found = λ same.
      subst (AllByRecursion IsOwn) (sym (unnamed_none locations at t out)) (found ∙ ap (λ e. Some e) (same ∙ is at t), tt)

  branch_told : (at p : ℕ) (left right : Tree) (x y : Made) → is_named locations (at, branch p left right) ≡ true → ShownTold at left x
      → ShownTold (at + leaf_count left) right y
      → ShownTold at (branch p left right) (branch_made read at (height (branch p left right)) p x y)
  branch_told at p left right x y named one other = λ same.
      let both = children at (height (branch p left right)) p x y (made_tree there real at left)
      (made_tree there real (at + leaf_count left) right) same in
      subst (AllByRecursion IsOwn) (sym (unnamed_test locations at p left right true named))
      (all_append IsOwn (unnamed_nodes locations at left) (unnamed_nodes locations (at + leaf_count left) right) (one both.0) (other both.1))

  shown_told : (at : ℕ) (t : Tree) → IfSome (read_shown read claimed locations known at t) (ShownTold at t)
  shown_told at (leaf p) =
      choose (λ got. IfSome got (ShownTold at (leaf p))) (is_named locations (at, leaf p)) (Some (leaf_made p (claimed at)))
      (option_map bytes (known p))
      (λ named same. subst (AllByRecursion IsOwn) (sym (unnamed_leaf locations at p true named)) tt)
      (λ out. given_told at (leaf p) out (known p) refl)
  shown_told at (branch p left right) =
      choose (λ got. IfSome got (ShownTold at (branch p left right))) (is_named locations (at, branch p left right))
      (both_there (branch_made read at (height (branch p left right)) p) (read_shown read claimed locations known at left)
      (read_shown read claimed locations known (at + leaf_count left) right)) (option_map bytes (known p))
      (λ named. both_good (ShownTold at left) (ShownTold (at + leaf_count left) right) (ShownTold at (branch p left right))
      (branch_made read at (height (branch p left right)) p) (read_shown read claimed locations known at left)
      (read_shown read claimed locations known (at + leaf_count left) right) (shown_told at left) (shown_told (at + leaf_count left) right)
      (λ x y one other. branch_told at p left right x y named one other))
      (λ out. given_told at (branch p left right) out (known p) refl)

  module _ (size : ℕ) (hash_sized : (xs : List ℕ) → length (hash xs) ≡ size) (naming : Naming) where
    -- so of all peaks
    abbrev pub PeaksTold : List Located → List Made → Type 0
    PeaksTold peaks xs = AllAgree hash size hash_sized naming xs (map (made_peak there real) peaks)
        → AllByRecursion IsOwn (multi_nodes locations peaks)

    pub peaks_told : (peaks : List Located) → IfSome (read_peaks read claimed locations known peaks) (PeaksTold peaks)
    peaks_told [] = λ agree. tt
    peaks_told (peak ∷ peaks) =
        both_good (ShownTold peak.0 peak.1) (PeaksTold peaks) (PeaksTold (peak ∷ peaks)) (λ x xs. x ∷ xs)
        (read_shown read claimed locations known peak.0 peak.1) (read_peaks read claimed locations known peaks)
        (shown_told peak.0 peak.1) (peaks_told peaks)
        (λ x xs one others agree. all_append IsOwn (unnamed_nodes locations peak.0 peak.1) (multi_nodes locations peaks) (one agree.0)
        (others agree.1))

-- these nodes ascend
module _ (locations : List ℕ) where
  unnamed_up : (at : ℕ) (t : Tree) (rest : List Located) → Ascend (at + leaf_count t) rest → Ascend at (unnamed_nodes locations at t ++ rest)
  unnamed_up at (leaf p) rest up =
      ⊎_elim
      (λ named. subst (λ ns. Ascend at (ns ++ rest)) (sym (unnamed_leaf locations at p true named)) (ascend_from at (at + 1) rest (omega arith) up))
      (λ out. subst (λ ns. Ascend at (ns ++ rest)) (sym (unnamed_none locations at (leaf p) out)) (omega arith, up))
      (cases_Bool (is_named locations (at, leaf p)))
  unnamed_up at (branch p left right) rest up =
      let middle : ℕ = at + leaf_count left in
      let lefts : List Located = unnamed_nodes locations at left in
      let rights : List Located = unnamed_nodes locations middle right in
      let last : at + (leaf_count left + leaf_count right) ≡ middle + leaf_count right = omega arith in
      ⊎_elim
      (λ named. subst (λ ns. Ascend at (ns ++ rest)) (sym (unnamed_test locations at p left right true named))
      (subst (Ascend at) (sym (append_assoc lefts rights rest))
      (unnamed_up at left (rights ++ rest) (unnamed_up middle right rest (subst (λ k. Ascend k rest) last up)))))
      (λ out. subst (λ ns. Ascend at (ns ++ rest)) (sym (unnamed_none locations at (branch p left right) out)) (omega arith, up))
      (cases_Bool (is_named locations (at, branch p left right)))

  pub multi_up : (at : ℕ) (peaks : List Located) → Ascend at peaks → Ascend at (multi_nodes locations peaks)
  multi_up at [] up = tt
  multi_up at (peak ∷ peaks) up =
      ascend_from at peak.0 (unnamed_nodes locations peak.0 peak.1 ++ multi_nodes locations peaks) up.0
      (unnamed_up peak.0 peak.1 (multi_nodes locations peaks) (multi_up (end_of peak) peaks up.1))
