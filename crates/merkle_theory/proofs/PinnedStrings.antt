-- The strings that a list's nodes are made by, and those of the fold of its first peaks, are among those of its root.
use Rattle.std.proofs.Common.{◌≡◌, ⊎_elim, inl, inr, ℕ, zero, suc, ◌+◌, ◌<◌, Contains, false}
use Rattle.std.proofs.Common.{List, [], ◌∷◌, ◌++◌, length, filter, take, sym, ◌∙◌, subst, arith}
use Rattle.std.specs.List.{AllByRecursion}
use Rattle.std.proofs.lemmas.Bool.{cases_Bool, leb-false}
use Rattle.std.proofs.lemmas.List.Elements.{Contains-append_left, Contains-append_right}
use Rattle.merkle_forest.specs.Forest.{Tree, leaf, branch, leaf_count}
use Rattle.merkle_forest.specs.Hashing.{Hash, number}
use Rattle.merkle_forest.specs.Laws.Matching.{In}
use Rattle.merkle_forest.specs.Made.{Site, at_plain, Made, bytes, both, hashed, value, Strings, strings}
use Rattle.merkle_forest.specs.Nodes.{IsWithin}
use Rattle.merkle_forest.specs.Trees.{Located, end_of}
use Rattle.merkle_theory.specs.MadeRoots.{folded, made_peak, made_back, made_onto, made_bag}
use Rattle.merkle_theory.specs.MadeTrees.{Elements, plain_over, made_tree}
use Rattle.merkle_theory.specs.Ranges.{is_before}
use Rattle.merkle_theory.specs.Soundness.{plain_names}
use Rattle.merkle_theory.proofs.HonestRanges.{Ascend}
use Rattle.merkle_theory.proofs.OneEach.{nothing}
use Rattle.merkle_theory.proofs.PartFolds.{none_there, ascend_first}
use Rattle.merkle_theory.proofs.PlanNodes.{passed, failed}

pub all_more : {A : Type 0} (P Q : A → Type 0) (xs : List A) → ((x : A) → P x → Q x) → AllByRecursion P xs → AllByRecursion Q xs
all_more P Q [] each all = tt
all_more P Q (x ∷ xs) each all = (each x all.0, all_more P Q xs each all.1)

module _ (hash : Hash) where
  -- what two parts are hashed from is hashed for the whole
  in_first : (site : Site) (x y : Made) → In (strings hash x) (strings hash (hashed site [] (both x y)))
  in_first site x y s here =
      Contains-append_right ((site, value hash (both x y)) ∷ []) (strings hash x ++ strings hash y) s
      (Contains-append_left (strings hash x) (strings hash y) s here)

  in_second : (site : Site) (x y : Made) → In (strings hash y) (strings hash (hashed site [] (both x y)))
  in_second site x y s here =
      Contains-append_right ((site, value hash (both x y)) ∷ []) (strings hash x ++ strings hash y) s
      (Contains-append_right (strings hash x) (strings hash y) s here)

  module _ (elements : Elements) where
    abbrev pub S : ℕ → Tree → Strings
    S at t = strings hash (made_tree plain_over elements at t)

    same_tree : (first at : ℕ) (node t : Tree) → first ≡ at → node ≡ t → In (S first node) (S at t)
    same_tree first at node t begins is s here = subst (λ k. Contains (S k t) s) begins (subst (λ g. Contains (S first g) s) is here)

    -- those of a node are those of the tree that it stands in
    pub tree_in : (first : ℕ) (node : Tree) (at : ℕ) (t : Tree) → IsWithin first node at t → In (S first node) (S at t)
    tree_in first node at (leaf p) within = same_tree first at node (leaf p) within.0 within.1
    tree_in first node at (branch p left right) (inl within) = same_tree first at node (branch p left right) within.0 within.1
    tree_in first node at (branch p left right) (inr (inl within)) = λ s here.
        let a = made_tree plain_over elements at left in
        let b = made_tree plain_over elements (at + leaf_count left) right in
        in_second (at_plain p) (bytes (number p)) (both a b) s
        (Contains-append_left (strings hash a) (strings hash b) s (tree_in first node at left within s here))
    tree_in first node at (branch p left right) (inr (inr within)) = λ s here.
        let a = made_tree plain_over elements at left in
        let b = made_tree plain_over elements (at + leaf_count left) right in
        in_second (at_plain p) (bytes (number p)) (both a b) s
        (Contains-append_right (strings hash a) (strings hash b) s (tree_in first node (at + leaf_count left) right within s here))

    module _ (last : ℕ) where
      abbrev M : Located → Made
      M peak = made_peak plain_over elements peak

      abbrev back : ℕ → Located → List Located → Made
      back n peak peaks = made_back plain_names plain_over elements last n peak peaks

      abbrev onto : ℕ → ℕ → Made → List Located → Made
      onto k n first peaks = made_onto plain_names plain_over elements last k n first peaks

      abbrev pub PeakIn : Made → Located → Type 0
      PeakIn made q = In (S q.0 q.1) (strings hash made)

      more_in : (x y : Made) (ps : List Located) → In (strings hash x) (strings hash y) → AllByRecursion (PeakIn x) ps → AllByRecursion (PeakIn y) ps
      more_in x y ps into all = all_more (PeakIn x) (PeakIn y) ps (λ q own s here. into s (own s here)) all

      back_in : (n : ℕ) (peak : Located) (peaks : List Located) → AllByRecursion (PeakIn (back n peak peaks)) (peak ∷ peaks)
      back_in n peak [] = ((λ s here. here), tt)
      back_in n peak (next ∷ peaks) =
          let others = back (suc n) next peaks in (
            in_first (plain_names.fold_site n last) (M peak) others,
            more_in others (back n peak (next ∷ peaks)) (next ∷ peaks) (in_second (plain_names.fold_site n last) (M peak) others)
                (back_in (suc n) next peaks),
          )

      first_in : (k n : ℕ) (first : Made) (peaks : List Located) → In (strings hash first) (strings hash (onto k n first peaks))
      first_in k n first [] = λ s here. here
      first_in zero n first (peak ∷ peaks) = in_first (plain_names.fold_site 1 last) first (back n peak peaks)
      first_in (suc k) n first (peak ∷ peaks) = λ s here.
          first_in k (suc n) (folded plain_names 1 n first (M peak)) peaks s (in_first (plain_names.fold_site 1 n) first (M peak) s here)

      onto_in : (k n : ℕ) (first : Made) (peaks : List Located) → AllByRecursion (PeakIn (onto k n first peaks)) peaks
      onto_in k n first [] = tt
      onto_in zero n first (peak ∷ peaks) =
          more_in (back n peak peaks) (onto zero n first (peak ∷ peaks)) (peak ∷ peaks)
          (in_second (plain_names.fold_site 1 last) first (back n peak peaks)) (back_in n peak peaks)
      onto_in (suc k) n first (peak ∷ peaks) =
          let next = folded plain_names 1 n first (M peak) in (
            (λ s here. first_in k (suc n) next peaks s (in_second (plain_names.fold_site 1 n) first (M peak) s here)),
            onto_in k (suc n) next peaks,
          )

      abbrev pub bag : ℕ → List Located → Made
      bag k peaks = made_bag plain_names plain_over elements last k peaks

      -- those of each peak are those of the bag
      pub bag_in : (k : ℕ) (peaks : List Located) → AllByRecursion (PeakIn (bag k peaks)) peaks
      bag_in k [] = tt
      bag_in zero (peak ∷ peaks) = back_in 1 peak peaks
      bag_in (suc k) (peak ∷ peaks) = (first_in k 2 (M peak) peaks, onto_in k 2 (M peak) peaks)

      module _ (start : ℕ) where
        abbrev fronts : ℕ → List Located → List Located
        fronts k peaks = filter (is_before start) (take k peaks)

        no_front : (k at : ℕ) (peak : Located) (peaks : List Located) → Ascend at (peak ∷ peaks) → is_before start peak ≡ false
            → fronts (suc k) (peak ∷ peaks) ≡ []
        no_front k at peak peaks up late =
            let past : start < end_of peak = leb-false (end_of peak) start late in
            failed (is_before start) peak (take k peaks) late
            ∙ none_there start (end_of peak) (take k peaks) (omega (arith, past)) (ascend_first k (end_of peak) peaks up.1)

        group_in : (other k n at : ℕ) (first : Made) (peaks : List Located) → Ascend at peaks
            → In (strings hash (made_onto plain_names plain_over elements other (length (fronts k peaks)) n first (fronts k peaks)))
            (strings hash (onto k n first peaks))
        group_in other zero n at first peaks up = first_in zero n first peaks
        group_in other (suc k) n at first [] up = first_in (suc k) n first []
        group_in other (suc k) n at first (peak ∷ peaks) up =
            let into : List Located → Type 0 = λ ns. In (strings hash (made_onto plain_names plain_over elements other (length ns) n first ns))
            (strings hash (onto (suc k) n first (peak ∷ peaks))) in
            ⊎_elim
            (λ front. subst into (sym (passed (is_before start) peak (take k peaks) front))
            (group_in other k (suc n) (end_of peak) (folded plain_names 1 n first (M peak)) peaks up.1))
            (λ no. subst into (sym (no_front k at peak peaks up no)) (first_in (suc k) n first (peak ∷ peaks)))
            (cases_Bool (is_before start peak))

        -- and those of the fold of the first peaks
        pub fronts_in : (k : ℕ) (peaks : List Located) → Ascend 0 peaks
            → In (strings hash (made_bag plain_names plain_over elements (length (fronts k peaks)) (length (fronts k peaks)) (fronts k peaks)))
            (strings hash (bag k peaks))
        fronts_in zero peaks up = λ s here. absurd (nothing s here)
        fronts_in (suc k) [] up = λ s here. absurd (nothing s here)
        fronts_in (suc k) (peak ∷ peaks) up =
            let into : List Located → Type 0 = λ ns. In (strings hash (made_bag plain_names plain_over elements (length ns) (length ns) ns))
            (strings hash (bag (suc k) (peak ∷ peaks))) in
            ⊎_elim
            (λ front. subst into (sym (passed (is_before start) peak (take k peaks) front))
            (group_in (suc (length (fronts k peaks))) k 2 (end_of peak) (M peak) peaks up.1))
            (λ no. subst into (sym (no_front k 0 peak peaks up no)) (λ s here. absurd (nothing s here)))
            (cases_Bool (is_before start peak))
