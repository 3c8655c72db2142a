-- The digest of what is made for a list is the root of the list's tree.
use Rattle.std.proofs.Common.{◌≡◌, ℕ, zero, suc, cond, List, [], ◌∷◌, length, map, take, drop, refl, sym, ◌∙◌, ap}
use Rattle.merkle_forest.specs.declared.bagging.Bagging.{Bagging}
use Rattle.merkle_forest.specs.declared.bagging.Bagging.TheVariants.{ForwardFold, BackwardFold}
use Rattle.merkle_forest.specs.Forest.{Tree, Rule, forest_of}
use Rattle.merkle_forest.specs.Hashing.{Hash, fold_string, folded_onto, folded_forward, folded_backward, items, bagged}
use Rattle.merkle_forest.specs.Hashing.{root_string, root_of}
use Rattle.merkle_forest.specs.Trees.{Located, plain_digest, peak_digests, tree_root}
use Rattle.merkle_forest.specs.Made.{Made, value}
use Rattle.merkle_theory.specs.MadeTrees.{Over, Elements, whole, plain_over, made_tree}
use Rattle.merkle_theory.specs.Laws.MadeTrees.{value_plain}
use Rattle.merkle_theory.specs.MadeRoots.{Naming, folded, made_peak, made_back, made_onto, made_bag, bag_of, peaks_of}
use Rattle.merkle_theory.specs.MadeRoots.{made_root}
use Rattle.merkle_theory.specs.Laws.MadeRoots.{not_zero}
use Rattle.merkle_theory.specs.Soundness.{plain_names, list_root}

module _ (hash : Hash) (names : Naming) (over : Over) (elements : Elements) (digest : ℕ → Tree → List ℕ)
    (is : (at : ℕ) (t : Tree)
    → value hash (made_tree over elements at t) ≡ digest at t) (last : ℕ) where
  abbrev digests : List Located → List (List ℕ)
  digests peaks = map (λ peak. digest peak.0 peak.1) peaks

  pub value_back : (n : ℕ) (peak : Located) (peaks : List Located)
      → value hash (made_back names over elements last n peak peaks)
      ≡ folded_backward hash (digests (peak ∷ peaks))
  value_back n peak [] = is peak.0 peak.1
  value_back n peak (next ∷ peaks) = rw (is peak.0 peak.1, value_back (suc n) next peaks) refl

  value_onto : (inactive n : ℕ) (first : Made) (f : List ℕ) (peaks : List Located) → value hash first ≡ f
      → value hash (made_onto names over elements last inactive n first peaks)
      ≡ folded_backward hash (folded_onto hash f (take inactive (digests peaks)) ∷ drop inactive (digests peaks))
  value_onto zero n first f [] same = same
  value_onto (suc inactive) n first f [] same = same
  value_onto zero n first f (peak ∷ peaks) same = rw (same, value_back n peak peaks) refl
  value_onto (suc inactive) n first f (peak ∷ peaks) same =
      value_onto inactive (suc n) (folded names 1 n first (made_peak over elements peak))
      (hash (fold_string f (digest peak.0 peak.1))) peaks (rw
      (same, is peak.0 peak.1) refl)

  value_bag : (inactive : ℕ) (peaks : List Located) → value hash (made_bag names over elements last inactive peaks)
      ≡ folded_backward hash (items hash inactive (digests peaks))
  value_bag zero [] = refl
  value_bag (suc inactive) [] = sym (ap (λ b. folded_backward hash (cond b [] ([] ∷ []))) (not_zero inactive))
  value_bag zero (peak ∷ peaks) = value_back 1 peak peaks
  value_bag (suc inactive) (peak ∷ peaks) =
      value_onto inactive 2 (made_peak over elements peak) (digest peak.0 peak.1) peaks (is peak.0 peak.1)
      ∙ sym (ap (λ b. folded_backward hash
      (cond b (digests (peak ∷ peaks)) (folded_forward hash (take (suc inactive) (digests
      (peak ∷ peaks))) ∷ drop (suc inactive) (digests (peak ∷ peaks))))) (not_zero inactive))

  -- all peaks are folded from the left
  value_all : (n : ℕ) (first : Made) (f : List ℕ) (peaks : List Located) → value hash first ≡ f
      → value hash (made_onto names over elements last (length peaks) n first peaks)
      ≡ folded_onto hash f (digests peaks)
  value_all n first f [] same = same
  value_all n first f (peak ∷ peaks) same =
      value_all (suc n) (folded names 1 n first (made_peak over elements peak))
      (hash (fold_string f (digest peak.0 peak.1))) peaks
      (rw (same, is peak.0 peak.1) refl)

onto_parts : (hash : Hash) (d : List ℕ) (k : ℕ) (ds : List (List ℕ))
    → folded_onto hash (folded_onto hash d (take k ds)) (drop k ds) ≡ folded_onto hash d ds
onto_parts hash d zero ds = refl
onto_parts hash d (suc k) [] = refl
onto_parts hash d (suc k) (e ∷ ds) = onto_parts hash (hash (fold_string d e)) k ds

-- inactive ones make no difference where all are folded from the left
pub forward-items : (hash : Hash) (inactive : ℕ) (ds : List (List ℕ)) → folded_forward hash (items hash inactive ds)
    ≡ folded_forward hash ds
forward-items hash zero ds = refl
forward-items hash (suc inactive) [] = ap (λ b. folded_forward hash (cond b [] ([] ∷ []))) (not_zero inactive)
forward-items hash (suc inactive) (d ∷ ds) =
    ap (λ b. folded_forward hash (cond b (d ∷ ds) (folded_forward hash (take (suc inactive) (d ∷ ds))
    ∷ drop (suc inactive) (d ∷ ds)))) (not_zero inactive)
    ∙ onto_parts hash d inactive ds

value_bagged : (hash : Hash) (names : Naming) (over : Over) (elements : Elements) (digest : ℕ → Tree → List ℕ)
    → ((at : ℕ) (t : Tree) → value hash (made_tree over elements at t) ≡ digest at t)
    → (bagging : Bagging) (inactive : ℕ) (peaks : List Located)
    → value hash (bag_of names over elements bagging inactive peaks)
    ≡ bagged hash bagging (items hash inactive (map (λ peak. digest peak.0 peak.1) peaks))
value_bagged hash names over elements digest is BackwardFold inactive peaks =
    value_bag hash names over elements digest is (length peaks) inactive peaks
value_bagged hash names over elements digest is ForwardFold inactive [] = sym (forward-items hash inactive [])
value_bagged hash names over elements digest is ForwardFold inactive (peak ∷ peaks) =
    value_all hash names over elements digest is (length (peak ∷ peaks)) 2 (made_peak over elements peak)
    (digest peak.0 peak.1) peaks (is peak.0 peak.1)
    ∙ sym (forward-items hash inactive (map (λ (p : Located). digest p.0 p.1) (peak ∷ peaks)))

-- the root of what is made is that of its digests
pub value_root : (hash : Hash) (names : Naming) (over : Over) (elements : Elements) (digest : ℕ → Tree → List ℕ)
    → ((at : ℕ) (t : Tree) → value hash (made_tree over elements at t) ≡ digest at t)
    → (bagging : Bagging) (rule : Rule) (leaves inactive : ℕ)
    → value hash (made_root names over elements bagging rule leaves inactive)
    ≡ root_of hash bagging leaves inactive (peak_digests digest (forest_of rule leaves))
unfolding root_of root_string
value_root hash names over elements digest is bagging rule leaves inactive =
    ap (λ bag. hash (root_string bagging leaves inactive bag))
    (value_bagged hash names over elements digest is bagging inactive (peaks_of rule leaves))

-- the root of the list is that of the tree over it
pub value_list : (hash : Hash) (bagging : Bagging) (rule : Rule) (elements : List (List ℕ)) (inactive : ℕ)
    → value hash (list_root bagging rule elements inactive) ≡ tree_root hash bagging rule elements inactive
unfolding tree_root
value_list hash bagging rule elements inactive =
    value_root hash plain_names plain_over (whole elements) (plain_digest hash elements)
    (value_plain hash elements) bagging rule (length elements) inactive
