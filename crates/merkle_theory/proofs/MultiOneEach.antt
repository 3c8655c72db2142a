-- One string a site, in the root that a proof of several elements leads to.
use Rattle.std.proofs.Common.{◌≡◌, inl, inr, ℕ, zero, suc, ◌+◌, ◌&&◌, List, [], ◌∷◌, length, Option, None, Some}
use Rattle.std.proofs.Common.{option_map, IfSome, refl, ap, arith}
use Rattle.std.specs.Prelude.{◌==◌, nat_le}
use Rattle.merkle_forest.specs.declared.bagging.Bagging.{Bagging}
use Rattle.merkle_forest.specs.Forest.{Tree, leaf, branch, height, leaf_count, Rule, forest_of}
use Rattle.merkle_forest.specs.Hashing.{Hash, number, domain_of, inactive_count}
use Rattle.merkle_forest.specs.Made.{Made, bytes, both, value, strings}
use Rattle.merkle_forest.specs.Perfect.{IsPairing}
use Rattle.merkle_forest.specs.Trees.{Located}
use Rattle.merkle_theory.specs.Laws.MadeBags.{map_good}
use Rattle.merkle_theory.specs.Laws.MadeTrees.{choose}
use Rattle.merkle_theory.specs.MadeRoots.{folded, from_left, peaks_of}
use Rattle.merkle_theory.specs.MadeTrees.{Elements, plain_over, leaf_made, branch_made}
use Rattle.merkle_theory.specs.Multi.{is_named}
use Rattle.merkle_theory.specs.MultiReads.{Shown, locations_of, shown_at, ranked, both_there, read_shown, read_peaks}
use Rattle.merkle_theory.specs.MultiReads.{back_of, onto_of, as_bag, root_over_peaks, shown_root, can_be_shown}
use Rattle.merkle_theory.specs.MultiReads.{needed_positions, multi_root}
use Rattle.merkle_theory.specs.OneEach.{OneEach}
use Rattle.merkle_theory.specs.Plans.{Lookup}
use Rattle.merkle_theory.specs.Soundness.{plain_names}
use Rattle.merkle_theory.proofs.OneEach.{Partial, nothing}
use Rattle.merkle_theory.proofs.OneEachBag.{Apart, Back, Onto}
use Rattle.merkle_theory.proofs.OneEachRoot.{Good, apart_located, back_good, from_peak, root_good}
use Rattle.merkle_theory.proofs.ShownTruth.{both_good}

-- trees at these places, of which parts may be given
abbrev pub ArePartial : List Located → List Made → Type 0
ArePartial [] [] = Unit {0}
ArePartial (peak ∷ peaks) (x ∷ xs) = Partial peak.0 peak.1 x × ArePartial peaks xs
ArePartial [] (x ∷ xs) = ⊥
ArePartial (peak ∷ peaks) [] = ⊥

same_count : (peaks : List Located) (xs : List Made) → ArePartial peaks xs → length peaks ≡ length xs
same_count [] [] are = refl
same_count (peak ∷ peaks) (x ∷ xs) are = ap suc (same_count peaks xs are.1)
same_count [] (x ∷ xs) are = absurd are
same_count (peak ∷ peaks) [] are = absurd are

module _ (hash : Hash) (last : ℕ) where
  back_list : (n : ℕ) (peak : Located) (peaks : List Located) (x : Made) (xs : List Made)
      → Partial peak.0 peak.1 x → ArePartial peaks xs
      → Back hash last n peak peaks (back_of plain_names last n x xs)
  back_list n peak [] x [] one are = one
  back_list n peak (next ∷ peaks) x (y ∷ xs) one are =
      inr (x, back_of plain_names last (suc n) y xs, one, back_list (suc n) next peaks y xs are.0 are.1, refl)
  back_list n peak [] x (y ∷ xs) one are = absurd are
  back_list n peak (next ∷ peaks) x [] one are = absurd are

  onto_list : (k n : ℕ) (first : Made) (peaks : List Located) (xs : List Made) → ArePartial peaks xs
      → Onto hash last k n first peaks (onto_of plain_names last k n first xs)
  onto_list k n first [] [] are = refl
  onto_list zero n first (peak ∷ peaks) (x ∷ xs) are =
      (back_of plain_names last n x xs, back_list n peak peaks x xs are.0 are.1, refl)
  onto_list (suc k) n first (peak ∷ peaks) (x ∷ xs) are =
      (x, are.0, onto_list k (suc n) (folded plain_names 1 n first x) peaks xs are.1)
  onto_list k n first [] (x ∷ xs) are = absurd are
  onto_list k n first (peak ∷ peaks) [] are = absurd are

  pub bag_list : (k : ℕ) (peaks : List Located) (xs : List Made) → Apart peaks → length peaks ≡ last → ArePartial peaks xs
      → Good hash last (as_bag plain_names last k xs)
  bag_list k [] [] apart total are = (
    (λ s x y here there. absurd (nothing (s, x) here)),
    (λ s u here. absurd
        (nothing (s, u) here)),
  )
  bag_list zero (peak ∷ peaks) (x ∷ xs) apart total are =
      back_good hash last 1 peak peaks (back_of plain_names last 1 x xs) apart
      (back_list 1 peak peaks x xs are.0 are.1)
  bag_list (suc k) (peak ∷ peaks) (x ∷ xs) apart total are =
      from_peak hash last k peak peaks x (onto_of plain_names last k 2 x xs) apart (omega (arith, total)) are.0
      (onto_list k 2 x peaks xs are.1)
  bag_list k [] (x ∷ xs) apart total are = absurd are
  bag_list k (peak ∷ peaks) [] apart total are = absurd are

module _ (claimed : Elements) (locations : List ℕ) (known : Lookup) where
  given_partial : (at : ℕ) (t : Tree) (o : Option (List ℕ)) → IfSome (option_map bytes o) (Partial at t)
  given_partial at t None = tt
  given_partial at (leaf p) (Some d) = inl (d, refl)
  given_partial at (branch p left right) (Some d) = inl (d, refl)

  shown_partial : (at : ℕ) (t : Tree) → IfSome (read_shown plain_over claimed locations known at t) (Partial at t)
  shown_partial at (leaf p) =
      choose (λ got. IfSome got (Partial at (leaf p))) (is_named locations (at, leaf p)) (Some (leaf_made p
      (claimed at))) (option_map bytes (known p))
      (λ is. inr (claimed at, refl)) (λ is. given_partial at (leaf p) (known p))
  shown_partial at (branch p left right) =
      choose (λ got. IfSome got (Partial at (branch p left right))) (is_named locations (at, branch p left right))
      (both_there (branch_made plain_over at (height (branch p left right)) p)
      (read_shown plain_over claimed locations known at left)
      (read_shown plain_over claimed locations known (at + leaf_count left) right)) (option_map bytes (known p))
      (λ is. both_good (Partial at left) (Partial (at + leaf_count left) right) (Partial at (branch p left right))
      (branch_made plain_over at (height (branch p left right)) p)
      (read_shown plain_over claimed locations known at left)
      (read_shown plain_over claimed locations known (at + leaf_count left) right) (shown_partial at left)
      (shown_partial (at + leaf_count left) right)
      (λ x y one other. inr (x, y, one, other, refl)))
      (λ is. given_partial at (branch p left right) (known p))

  peaks_partial : (peaks : List Located)
      → IfSome (read_peaks plain_over claimed locations known peaks) (ArePartial peaks)
  peaks_partial [] = tt
  peaks_partial (peak ∷ peaks) =
      both_good (Partial peak.0 peak.1) (ArePartial peaks) (ArePartial (peak ∷ peaks)) (λ x xs. x ∷ xs)
      (read_shown plain_over claimed locations known peak.0 peak.1)
      (read_peaks plain_over claimed locations known peaks)
      (shown_partial peak.0 peak.1) (peaks_partial peaks) (λ x xs one others. (one, others))

pub many_one : (hash : Hash) (bagging : Bagging) (rule : Rule) → IsPairing rule
    → (leaf_total inactive : ℕ) (shown : Shown) (digests : List (List ℕ))
    → IfSome (multi_root plain_names plain_over bagging rule leaf_total inactive shown digests) (λ made. OneEach
    (strings hash made))
many_one hash bagging rule pairs leaf_total inactive shown digests =
    let locations = locations_of shown in
    let needed = needed_positions rule leaf_total locations in
    let known = ranked needed digests in
    let peaks = peaks_of rule leaf_total in
    let reading = read_peaks plain_over (shown_at shown) locations known peaks in
    choose (λ got. IfSome got (λ made. OneEach (strings hash made))) (can_be_shown leaf_total locations &&
    (length digests == length needed))
    (shown_root plain_names plain_over bagging rule leaf_total inactive shown known) None
    (λ is. choose (λ got. IfSome got (λ made. OneEach (strings hash made))) (nat_le inactive (length peaks))
    (option_map (root_over_peaks plain_names bagging leaf_total inactive) reading) None
    (λ enough. map_good (ArePartial peaks) (λ made. OneEach (strings hash made))
    (root_over_peaks plain_names bagging leaf_total inactive) reading (peaks_partial
    (shown_at shown) locations known peaks)
    (λ xs are.
    let bag = as_bag plain_names (length xs) (from_left bagging inactive (length xs)) xs in
    root_good hash (length xs) (value hash (both (bytes (number leaf_total)) (both (bytes
    (domain_of bagging ∷ inactive_count inactive)) bag))) bag
    (bag_list hash (length xs) (from_left bagging inactive (length xs)) peaks xs
    (apart_located rule pairs leaf_total (forest_of rule leaf_total) (λ first node stands. stands))
    (same_count peaks xs are) are)))
    (λ other. tt))
    (λ other. tt)
