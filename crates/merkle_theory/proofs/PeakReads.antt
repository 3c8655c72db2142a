-- Peaks as they are read one after the other.
use Rattle.std.proofs.Common.{◌≡◌, ◌≤◌, ◌<◌, ℕ, Bool, true, false, cond, List, [], ◌∷◌, ◌++◌, length, map, Option, Some}
use Rattle.std.proofs.Common.{None, option_map, refl, sym, ◌∙◌, ap, subst}
use Rattle.std.proofs.lemmas.Bool.{le-leb, lt-leb}
use Rattle.std.proofs.lemmas.List.{append-nil, append_assoc, length-map}
use Rattle.std.specs.Prelude.{nat_le}
use Rattle.merkle_forest.specs.declared.bagging.Bagging.{Bagging}
use Rattle.merkle_forest.specs.Forest.{Rule, forest_of}
use Rattle.merkle_forest.specs.Laws.Peaks.{located_from-zero}
use Rattle.merkle_forest.specs.Peaks.{located_from}
use Rattle.merkle_forest.specs.Hashing.{Hash, root_of}
use Rattle.merkle_forest.specs.Made.{Made, value}
use Rattle.merkle_theory.specs.MadeRoots.{Naming, peaks_of}
use Rattle.merkle_theory.specs.MadeTrees.{Over}
use Rattle.merkle_theory.specs.MultiReads.{Shown, shown_at, locations_of, both_there, ranked, read_peaks, root_over_peaks}
use Rattle.merkle_theory.specs.MultiReads.{shown_root, ArePeaksRead}
use Rattle.merkle_theory.specs.Plans.{Lookup}
use Rattle.merkle_theory.proofs.PeakBags.{value_over_peaks, read_count}
use Rattle.merkle_theory.proofs.ShownTrees.{none_left, none_right, both_values}

module _ (hash : Hash) where
  -- no peak is left
  pub peaks_end : (reading : Option (List Made)) (old : List (List ℕ)) → reading ≡ Some []
      → ArePeaksRead hash reading old old true
  peaks_end reading old is = ([], ap (option_map (map (value hash))) is, sym (append-nil old))

  pub peak_absent : (one : Option Made) (others : Option (List Made)) → option_map (value hash) one ≡ None
      → ArePeaksRead hash (both_there (λ x xs. x ∷ xs) one others) [] [] false
  peak_absent one others none = none_left (map (value hash)) (λ x xs. x ∷ xs) (value hash) one others none

  pub peak_read : (one : Option Made) (others : Option (List Made)) (d : List ℕ) (old mid new : List (List ℕ))
      (whole : Bool)
      → option_map (value hash) one ≡ Some d → mid ≡ old ++ d ∷ [] → ArePeaksRead hash others mid new whole
      → ArePeaksRead hash (both_there (λ x xs. x ∷ xs) one others) old new whole
  peak_read one others d old mid new true is more (ds, rest, grown) = (
    d ∷ ds,
    both_values (map (value hash)) (λ x xs. x ∷ xs) (value hash) (map (value hash)) (λ a bs. a ∷ bs) one others d ds
        (λ x xs. refl) is rest,
    grown ∙ ap (λ es. es ++ ds) more ∙ append_assoc old (d ∷ []) ds,
  )
  peak_read one others d old mid new false is more rest =
      none_right (map (value hash)) (λ x xs. x ∷ xs) (map (value hash)) one others rest

  some_is : {A : Type 0} (x y : A) → Some x ≡ Some y → x ≡ y
  some_is x y is = cc

  pub no_reading : {A B : Type 0} (f : A → B) (reading : Option A) → option_map f reading ≡ None → reading ≡ None
  no_reading f None is = refl
  no_reading f (Some x) is = absurd cc

  module _ (names : Naming) (over : Over) (bagging : Bagging) (rule : Rule) (leaves inactive : ℕ) (shown : Shown)
      (known : Lookup) where
    abbrev root : Option Made
    root = shown_root names over bagging rule leaves inactive shown known

    abbrev reading : Option (List Made)
    reading = read_peaks over (shown_at shown) (locations_of shown) known (peaks_of rule leaves)

    root_test : (b : Bool) → nat_le inactive (length (peaks_of rule leaves)) ≡ b
        → root ≡ cond b (option_map (root_over_peaks names bagging leaves inactive) reading) None
    root_test b is = rw is refl

    if_none : (b : Bool) → reading ≡ None
        → cond b (option_map (root_over_peaks names bagging leaves inactive) reading) None ≡ None
    if_none true none = ap (option_map (root_over_peaks names bagging leaves inactive)) none
    if_none false none = refl

    -- a digest is missing
    pub root_absent : (old new : List (List ℕ)) → ArePeaksRead hash reading old new false
        → option_map (value hash) root ≡ None
    root_absent old new none =
        ap (option_map (value hash)) (root_test (nat_le inactive (length (peaks_of rule leaves))) refl
        ∙ if_none (nat_le inactive (length (peaks_of rule leaves))) (no_reading (map (value hash)) reading none))

    read_so_many : (got : Option (List Made)) (ds : List (List ℕ)) → reading ≡ got
        → option_map (map (value hash)) got ≡ Some ds
        → length ds ≡ length (peaks_of rule leaves)
    read_so_many None ds same is = absurd cc
    read_so_many (Some xs) ds same is =
        ap length (sym (some_is (map (value hash) xs) ds is))
        ∙ (length-map xs (value hash) ∙ read_count over (shown_at shown) (locations_of shown) known
        (peaks_of rule leaves) xs same)

    -- as many digests as peaks
    pub so_many : (new : List (List ℕ)) → ArePeaksRead hash reading [] new true
        → length new ≡ length (peaks_of rule leaves)
    so_many new (ds, is, grown) = ap length grown ∙ read_so_many reading ds refl is

    -- fewer peaks than inactive ones
    pub root_refused : length (peaks_of rule leaves) < inactive → option_map (value hash) root ≡ None
    root_refused less = ap (option_map (value hash)) (root_test false (lt-leb inactive (length
        (peaks_of rule leaves)) less))

    rooted : (got : Option (List Made)) (ds : List (List ℕ)) → option_map (map (value hash)) got ≡ Some ds
        → option_map (value hash) (option_map (root_over_peaks names bagging leaves inactive) got)
        ≡ Some (root_of hash bagging leaves inactive ds)
    rooted None ds is = absurd cc
    rooted (Some xs) ds is =
        ap (λ d. Some d) (value_over_peaks hash names bagging leaves inactive xs
        ∙ ap (root_of hash bagging leaves inactive) (some_is (map (value hash) xs) ds is))

    -- the root over all peaks
    pub root_there : (new : List (List ℕ)) → ArePeaksRead hash reading [] new true
        → inactive ≤ length (peaks_of rule leaves)
        → option_map (value hash) root ≡ Some (root_of hash bagging leaves inactive new)
    root_there new (ds, is, grown) enough =
        ap (option_map (value hash)) (root_test true (le-leb inactive (length (peaks_of rule leaves)) enough))
        ∙ rooted reading ds is ∙ ap (λ es. Some (root_of hash bagging leaves inactive es)) (sym grown)

-- what was read from the first peak on
pub peaks_from_start : {D : Type 0} (hash : Hash) (encoding : D
    → List ℕ) (over : Over) (shown : Shown) (needed : List ℕ) (rule : Rule)
    (ds es : List D) (n m : ℕ) (none new : List (List ℕ)) (whole b : Bool) → ds ≡ es → n ≡ m → none ≡ [] → whole ≡ b
    → ArePeaksRead hash (read_peaks over (shown_at shown) (locations_of shown) (ranked needed (map encoding ds))
    (located_from 0 (forest_of rule n)))
    none new whole
    → ArePeaksRead hash (read_peaks over (shown_at shown) (locations_of shown) (ranked needed (map encoding es))
    (peaks_of rule m)) [] new b
peaks_from_start hash encoding over shown needed rule ds es n m none new whole b same count empty is read =
    let Peaks : List (List ℕ) → Type 0 = λ old. ArePeaksRead hash (read_peaks over (shown_at shown) (locations_of shown)
    (ranked needed (map encoding es)) (peaks_of rule m)) old new b in
    let all = located_from-zero (forest_of rule n) ∙ ap (peaks_of rule) count in
    subst Peaks empty
    (subst (λ ps. ArePeaksRead hash (read_peaks over (shown_at shown) (locations_of shown) (ranked needed
    (map encoding es)) ps) none new b) all
    (subst (λ xs. ArePeaksRead hash (read_peaks over (shown_at shown) (locations_of shown) (ranked needed
    (map encoding xs))
    (located_from 0 (forest_of rule n))) none new b) same
    (subst (λ w. ArePeaksRead hash (read_peaks over (shown_at shown) (locations_of shown) (ranked needed
    (map encoding ds))
    (located_from 0 (forest_of rule n))) none new w) is read)))
