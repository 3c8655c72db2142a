-- The digest that a proof of a range leads to is the same whatever its sites are called.
use Rattle.std.proofs.Common.{◌≡◌, ℕ, zero, suc, ◌+◌, ltb, ◌||◌, ◌^◌, Bool, true, false, cond, List, [], ◌∷◌, ◌++◌}
use Rattle.std.proofs.Common.{length, take, drop, Option, None, Some, option_map, option_and_then, refl, ◌∙◌, ap}
use Rattle.std.specs.List.{list_all}
use Rattle.merkle_forest.specs.declared.bagging.Bagging.{Bagging}
use Rattle.merkle_forest.specs.Forest.{Rule}
use Rattle.merkle_forest.specs.Hashing.{Hash, number, domain_of, inactive_count}
use Rattle.merkle_forest.specs.Made.{Made, value}
use Rattle.merkle_forest.specs.Trees.{Located}
use Rattle.merkle_theory.specs.MadeRoots.{Naming, folded, root_made, from_left, peaks_of, Streams, Bagged, given_outer}
use Rattle.merkle_theory.specs.MadeRoots.{read_peak, read_back, read_onto, read_group, read_bag, used, read_root}
use Rattle.merkle_theory.specs.MadeTrees.{Over, Elements}
use Rattle.merkle_theory.specs.Ranges.{is_before, is_after}
use Rattle.merkle_theory.specs.RangeCounts.{range_outer}
use Rattle.merkle_theory.specs.Reads.{range_root}
use Rattle.merkle_theory.specs.MadeTrees.{from}

module _ (hash : Hash) where
  -- two that are made have one digest
  abbrev Same : Made → Made → Type 0
  Same one other = value hash one ≡ value hash other

  -- what is read has one digest, and the same digests are left
  abbrev Alike : Bagged → Bagged → Type 0
  Alike None None = Unit {0}
  Alike (Some x) (Some y) = Same x.0 y.0 × (x.1 ≡ y.1)
  Alike x y = ⊥

  itself : (got : Bagged) → Alike got got
  itself None = tt
  itself (Some x) = (refl, refl)

  choose : (test : Bool) (a b c d : Bagged) → Alike a b → Alike c d → Alike (cond test a c) (cond test b d)
  choose test a b c d on off = elim test as (λ t. Alike (cond t a c) (cond t b d)) [ true ↦ on | false ↦ off ]

  then_alike : (got : Bagged) (f g : Made × Streams → Bagged) → ((x : Made × Streams) → Alike (f x) (g x))
      → Alike (option_and_then f got) (option_and_then g got)
  then_alike None f g each = tt
  then_alike (Some x) f g each = each x

  map_alike : (one other : Bagged) (f g : Made → Made) → ((x y : Made) → Same x y → Same (f x) (g y)) → Alike one other
      → Alike (option_map (λ y. (f y.0, y.1)) one) (option_map (λ y. (g y.0, y.1)) other)
  map_alike None None f g each is = tt
  map_alike None (Some y) f g each is = absurd is
  map_alike (Some x) None f g each is = absurd is
  map_alike (Some x) (Some y) f g each is = (each x.0 y.0 is.0, is.1)

  module _ (names others : Naming) (over : Over) (elements : Elements) (start stop last : ℕ) where
    folds : (n m : ℕ) (x y : Made) (a b : Made) → Same a b → Same x y → Same (folded names n m a x) (folded others n m b y)
    folds n m x y a b one two =
        ap (λ v. hash (v ++ value hash x)) one ∙ ap (λ v. hash (value hash b ++ v)) two

    back_alike : (n : ℕ) (peak : Located) (peaks : List Located) (streams : Streams)
        → Alike (read_back names over elements start stop last n peak peaks streams) (read_back others over elements start stop last n peak peaks streams)
    back_alike n peak [] streams = itself (read_peak over elements start stop peak streams)
    back_alike n peak (next ∷ peaks) streams =
        choose (list_all (is_after stop) (peak ∷ next ∷ peaks)) (given_outer streams) (given_outer streams) _ _ (itself (given_outer streams))
        (then_alike (read_peak over elements start stop peak streams) _ _
        (λ x. map_alike (read_back names over elements start stop last (suc n) next peaks x.1)
        (read_back others over elements start stop last (suc n) next peaks x.1) (λ y. folded names n last x.0 y) (λ y. folded others n last x.0 y)
        (λ y z same. folds n last y z x.0 x.0 refl same) (back_alike (suc n) next peaks x.1)))

    onto_alike : (inactive n : ℕ) (first second : Made) (peaks : List Located) (streams : Streams) → Same first second
        → Alike (read_onto names over elements start stop last inactive n first peaks streams)
        (read_onto others over elements start stop last inactive n second peaks streams)
    onto_alike inactive n first second [] streams same = (same, refl)
    onto_alike zero n first second (peak ∷ peaks) streams same =
        map_alike (read_back names over elements start stop last n peak peaks streams) (read_back others over elements start stop last n peak peaks streams)
        (λ y. folded names 1 last first y) (λ y. folded others 1 last second y) (λ y z alike. folds 1 last y z first second same alike)
        (back_alike n peak peaks streams)
    onto_alike (suc inactive) n first second (peak ∷ peaks) streams same =
        then_alike (read_peak over elements start stop peak streams) _ _
        (λ x. onto_alike inactive (suc n) (folded names 1 n first x.0) (folded others 1 n second x.0) peaks x.1
        (folds 1 n x.0 x.0 first second same refl))

    group_alike : (inactive n : ℕ) (first : Made) (peaks : List Located) (streams : Streams)
        → Alike (read_group names over elements start stop last inactive n first peaks streams)
        (read_group others over elements start stop last inactive n first peaks streams)
    group_alike inactive n first [] streams = (refl, refl)
    group_alike zero n first (peak ∷ peaks) streams = onto_alike 0 n first first (peak ∷ peaks) streams refl
    group_alike (suc inactive) n first (peak ∷ peaks) streams =
        choose (is_before start peak) _ _ _ _ (group_alike inactive (suc n) first peaks streams)
        (onto_alike (suc inactive) n first first (peak ∷ peaks) streams refl)

    bag_alike : (inactive : ℕ) (peaks : List Located) (streams : Streams)
        → Alike (read_bag names over elements start stop last inactive peaks streams) (read_bag others over elements start stop last inactive peaks streams)
    bag_alike inactive [] streams = tt
    bag_alike zero (peak ∷ peaks) streams = back_alike 1 peak peaks streams
    bag_alike (suc inactive) (peak ∷ peaks) streams =
        choose (is_before start peak) _ _ _ _
        (then_alike (given_outer streams) _ _ (λ x. group_alike inactive 2 x.0 peaks x.1))
        (then_alike (read_peak over elements start stop peak streams) _ _ (λ x. onto_alike inactive 2 x.0 x.0 peaks x.1 refl))

  root_alike : (names others : Naming) (bagging : Bagging) (leaves inactive : ℕ) (one other : Bagged) → Alike one other
      → option_map (value hash) (option_map (root_made names bagging leaves inactive) (option_and_then used one))
      ≡ option_map (value hash) (option_map (root_made others bagging leaves inactive) (option_and_then used other))
  root_alike names others bagging leaves inactive None None is = refl
  root_alike names others bagging leaves inactive None (Some y) is = absurd is
  root_alike names others bagging leaves inactive (Some x) None is = absurd is
  root_alike names others bagging leaves inactive (Some (x, ([], []))) (Some (y, ([], []))) is =
      ap (λ v. Some (hash (number leaves ++ ((domain_of bagging ∷ inactive_count inactive) ++ v)))) is.0
  root_alike names others bagging leaves inactive (Some (x, ([], []))) (Some (y, ([], (e ∷ es)))) is =
      absurd (let clash : ◌≡◌ {A = List (List ℕ)} [] (e ∷ es) = ap (λ (s : Streams). s.1) is.1 in cc)
  root_alike names others bagging leaves inactive (Some (x, ([], []))) (Some (y, ((e ∷ es), inner))) is =
      absurd (let clash : ◌≡◌ {A = List (List ℕ)} [] (e ∷ es) = ap (λ (s : Streams). s.0) is.1 in cc)
  root_alike names others bagging leaves inactive (Some (x, ([], (d ∷ ds)))) (Some (y, ([], []))) is =
      absurd (let clash : ◌≡◌ {A = List (List ℕ)} (d ∷ ds) [] = ap (λ (s : Streams). s.1) is.1 in cc)
  root_alike names others bagging leaves inactive (Some (x, ([], (d ∷ ds)))) (Some (y, ([], (e ∷ es)))) is = refl
  root_alike names others bagging leaves inactive (Some (x, ([], (d ∷ ds)))) (Some (y, ((e ∷ es), inner))) is = refl
  root_alike names others bagging leaves inactive (Some (x, ((d ∷ ds), rest))) (Some (y, ([], []))) is =
      absurd (let clash : ◌≡◌ {A = List (List ℕ)} (d ∷ ds) [] = ap (λ (s : Streams). s.0) is.1 in cc)
  root_alike names others bagging leaves inactive (Some (x, ((d ∷ ds), rest))) (Some (y, ([], (e ∷ es)))) is = refl
  root_alike names others bagging leaves inactive (Some (x, ((d ∷ ds), rest))) (Some (y, ((e ∷ es), inner))) is = refl

  test_same : (test : Bool) (a b : Option Made) → option_map (value hash) a ≡ option_map (value hash) b
      → option_map (value hash) (cond test None a) ≡ option_map (value hash) (cond test None b)
  test_same true a b same = refl
  test_same false a b same = same

  some_same : (test : Bool) (a b : Option Made) → option_map (value hash) a ≡ option_map (value hash) b
      → option_map (value hash) (cond test a None) ≡ option_map (value hash) (cond test b None)
  some_same true a b same = same
  some_same false a b same = refl

  pub range_alike : (names others : Naming) (over : Over) (bagging : Bagging) (rule : Rule) (leaves inactive start : ℕ) (elements digests : List (List ℕ))
      → option_map (value hash) (range_root names over bagging rule leaves inactive start elements digests)
      ≡ option_map (value hash) (range_root others over bagging rule leaves inactive start elements digests)
  range_alike names others over bagging rule leaves inactive start elements digests =
      let stop : ℕ = start + length elements in
      let peaks : List Located = peaks_of rule leaves in
      let outer : ℕ = range_outer bagging start stop inactive peaks in
      let streams : Streams = (take outer digests, drop outer digests) in
      let last : ℕ = length peaks in
      let left : ℕ = from_left bagging inactive last in
      some_same (ltb 0 (length elements)) (read_root names over bagging rule leaves inactive start stop (from start elements) outer digests)
      (read_root others over bagging rule leaves inactive start stop (from start elements) outer digests)
      (test_same (ltb (2 ^ 62) leaves || (ltb last inactive || ltb leaves stop)) _ _
      (root_alike names others bagging leaves inactive (read_bag names over (from start elements) start stop last left peaks streams)
      (read_bag others over (from start elements) start stop last left peaks streams)
      (bag_alike names others over (from start elements) start stop last left peaks streams)))
