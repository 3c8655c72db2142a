-- Peaks as one, as claimed and as they are there.
use Rattle.std.proofs.Common.{◌≡◌, ℕ, zero, suc, List, [], ◌∷◌, length, map, refl, sym, ◌∙◌, ap}
use Rattle.merkle_forest.specs.Hashing.{Hash}
use Rattle.merkle_forest.specs.Laws.Matching.{Matches, Agrees}
use Rattle.merkle_forest.specs.Made.{Made, both, value}
use Rattle.merkle_forest.specs.Trees.{Located}
use Rattle.merkle_theory.specs.Laws.MadeTrees.{Sized}
use Rattle.merkle_theory.specs.MadeRoots.{Naming, folded, made_peak, made_back, made_onto, made_bag}
use Rattle.merkle_theory.specs.MadeTrees.{Over, Elements}
use Rattle.merkle_theory.specs.MultiReads.{back_of, onto_of, as_bag}

-- a list's bag is that of its peaks
module _ (names : Naming) (over : Over) (elements : Elements) (last : ℕ) where
  abbrev pub peaks_made : List Located → List Made
  peaks_made peaks = map (made_peak over elements) peaks

  back_same : (n : ℕ) (peak : Located) (peaks : List Located)
      → back_of names last n (made_peak over elements peak) (peaks_made peaks)
      ≡ made_back names over elements last n peak peaks
  back_same n peak [] = refl
  back_same n peak (next ∷ peaks) = ap (folded names n last (made_peak over elements peak)) (back_same
      (suc n) next peaks)

  onto_same : (k n : ℕ) (first : Made) (peaks : List Located)
      → onto_of names last k n first (peaks_made peaks) ≡ made_onto names over elements last k n first peaks
  onto_same k n first [] = refl
  onto_same zero n first (peak ∷ peaks) = ap (folded names 1 last first) (back_same n peak peaks)
  onto_same (suc k) n first (peak ∷ peaks) = onto_same k (suc n) (folded names 1 n first
      (made_peak over elements peak)) peaks

  pub bag_same : (k : ℕ) (peaks : List Located)
      → as_bag names last k (peaks_made peaks) ≡ made_bag names over elements last k peaks
  bag_same k [] = refl
  bag_same zero (peak ∷ peaks) = back_same 1 peak peaks
  bag_same (suc k) (peak ∷ peaks) = onto_same k 2 (made_peak over elements peak) peaks

module _ (hash : Hash) (size : ℕ) (hash_sized : (xs : List ℕ) → length (hash xs) ≡ size) (names : Naming) where
  -- the digests of both have one size, and the first has the form of the second
  pub record IsAlike (x y : Made) : Type 0 where
    pub sized : Sized hash size x
    pub real_sized : Sized hash size y
    pub matches : Matches hash x y

  abbrev pub AreAlike : List Made → List Made → Type 0
  AreAlike [] [] = Unit {0}
  AreAlike (x ∷ xs) (y ∷ ys) = IsAlike x y × AreAlike xs ys
  AreAlike [] (y ∷ ys) = ⊥
  AreAlike (x ∷ xs) [] = ⊥

  abbrev pub AllAgree : List Made → List Made → Type 0
  AllAgree [] [] = Unit {0}
  AllAgree (x ∷ xs) (y ∷ ys) = Agrees hash x y × AllAgree xs ys
  AllAgree [] (y ∷ ys) = ⊥
  AllAgree (x ∷ xs) [] = ⊥

  folded_alike : (a b : ℕ) (x y c d : Made) → IsAlike x c → IsAlike y d
      → IsAlike (folded names a b x y) (folded names a b c d)
  folded_alike a b x y c d one other = record {
    sized = hash_sized (value hash (both x y));
    real_sized = hash_sized (value hash (both c d));
    matches = (refl, λ same. (one.sized ∙ sym one.real_sized, one.matches, other.matches));
  }

  module _ (last : ℕ) where
    back_alike : (n : ℕ) (x y : Made) (xs ys : List Made) → IsAlike x y → AreAlike xs ys
        → IsAlike (back_of names last n x xs) (back_of names last n y ys)
    back_alike n x y [] [] one rest = one
    back_alike n x y (a ∷ xs) (b ∷ ys) one rest =
        folded_alike n last x (back_of names last (suc n) a xs) y (back_of names last (suc n) b ys) one (back_alike
        (suc n) a b xs ys rest.0 rest.1)
    back_alike n x y [] (b ∷ ys) one rest = absurd rest
    back_alike n x y (a ∷ xs) [] one rest = absurd rest

    onto_alike : (k n : ℕ) (x y : Made) (xs ys : List Made) → IsAlike x y → AreAlike xs ys
        → IsAlike (onto_of names last k n x xs) (onto_of names last k n y ys)
    onto_alike k n x y [] [] one rest = one
    onto_alike zero n x y (a ∷ xs) (b ∷ ys) one rest =
        folded_alike 1 last x (back_of names last n a xs) y (back_of names last n b ys) one
        (back_alike n a b xs ys rest.0 rest.1)
    onto_alike (suc k) n x y (a ∷ xs) (b ∷ ys) one rest =
        onto_alike k (suc n) (folded names 1 n x a) (folded names 1 n y b) xs ys
        (folded_alike 1 n x a y b one rest.0) rest.1
    onto_alike k n x y [] (b ∷ ys) one rest = absurd rest
    onto_alike k n x y (a ∷ xs) [] one rest = absurd rest

    back_agrees : (n : ℕ) (x y : Made) (xs ys : List Made) → AreAlike xs ys
        → Agrees hash (back_of names last n x xs) (back_of names last n y ys)
        → Agrees hash x y × AllAgree xs ys
    back_agrees n x y [] [] rest agrees = (agrees, tt)
    back_agrees n x y (a ∷ xs) (b ∷ ys) rest agrees = (agrees.1.0, back_agrees (suc n) a b xs ys rest.1 agrees.1.1)
    back_agrees n x y [] (b ∷ ys) rest agrees = absurd rest
    back_agrees n x y (a ∷ xs) [] rest agrees = absurd rest

    onto_agrees : (k n : ℕ) (x y : Made) (xs ys : List Made) → AreAlike xs ys
        → Agrees hash (onto_of names last k n x xs) (onto_of names last k n y ys)
        → Agrees hash x y × AllAgree xs ys
    onto_agrees k n x y [] [] rest agrees = (agrees, tt)
    onto_agrees zero n x y (a ∷ xs) (b ∷ ys) rest agrees = (agrees.1.0, back_agrees n a b xs ys rest.1 agrees.1.1)
    onto_agrees (suc k) n x y (a ∷ xs) (b ∷ ys) rest agrees =
        let all = onto_agrees k (suc n) (folded names 1 n x a) (folded names 1 n y b) xs ys rest.1 agrees in
        (all.0.1.0, (all.0.1.1, all.1))
    onto_agrees k n x y [] (b ∷ ys) rest agrees = absurd rest
    onto_agrees k n x y (a ∷ xs) [] rest agrees = absurd rest

    -- bags of peaks that are alike match, and where they agree the peaks do
    pub bag_matches : (k : ℕ) (xs ys : List Made) → AreAlike xs ys
        → Matches hash (as_bag names last k xs) (as_bag names last k ys)
    bag_matches k [] [] all = tt
    bag_matches zero (x ∷ xs) (y ∷ ys) all = (back_alike 1 x y xs ys all.0 all.1).matches
    bag_matches (suc k) (x ∷ xs) (y ∷ ys) all = (onto_alike k 2 x y xs ys all.0 all.1).matches
    bag_matches k [] (y ∷ ys) all = absurd all
    bag_matches k (x ∷ xs) [] all = absurd all

    pub bag_agrees : (k : ℕ) (xs ys : List Made) → AreAlike xs ys
        → Agrees hash (as_bag names last k xs) (as_bag names last k ys) → AllAgree xs ys
    bag_agrees k [] [] all agrees = tt
    bag_agrees zero (x ∷ xs) (y ∷ ys) all agrees = back_agrees 1 x y xs ys all.1 agrees
    bag_agrees (suc k) (x ∷ xs) (y ∷ ys) all agrees = onto_agrees k 2 x y xs ys all.1 agrees
    bag_agrees k [] (y ∷ ys) all agrees = absurd all
    bag_agrees k (x ∷ xs) [] all agrees = absurd all

  -- how long their digests are
  pub bag_long : (last k other m : ℕ) (xs ys : List Made) → AreAlike xs ys
      → length (value hash (as_bag names last k xs)) ≡ length (value hash (as_bag names other m ys))
  bag_long last k other m [] [] all = refl
  bag_long last zero other zero (x ∷ xs) (y ∷ ys) all =
      (back_alike last 1 x y xs ys all.0 all.1).sized ∙ sym (back_alike other 1 x y xs ys all.0 all.1).real_sized
  bag_long last zero other (suc m) (x ∷ xs) (y ∷ ys) all =
      (back_alike last 1 x y xs ys all.0 all.1).sized ∙ sym (onto_alike other m 2 x y xs ys all.0 all.1).real_sized
  bag_long last (suc k) other zero (x ∷ xs) (y ∷ ys) all =
      (onto_alike last k 2 x y xs ys all.0 all.1).sized ∙ sym (back_alike other 1 x y xs ys all.0 all.1).real_sized
  bag_long last (suc k) other (suc m) (x ∷ xs) (y ∷ ys) all =
      (onto_alike last k 2 x y xs ys all.0 all.1).sized ∙ sym (onto_alike other m 2 x y xs ys all.0 all.1).real_sized
  bag_long last k other m [] (y ∷ ys) all = absurd all
  bag_long last k other m (x ∷ xs) [] all = absurd all
