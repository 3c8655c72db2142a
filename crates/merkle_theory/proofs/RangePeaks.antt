-- Peaks of which some meet a range: what is read of them.
use Rattle.std.proofs.Common.{◌≡◌, ℕ, zero, suc, ◌+◌, ◌<◌, ◌≤◌, Bool, true, false, cond, take, drop, filter, List, []}
use Rattle.std.proofs.Common.{◌∷◌, length, None, Some, refl, ◌∙◌, ap, subst, arith}
use Rattle.std.proofs.lemmas.Bool.{and_from, le-leb, lt-leb}
use Rattle.std.specs.List.{list_all}
use Rattle.std.specs.Prelude.{option_and_then, if◌then◌else◌}
use Rattle.merkle_forest.specs.Forest.{Rule, forest_of}
use Rattle.merkle_forest.specs.Perfect.{IsPairing}
use Rattle.merkle_forest.specs.Hashing.{Hash, fold_string}
use Rattle.merkle_forest.specs.Made.{Made, bytes, value}
use Rattle.merkle_forest.specs.Peaks.{located_from}
use Rattle.merkle_forest.specs.Laws.ForestGrowth.{leaves-forest_of}
use Rattle.merkle_forest.specs.Laws.Peaks.{located_from-end}
use Rattle.merkle_forest.specs.Trees.{Located}
use Rattle.merkle_theory.specs.Ranges.{is_before, is_after}
use Rattle.merkle_theory.specs.RangeCounts.{passing}
use Rattle.merkle_theory.specs.MadeTrees.{Over, Elements}
use Rattle.merkle_theory.specs.MadeRoots.{Naming, Streams, Bagged, given_outer, folded, read_peak, read_back, read_onto, read_group, read_bag}
use Rattle.merkle_theory.specs.Reads.{valued}
use Rattle.merkle_theory.proofs.RangeTrees.{read_some, read_none}
use Rattle.merkle_theory.proofs.Walks.{AllFrom}

-- no peak begins at the leaf count or after it
pub none_from : (rule : Rule) → IsPairing rule → (n first : ℕ) → n ≤ first → located_from first (forest_of rule n) ≡ []
none_from rule pairs n first le = located_from-end (forest_of rule n) first (omega (arith, leaves-forest_of rule pairs n))

pub all_after : (stop first : ℕ) (peaks : List Located) → stop ≤ first → AllFrom first peaks → list_all (is_after stop) peaks ≡ true
all_after stop first [] le all = refl
all_after stop first (peak ∷ peaks) le all =
    and_from _ _ (le-leb stop peak.0 (omega (arith, le, all.0))) (all_after stop first peaks le all.1)

pub not_all_after : (stop : ℕ) (peak : Located) (peaks : List Located) → peak.0 < stop → list_all (is_after stop) (peak ∷ peaks) ≡ false
not_all_after stop peak peaks lt = rw (lt-leb stop peak.0 lt) refl

module _ (hash : Hash) (names : Naming) (over : Over) (elements : Elements) (start stop last : ℕ) where
  abbrev one : Located → Streams → Bagged
  one = read_peak over elements start stop

  abbrev back : ℕ → Located → List Located → Streams → Bagged
  back = read_back names over elements start stop last

  abbrev onto : ℕ → ℕ → Made → List Located → Streams → Bagged
  onto = read_onto names over elements start stop last

  abbrev group : ℕ → ℕ → Made → List Located → Streams → Bagged
  group = read_group names over elements start stop last

  pub back_given : (n : ℕ) (peak next : Located) (peaks : List Located) (streams : Streams) → list_all (is_after stop) (peak ∷ next ∷ peaks) ≡ true
      → back n peak (next ∷ peaks) streams ≡ given_outer streams
  back_given n peak next peaks streams all = rw all refl

  pub back_own_missing : (n : ℕ) (peak next : Located) (peaks : List Located) (streams : Streams)
      → list_all (is_after stop) (peak ∷ next ∷ peaks) ≡ false → valued hash (one peak streams) ≡ None
      → valued hash (back n peak (next ∷ peaks) streams) ≡ None
  back_own_missing n peak next peaks streams some none = rw (some, read_none hash (one peak streams) none) refl

  pub back_others_missing : (n : ℕ) (peak next : Located) (peaks : List Located) (streams more : Streams) (a : List ℕ)
      → list_all (is_after stop) (peak ∷ next ∷ peaks) ≡ false → valued hash (one peak streams) ≡ Some (a, more)
      → valued hash (back (suc n) next peaks more) ≡ None → valued hash (back n peak (next ∷ peaks) streams) ≡ None
  back_others_missing n peak next peaks streams more a some own none =
      let it = read_some hash (one peak streams) a more own in
      rw (some, it.is, read_none hash (back (suc n) next peaks more) none) refl

  pub back_both : (n : ℕ) (peak next : Located) (peaks : List Located) (streams more rest : Streams) (a b : List ℕ)
      → list_all (is_after stop) (peak ∷ next ∷ peaks) ≡ false → valued hash (one peak streams) ≡ Some (a, more)
      → valued hash (back (suc n) next peaks more) ≡ Some (b, rest)
      → valued hash (back n peak (next ∷ peaks) streams) ≡ Some (hash (fold_string a b), rest)
  back_both n peak next peaks streams more rest a b some own others =
      let it = read_some hash (one peak streams) a more own in
      let them = read_some hash (back (suc n) next peaks more) b rest others in
      rw (some, it.is, them.is) (ap (λ x. Some (hash (fold_string x (value hash them.made)), rest)) it.same
      ∙ ap (λ x. Some (hash (fold_string a x), rest)) them.same)

  pub onto_none : (singly n : ℕ) (made : Made) (streams : Streams) → onto singly n made [] streams ≡ Some (made, streams)
  onto_none zero n made streams = refl
  onto_none (suc singly) n made streams = refl

  pub onto_back_missing : (n : ℕ) (made : Made) (peak : Located) (peaks : List Located) (streams : Streams)
      → valued hash (back n peak peaks streams) ≡ None → valued hash (onto 0 n made (peak ∷ peaks) streams) ≡ None
  onto_back_missing n made peak peaks streams none = rw (read_none hash (back n peak peaks streams) none) refl

  pub onto_back : (n : ℕ) (made : Made) (peak : Located) (peaks : List Located) (streams rest : Streams) (a b : List ℕ) → value hash made ≡ a
      → valued hash (back n peak peaks streams) ≡ Some (b, rest)
      → valued hash (onto 0 n made (peak ∷ peaks) streams) ≡ Some (hash (fold_string a b), rest)
  onto_back n made peak peaks streams rest a b same others =
      let them = read_some hash (back n peak peaks streams) b rest others in
      rw them.is (ap (λ x. Some (hash (fold_string x (value hash them.made)), rest)) same
      ∙ ap (λ x. Some (hash (fold_string a x), rest)) them.same)

  pub onto_own_missing : (singly n : ℕ) (made : Made) (peak : Located) (peaks : List Located) (streams : Streams)
      → valued hash (one peak streams) ≡ None → valued hash (onto (suc singly) n made (peak ∷ peaks) streams) ≡ None
  onto_own_missing singly n made peak peaks streams none = rw (read_none hash (one peak streams) none) refl

  -- a step from the left
  pub onto_step : (singly n : ℕ) (made own : Made) (peak : Located) (peaks : List Located) (streams more : Streams)
      → one peak streams ≡ Some (own, more)
      → onto (suc singly) n made (peak ∷ peaks) streams ≡ onto singly (suc n) (folded names 1 n made own) peaks more
  onto_step singly n made own peak peaks streams more is = rw is refl

  pub fold_value : (a b : ℕ) (x y : Made) (d e : List ℕ) → value hash x ≡ d → value hash y ≡ e
      → value hash (folded names a b x y) ≡ hash (fold_string d e)
  fold_value a b x y d e one_is other_is = ap (λ z. hash (fold_string z (value hash y))) one_is ∙ ap (λ z. hash (fold_string d z)) other_is

  pub group_none : (singly n : ℕ) (made : Made) (streams : Streams) → group singly n made [] streams ≡ onto singly n made [] streams
  group_none zero n made streams = refl
  group_none (suc singly) n made streams = refl

  pub group_zero : (n : ℕ) (made : Made) (peaks : List Located) (streams : Streams) → group 0 n made peaks streams ≡ onto 0 n made peaks streams
  group_zero n made [] streams = refl
  group_zero n made (peak ∷ peaks) streams = refl

  pub group_met : (singly n : ℕ) (made : Made) (peak : Located) (peaks : List Located) (streams : Streams) → is_before start peak ≡ false
      → group (suc singly) n made (peak ∷ peaks) streams ≡ onto (suc singly) n made (peak ∷ peaks) streams
  group_met singly n made peak peaks streams met = rw met refl

  pub group_before : (singly n : ℕ) (made : Made) (peak : Located) (peaks : List Located) (streams : Streams) → is_before start peak ≡ true
      → group (suc singly) n made (peak ∷ peaks) streams ≡ group singly (suc n) made peaks streams
  group_before singly n made peak peaks streams before = rw before refl

  abbrev bag : ℕ → List Located → Streams → Bagged
  bag = read_bag names over elements start stop last

  pub bag_none : (singly : ℕ) (streams : Streams) → bag singly [] streams ≡ None
  bag_none zero streams = refl
  bag_none (suc singly) streams = refl

  pub bag_not_given : (singly : ℕ) (peak : Located) (peaks : List Located) (inner : List (List ℕ)) → is_before start peak ≡ true
      → bag (suc singly) (peak ∷ peaks) ([], inner) ≡ None
  bag_not_given singly peak peaks inner before = rw before refl

  pub bag_given : (singly : ℕ) (peak : Located) (peaks : List Located) (d : List ℕ) (outer inner : List (List ℕ)) → is_before start peak ≡ true
      → bag (suc singly) (peak ∷ peaks) (d ∷ outer, inner) ≡ group singly 2 (bytes d) peaks (outer, inner)
  bag_given singly peak peaks d outer inner before = rw before refl

  abbrev later : ℕ → List Located → Made × Streams → Bagged
  later singly peaks x = onto singly 2 x.0 peaks x.1

  bag_met : (singly : ℕ) (peak : Located) (peaks : List Located) (streams : Streams) → is_before start peak ≡ false
      → bag (suc singly) (peak ∷ peaks) streams ≡ option_and_then (later singly peaks) (one peak streams)
  bag_met singly peak peaks streams met =
      ap (λ b.
      cond b (option_and_then (λ x. group singly 2 x.0 peaks x.1) (given_outer streams)) (option_and_then (later singly peaks) (one peak streams))) met

  pub bag_own_missing : (singly : ℕ) (peak : Located) (peaks : List Located) (streams : Streams) → is_before start peak ≡ false
      → one peak streams ≡ None → bag (suc singly) (peak ∷ peaks) streams ≡ None
  bag_own_missing singly peak peaks streams met none =
      bag_met singly peak peaks streams met ∙ ap (option_and_then (later singly peaks)) none

  pub bag_own : (singly : ℕ) (peak : Located) (peaks : List Located) (streams more : Streams) (own : Made) → is_before start peak ≡ false
      → one peak streams ≡ Some (own, more) → bag (suc singly) (peak ∷ peaks) streams ≡ onto singly 2 own peaks more
  bag_own singly peak peaks streams more own met is =
      bag_met singly peak peaks streams met ∙ ap (option_and_then (later singly peaks)) is

-- what holds of a list holds of its parts
pub by_parts : {A : Type 0} (P : A → List A → Type 0) (x y : A) (xs ys : List A) → x ∷ xs ≡ y ∷ ys → P x xs → P y ys
by_parts P x y xs ys is holds =
    let heads : x ≡ y = cc in
    let tails : xs ≡ ys = cc in
    subst (P y) tails (subst (λ z. P z xs) heads holds)

pub take_none : {A : Type 0} (n : ℕ) → ◌≡◌ {A = List A} (take n []) []
take_none zero = refl
take_none (suc n) = refl

pub drop_none : {A : Type 0} (n : ℕ) → ◌≡◌ {A = List A} (drop n []) []
drop_none zero = refl
drop_none (suc n) = refl

passing_of : (b : Bool) (peak : Located) (rest : List Located) → length (cond b (peak ∷ rest) rest) ≡ (if b then 1 else 0) + length rest
passing_of true peak rest = omega arith
passing_of false peak rest = omega arith

-- the first one passes or does not
pub passing_first : (test : Located → Bool) (peak : Located) (peaks : List Located)
    → passing test (peak ∷ peaks) ≡ (if test peak then 1 else 0) + passing test peaks
passing_first test peak peaks = passing_of (test peak) peak (filter test peaks)

pub all_taken : {A : Type 0} (n : ℕ) (xs : List A) → length xs ≤ n → take n xs ≡ xs
all_taken zero [] few = refl
all_taken zero (x ∷ xs) few = absurd (omega (arith, few))
all_taken (suc n) [] few = refl
all_taken (suc n) (x ∷ xs) few = ap (λ ys. x ∷ ys) (all_taken n xs (omega (arith, few)))

-- what is left is no longer than all
pub rest_fits : {A : Type 0} (k : ℕ) (xs : List A) → length (drop k xs) ≤ length xs
rest_fits zero xs = omega arith
rest_fits (suc k) [] = omega arith
rest_fits (suc k) (x ∷ xs) = omega (arith, rest_fits k xs)
