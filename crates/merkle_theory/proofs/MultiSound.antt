-- Where a proof of several elements leads to the root of a list, what it shows is true of the list, or strings collide.
use Rattle.std.proofs.Common.{◌⊎◌, ◌≡◌, inl, inr, ⊎_elim, ℕ, zero, suc}
use Rattle.std.proofs.Common.{◌<◌, ◌≤◌, ◌^◌, Bool, true, false, ◌&&◌, ◌||◌, cond}
use Rattle.std.proofs.Common.{List, [], ◌∷◌, ◌++◌, length, drop, Option, None, Some, option_map, IfSome, refl, sym, ◌∙◌}
use Rattle.std.proofs.Common.{ap, subst, arith, length-append}
use Rattle.std.specs.List.{AllByRecursion}
use Rattle.std.specs.Prelude.{◌==◌, nat_le, slice_get, slice_index_or, is_none}
use Rattle.std.proofs.lemmas.Bool.{cases_lt, cases_Bool, and_parts, eq-eqb, eqb-true, leb-true}
use Rattle.std.proofs.lemmas.List.{length-map}
use Rattle.std.proofs.lemmas.List.Elements.{All-from_recursion}
use Rattle.merkle_forest.specs.declared.bagging.Bagging.{Bagging}
use Rattle.merkle_forest.specs.Forest.{Rule, forest_of}
use Rattle.merkle_forest.specs.Hashing.{Hash, number, domain_of, inactive_count}
use Rattle.merkle_forest.specs.Laws.ForestGrowth.{leaves-forest_of}
use Rattle.merkle_forest.specs.Laws.Matching.{Matches, Agrees, append_parts, agrees_or_collides}
use Rattle.merkle_forest.specs.Made.{Made, value, strings, Collision}
use Rattle.merkle_forest.specs.Perfect.{IsPairing}
use Rattle.merkle_theory.specs.Laws.MadeBags.{map_good}
use Rattle.merkle_theory.specs.Laws.MadeRoots.{number_same, count_same, peak_count}
use Rattle.merkle_theory.specs.Laws.MadeTrees.{AllSized, choose, plain_fits}
use Rattle.merkle_theory.specs.MadeRoots.{from_left, peaks_of, root_made, made_peak}
use Rattle.merkle_theory.specs.MadeTrees.{whole, plain_over}
use Rattle.merkle_theory.specs.Multi.{first_bad}
use Rattle.merkle_theory.specs.MultiReads.{Shown, locations_of, shown_at, ranked, rank_among, read_peaks, as_bag}
use Rattle.merkle_theory.specs.MultiReads.{root_over_peaks, shown_root, can_be_shown, needed_positions, multi_root}
use Rattle.merkle_theory.specs.MultiSoundness.{AreTrueOf, AreSound}
use Rattle.merkle_theory.specs.Soundness.{plain_names, list_root, hashed_strings}
use Rattle.merkle_theory.proofs.PeakMatches.{peaks_made, bag_same, AreAlike, AllAgree, bag_matches, bag_agrees, bag_long}
use Rattle.merkle_theory.proofs.ShownTruth.{is_member, ArePeaksOf, AllShown, peaks_good, shown_agree}
use Rattle.merkle_theory.proofs.Unnamed.{good_head}

-- what is shown of a list whose locations are good
abbrev IsPlaced : ℕ → ℕ → Shown → List ℕ × ℕ → Type 0
IsPlaced leaf_total low shown x =
    (low ≤ x.1) × (x.1 < leaf_total) × (shown_at shown x.1 ≡ x.0) × (is_member x.1 (locations_of shown) ≡ true)

or_true : (a b : Bool) → b ≡ true → (a || b) ≡ true
or_true true b is = refl
or_true false b is = is

other_place : (m l : ℕ) → suc m ≤ l → (m == l) ≡ false
other_place m l less = ⊎_elim (λ is. absurd (omega (arith, less, eqb-true m l is))) (λ is. is) (cases_Bool (m == l))

placed_later : (leaf_total low : ℕ) (y : List ℕ × ℕ) (shown rest : Shown) → low ≤ y.1
    → AllByRecursion (IsPlaced leaf_total (suc y.1) shown) rest
    → AllByRecursion (IsPlaced leaf_total low (y ∷ shown)) rest
placed_later leaf_total low y shown [] le all = tt
placed_later leaf_total low y shown (x ∷ rest) le all = (
  (
    omega (arith, le, all.0.0),
    all.0.1,
    ap (λ b. cond b y.0 (shown_at shown x.1)) (other_place y.1 x.1 all.0.0) ∙ all.0.2,
    or_true (y.1 == x.1) (is_member x.1 (locations_of shown)) all.0.3,
  ),
  placed_later leaf_total low y shown rest le all.1,
)

placed : (leaf_total low : ℕ) (shown : Shown) → first_bad leaf_total low (locations_of shown) ≡ None
    → AllByRecursion (IsPlaced leaf_total low shown) shown
placed leaf_total low [] good = tt
placed leaf_total low (y ∷ shown) good =
    let head = good_head leaf_total low y.1 (locations_of shown) (cases_lt y.1 low) (cases_lt y.1 leaf_total) good in
    let here : (y.1 == y.1) ≡ true = eq-eqb y.1 y.1 refl in (
      (
        head.0,
        head.1,
        ap (λ b. cond b y.0 (shown_at shown y.1)) here,
        ap (λ b. b || is_member y.1 (locations_of shown)) here,
      ),
      placed_later leaf_total low y shown shown head.0 (placed leaf_total (suc y.1) shown head.2),
    )

get_sized : (size : ℕ) (digests : List (List ℕ)) (i : ℕ) → AllSized size digests
    → IfSome (slice_get digests i) (λ d. length d ≡ size)
get_sized size [] i all = tt
get_sized size (d ∷ digests) zero all = all.0
get_sized size (d ∷ digests) (suc i) all = get_sized size digests i all.1

good_if : (a : Option (ℕ × ℕ)) → is_none a ≡ true → a ≡ None
good_if None is = refl
good_if (Some x) is = absurd cc

pub none_good : (leaf_total : ℕ) (locations : List ℕ) → can_be_shown leaf_total locations ≡ true
    → (first_bad leaf_total 0 locations ≡ None) × (leaf_total ≤ 2 ^ 62)
none_good leaf_total [] can = (refl, omega (arith, eqb-true leaf_total 0 can))
none_good leaf_total (l ∷ locations) can =
    let parts = and_parts (is_none (first_bad leaf_total 0 (l ∷ locations))) (nat_le leaf_total (2 ^ 62)) can in
    (good_if (first_bad leaf_total 0 (l ∷ locations)) parts.0, leb-true leaf_total (2 ^ 62) parts.1)

module _ (hash : Hash) (size : ℕ) (hash_sized : (xs : List ℕ)
    → length (hash xs) ≡ size) (bagging : Bagging) (rule : Rule) (pairs : IsPairing rule)
    (elements : List (List ℕ)) (inactive : ℕ) (few : length elements ≤ 2 ^ 62) (few_inactive : inactive < 2 ^ 64) where
  abbrev real_peaks : ℕ → List Made
  real_peaks count = peaks_made plain_names plain_over (whole elements) 0 (peaks_of rule count)

  abbrev real_bag : ℕ → ℕ → Made
  real_bag count k = as_bag plain_names (length (real_peaks count)) (from_left bagging k (length
      (real_peaks count))) (real_peaks count)

  abbrev real_root : ℕ → ℕ → Made
  real_root count k = root_made plain_names bagging count k (real_bag count k)

  -- the list's root is over its peaks
  list_same : list_root bagging rule elements inactive ≡ real_root (length elements) inactive
  list_same =
      let peaks = peaks_of rule (length elements) in
      let long : length (real_peaks (length elements))
      ≡ length peaks = length-map peaks (λ peak. made_peak plain_over (whole elements) peak) in
      ap (root_made plain_names bagging (length elements) inactive)
      (sym (bag_same plain_names plain_over (whole elements) (length peaks) (from_left bagging inactive
      (length peaks)) peaks)
      ∙ ap (λ n. as_bag plain_names n (from_left bagging inactive n) (real_peaks (length elements))) (sym long))

  module _ (count k : ℕ) (few_count : count < 2 ^ 64) (few_k : k < 2 ^ 64) (xs : List Made)
      (alike : AreAlike hash size hash_sized plain_names xs (real_peaks count)) where
    abbrev bag : Made
    bag = as_bag plain_names (length xs) (from_left bagging k (length xs)) xs

    -- where the strings of two roots are equal, so are counts
    counts : number count ++ ((domain_of bagging ∷ inactive_count k) ++ value hash bag)
        ≡ number (length elements) ++ ((domain_of bagging ∷ inactive_count inactive) ++ value hash (real_bag
        (length elements) inactive))
        → (count ≡ length elements) × (k ≡ inactive)
    counts same =
        let other = real_bag (length elements) inactive in
        let first = append_parts (number count) ((domain_of bagging ∷ inactive_count k) ++ value hash bag) (number
        (length elements))
        ((domain_of bagging ∷ inactive_count inactive) ++ value hash other) refl same in
        let leaf_total = number_same count (length elements) few_count (omega (arith, few)) first.0 in
        let equal : length (value hash bag) ≡ length (value hash other) =
        bag_long hash size hash_sized plain_names (length xs) (from_left bagging k (length xs)) (length
        (real_peaks count))
        (from_left bagging inactive (length (real_peaks count))) xs (real_peaks count) alike
        ∙ ap (λ n. length (value hash (real_bag n inactive))) leaf_total in
        let long : length (domain_of bagging ∷ inactive_count k)
        ≡ length (domain_of bagging ∷ inactive_count inactive) =
        omega (
          arith,
          ap length first.1,
          length-append (domain_of bagging ∷ inactive_count k) (value hash bag),
          length-append (domain_of bagging ∷ inactive_count inactive) (value hash other),
          equal,
        ) in
        let second = append_parts (domain_of bagging ∷ inactive_count k) (value hash bag)
        (domain_of bagging ∷ inactive_count inactive)
        (value hash other) long first.1 in
        (leaf_total, count_same k inactive few_k few_inactive (ap (drop 1) second.0))

    same_long : (ys : List Made) → AreAlike hash size hash_sized plain_names xs ys → length xs ≡ length ys
    same_long ys all = long xs ys all
      where
        long : (cs bs : List Made) → AreAlike hash size hash_sized plain_names cs bs → length cs ≡ length bs
        long [] [] it = refl
        long (a ∷ cs) (b ∷ bs) it = ap suc (long cs bs it.1)
        long [] (b ∷ bs) it = absurd it
        long (a ∷ cs) [] it = absurd it

    bag_there : Matches hash bag (real_bag count k)
    bag_there = subst (λ n. Matches hash bag (as_bag plain_names n (from_left bagging k n) (real_peaks count)))
        (same_long (real_peaks count) alike)
        (bag_matches hash size hash_sized plain_names (length xs) (from_left bagging k (length xs)) xs
        (real_peaks count) alike)

    root_matches : Matches hash (root_over_peaks plain_names bagging count k xs) (real_root (length elements) inactive)
    root_matches = (
      refl,
      λ same. let are = counts same in (
        refl,
        tt,
        (
          ap (λ n. length (domain_of bagging ∷ inactive_count n)) are.1,
          tt,
          subst (λ n. Matches hash bag (real_bag n inactive)) are.0 (subst (λ i. Matches hash bag
              (real_bag count i)) are.1 bag_there),
        ),
      ),
    )

    record IsTold : Type 0 where
      leaf_total : count ≡ length elements
      inactive_total : k ≡ inactive
      agree : AllAgree hash size hash_sized plain_names xs (real_peaks count)

    root_tells : Agrees hash (root_over_peaks plain_names bagging count k xs) (real_root
        (length elements) inactive) → IsTold
    root_tells agrees =
        let are = counts agrees.0 in
        let same = subst (λ i. Agrees hash bag (real_bag count i)) (sym are.1) (subst (λ n. Agrees hash bag
        (real_bag n inactive)) (sym are.0) agrees.1.1.1) in
        let long = same_long (real_peaks count) alike in
        record {
          leaf_total = are.0;
          inactive_total = are.1;
          agree = bag_agrees hash size hash_sized plain_names (length xs) (from_left bagging k (length xs)) xs
              (real_peaks count) alike
              (subst (λ n. Agrees hash bag (as_bag plain_names n (from_left bagging k n) (real_peaks count)))
              (sym long) same);
        }

  module _ (leaf_total shown_inactive : ℕ) (shown : Shown) (digests : List (List ℕ))
      (sized : AllSized size digests) where
    abbrev needed : List ℕ
    needed = needed_positions rule leaf_total (locations_of shown)

    pub known_sized : (p : ℕ) → IfSome (ranked needed digests p) (λ d. length d ≡ size)
    known_sized p = get_sized size digests (rank_among needed p) sized

    abbrev ArePeaks : List Made → Type 0
    ArePeaks = ArePeaksOf hash size hash_sized (λ at high. Unit {0}) plain_over plain_over
        (plain_fits hash size hash_sized) (shown_at shown)
        (whole elements) (locations_of shown) (ranked needed digests) known_sized plain_names (peaks_of rule leaf_total)

    abbrev AllThere : Type 0
    AllThere = AllShown hash size hash_sized (λ at high. Unit {0}) plain_over plain_over
        (plain_fits hash size hash_sized) (shown_at shown)
        (whole elements) (locations_of shown) (ranked needed digests) known_sized (peaks_of rule leaf_total)

    abbrev StandsThere : List ℕ × ℕ → Type 0
    StandsThere x = (x.1 < length elements) × (x.0 ≡ slice_index_or elements x.1 [])

    all_stand : leaf_total ≡ length elements → AllThere → (rest : Shown)
        → AllByRecursion (IsPlaced leaf_total 0 shown) rest
        → AllByRecursion StandsThere rest
    all_stand same there [] all = tt
    all_stand same there (x ∷ rest) all = (
      (
        omega (arith, all.0.1, same),
        sym all.0.2
            ∙ shown_agree hash size hash_sized (λ at high. Unit {0}) plain_over plain_over
            (plain_fits hash size hash_sized) (shown_at shown)
            (whole elements) (locations_of shown) (ranked needed digests) known_sized (forest_of rule leaf_total) x.1
            (omega (arith, all.0.1, leaves-forest_of rule pairs leaf_total)) all.0.3 there,
      ),
      all_stand same there rest all.1,
    )

    -- where what is read leads to the list's root, counts and peaks are the list's; what follows from that holds, or strings collide
    abbrev OrCollides : Type 0 → Made → Type 0
    OrCollides Claim made = value hash made ≡ value hash (list_root bagging rule elements inactive)
        → Claim ⊎ Collision hash (hashed_strings hash bagging rule elements inactive) (strings hash made)

    abbrev pub Follows : (List Made → Type 0) → Type 0 → Type 0
    Follows Told Claim = (xs : List Made) → ArePeaks xs → Told xs → first_bad leaf_total 0 (locations_of shown) ≡ None
        → length digests ≡ length needed → leaf_total ≡ length elements → shown_inactive ≡ inactive
        → AllAgree hash size hash_sized plain_names xs (real_peaks leaf_total) → Claim

    told_over : (Told : List Made → Type 0) (Claim : Type 0) → Follows Told Claim → first_bad leaf_total 0 (locations_of shown) ≡ None
        → length digests ≡ length needed → leaf_total < 2 ^ 64 → shown_inactive < 2 ^ 64 → (xs : List Made) → ArePeaks xs → Told xs
        → OrCollides Claim (root_over_peaks plain_names bagging leaf_total shown_inactive xs)
    told_over Told Claim follows good counted few_leaves few_shown xs are it same =
        let made = root_over_peaks plain_names bagging leaf_total shown_inactive xs in
        let list = list_root bagging rule elements inactive in
        let form = subst (Matches hash made) (sym list_same)
        (root_matches leaf_total shown_inactive few_leaves few_shown xs are.alike) in
        ⊎_elim
        (λ agrees.
        let told = root_tells leaf_total shown_inactive few_leaves few_shown xs are.alike (subst
        (Agrees hash made) list_same agrees) in
        inl (follows xs are it good counted told.leaf_total told.inactive_total told.agree))
        inr
        (agrees_or_collides hash (hashed_strings hash bagging rule elements inactive) (strings hash made) made list
        (λ x here. here) (λ x here. here)
        form same)

    abbrev pub reading : Option (List Made)
    reading = read_peaks plain_over (shown_at shown) (locations_of shown) (ranked needed digests) (peaks_of rule leaf_total)

    both_some : (P Q : List Made → Type 0) (got : Option (List Made)) → IfSome got P → IfSome got Q → IfSome got (λ xs. P xs × Q xs)
    both_some P Q None one other = tt
    both_some P Q (Some xs) one other = (one, other)

    pub multi_told : (Told : List Made → Type 0) (Claim : Type 0) → IfSome reading Told → Follows Told Claim
        → IfSome (multi_root plain_names plain_over bagging rule leaf_total shown_inactive shown digests) (OrCollides Claim)
    multi_told Told Claim reads follows =
        let can = can_be_shown leaf_total (locations_of shown) in
        let peaks = peaks_of rule leaf_total in
        choose (λ got. IfSome got (OrCollides Claim)) (can && (length digests == length needed))
        (shown_root plain_names plain_over bagging rule leaf_total shown_inactive shown (ranked needed digests)) None
        (λ is.
        let parts = and_parts can (length digests == length needed) is in
        let good = none_good leaf_total (locations_of shown) parts.0 in
        choose (λ got. IfSome got (OrCollides Claim)) (nat_le shown_inactive (length peaks))
        (option_map (root_over_peaks plain_names bagging leaf_total shown_inactive) reading) None
        (λ enough.
        let few_shown : shown_inactive < 2 ^ 64 =
        omega (arith, leb-true shown_inactive (length peaks) enough, peak_count rule pairs leaf_total, good.1) in
        map_good (λ xs. ArePeaks xs × Told xs) (OrCollides Claim) (root_over_peaks plain_names bagging leaf_total shown_inactive) reading
        (both_some ArePeaks Told reading
        (peaks_good hash size hash_sized (λ at high. Unit {0}) plain_over plain_over
        (plain_fits hash size hash_sized) (shown_at shown)
        (whole elements) (locations_of shown) (ranked needed digests) known_sized plain_names peaks) reads)
        (λ xs it. told_over Told Claim follows good.0 (eqb-true (length digests) (length needed) parts.1) (omega (arith, good.1)) few_shown xs
        it.0 it.1))
        (λ other. tt))
        (λ other. tt)

    any_told : (got : Option (List Made)) → IfSome got (λ xs. Unit {0})
    any_told None = tt
    any_told (Some xs) = tt

    pub multi_sound : IfSome (multi_root plain_names plain_over bagging rule leaf_total shown_inactive shown digests)
        (AreSound hash bagging rule elements inactive leaf_total shown_inactive shown)
    multi_sound =
        multi_told (λ xs. Unit {0}) (AreTrueOf elements inactive leaf_total shown_inactive shown) (any_told reading)
        (λ xs are it good counted same_leaves same_inactive agree. record {
          leaf_count = same_leaves;
          inactive_count = same_inactive;
          stand = All-from_recursion StandsThere shown
              (all_stand same_leaves (are.tells agree) shown (placed leaf_total 0 shown good));
        })
