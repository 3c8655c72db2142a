-- A root that a proof leads to is the root of the list of which it tells the truth, or strings collide.
use Rattle.std.proofs.Common.{◌≡◌, ◌<◌, ◌≤◌, ◌^◌, ltb, ⊎_elim, ℕ, zero, suc, Bool, true, false, cond, ◌||◌, List, []}
use Rattle.std.proofs.Common.{◌∷◌, ◌++◌, length, take, drop, Option, None, Some, option_map, option_and_then, IfSome}
use Rattle.std.proofs.Common.{refl, sym, ◌∙◌, ap, subst, arith, length-append}
use Rattle.std.specs.Prelude.{◌==◌}
use Rattle.std.specs.Int.{w64, from_be_bytes}
use Rattle.std.specs.List.{AllByRecursion}
use Rattle.std.proofs.lemmas.Bool.{cases_Bool, eqb-true, ltb-false}
use Rattle.std.proofs.lemmas.Nat.{from_be_bytes-to_be_bytes_8}
use Rattle.merkle_forest.specs.declared.bagging.Bagging.{Bagging}
use Rattle.merkle_forest.specs.Forest.{Tree, Rule, forest_of, leaves}
use Rattle.merkle_forest.specs.Laws.ForestGrowth.{leaves-forest_of}
use Rattle.merkle_forest.specs.Laws.Peaks.{leaf_count-pos}
use Rattle.merkle_forest.specs.Perfect.{IsPairing}
use Rattle.merkle_forest.specs.Laws.Trees.{length-located}
use Rattle.merkle_forest.specs.Hashing.{Hash, number, domain_of, inactive_count}
use Rattle.merkle_forest.specs.Trees.{Located}
use Rattle.merkle_forest.specs.Made.{Made, value}
use Rattle.merkle_theory.specs.MadeTrees.{Over, Elements}
use Rattle.merkle_theory.specs.MadeRoots.{Naming, made_bag, bag_of, peaks_of, from_left, root_made, made_root, Streams}
use Rattle.merkle_theory.specs.MadeRoots.{used, read_bag, read_root}
use Rattle.merkle_forest.specs.Laws.Matching.{Matches, Agrees, append_parts}
use Rattle.merkle_theory.specs.Laws.MadeTrees.{Sized, Fits, AgreeOver, choose}
use Rattle.merkle_theory.specs.Laws.MadeBags.{AgreeIn, IsRead, IsBagged, AreSized, bag_good, bag_sized, map_good}

pub number_same : (n m : ℕ) → n < 2 ^ 64 → m < 2 ^ 64 → number n ≡ number m → n ≡ m
number_same n m few less same =
    sym (from_be_bytes-to_be_bytes_8 n few) ∙ ap (from_be_bytes w64) same ∙ from_be_bytes-to_be_bytes_8 m less

pub not_zero : (n : ℕ) → (suc n == 0) ≡ false
not_zero n = ⊎_elim (λ is. absurd (omega (arith, eqb-true (suc n) 0 is))) (λ is. is) (cases_Bool (suc n == 0))

count_of : (n : ℕ) → inactive_count (suc n) ≡ number (suc n)
count_of n = ap (λ b. cond b [] (number (suc n))) (not_zero n)

pub count_same : (n m : ℕ) → n < 2 ^ 64 → m < 2 ^ 64 → inactive_count n ≡ inactive_count m → n ≡ m
count_same zero zero few less same = refl
count_same zero (suc m) few less same =
    let clash : [] ≡ number (suc m) = same ∙ count_of m in absurd (omega (arith, ap length clash))
count_same (suc n) zero few less same =
    let clash : number (suc n) ≡ [] = sym (count_of n) ∙ same in absurd (omega (arith, ap length clash))
count_same (suc n) (suc m) few less same = number_same (suc n) (suc m) few less (sym (count_of n) ∙ same ∙ count_of m)

tail_same : (x : ℕ) (xs ys : List ℕ) → x ∷ xs ≡ x ∷ ys → xs ≡ ys
tail_same x xs ys same = ap (drop 1) same

or_parts : (x y : Bool) → (x || y) ≡ false → (x ≡ false) × (y ≡ false)
or_parts true y e = let clash = e in absurd cc
or_parts false y e = (refl, e)

count_trees : (trees : List Tree) → length trees ≤ leaves trees
count_trees [] = omega arith
count_trees (t ∷ trees) = omega (arith, count_trees trees, leaf_count-pos t)

-- no more peaks than leaves
pub peak_count : (rule : Rule) → IsPairing rule → (n : ℕ) → length (peaks_of rule n) ≤ n
peak_count rule pairs n =
    omega (arith, length-located (forest_of rule n), count_trees (forest_of rule n), leaves-forest_of rule pairs n)

module _ (hash : Hash) (size : ℕ) (hash_sized : (xs : List ℕ) → length (hash xs) ≡ size) (Told : ℕ → ℕ → Type 0)
    (over_claimed over_real : Over)
    (fits : Fits hash size Told over_claimed over_real) (claimed real : Elements) (start stop : ℕ) (names : Naming)
    (bagging : Bagging) (rule : Rule) where
  -- what a proof tells: leaf count and inactive peaks, and of the leaves in the range the elements
  pub record Tells (leaves inactive leaves_claimed inactive_claimed : ℕ) : Type 0 where
    pub leaf_count : leaves_claimed ≡ leaves
    pub inactive_count : inactive_claimed ≡ inactive
    pub within : stop ≤ leaves_claimed
    pub elements : AllByRecursion (λ peak. AgreeOver Told claimed real start stop peak.0 peak.1)
        (peaks_of rule leaves_claimed)

  abbrev pub real_bag : ℕ → ℕ → Made
  real_bag leaves inactive = bag_of names over_real real bagging inactive (peaks_of rule leaves)

  -- where a bag is read there is a peak
  abbrev IsSizedBag : List Located → Type 0
  IsSizedBag peaks = (k : ℕ) → Sized hash size (made_bag names over_real real (length peaks) k peaks)

  some_peak : (inactive last : ℕ) (peaks : List Located) (streams : Streams)
      → IfSome (read_bag names over_claimed claimed start stop last inactive peaks streams) (λ made. IsSizedBag peaks)
  some_peak inactive last [] streams = tt
  some_peak inactive last (peak ∷ peaks) streams =
      if_some (read_bag names over_claimed claimed start stop last inactive (peak ∷ peaks) streams)
      (λ k. bag_sized hash size hash_sized Told over_claimed over_real fits claimed real start stop names
      (length (peak ∷ peaks)) k peak peaks)
    where
      if_some : (got : Option (Made × Streams)) → IsSizedBag (peak ∷ peaks)
          → IfSome got (λ made. IsSizedBag (peak ∷ peaks))
      if_some None is = tt
      if_some (Some x) is = is

  -- where the strings of two roots are equal, so are counts, and bags have one form
  string_parts : (leaves inactive leaves_claimed inactive_claimed : ℕ) (bag : Made) → leaves < 2 ^ 64
      → inactive < 2 ^ 64 → leaves_claimed < 2 ^ 64
      → inactive_claimed < 2 ^ 64
      → Sized hash size bag → ((k : ℕ) → Sized hash size (real_bag leaves_claimed k))
      → number leaves_claimed ++ ((domain_of bagging ∷ inactive_count inactive_claimed) ++ value hash bag)
      ≡ number leaves ++ ((domain_of bagging ∷ inactive_count inactive) ++ value hash (real_bag leaves inactive))
      → (leaves_claimed ≡ leaves) × (inactive_claimed ≡ inactive)
  string_parts leaves inactive leaves_claimed inactive_claimed bag few_leaves few_inactive few_claimed
      few_inactive_claimed sized every same =
      let first = append_parts (number leaves_claimed) ((domain_of bagging ∷ inactive_count inactive_claimed)
      ++ value hash bag) (number leaves)
      ((domain_of bagging ∷ inactive_count inactive) ++ value hash (real_bag leaves inactive)) refl same in
      let count = number_same leaves_claimed leaves few_claimed few_leaves first.0 in
      let there : Sized hash size (real_bag leaves inactive) = subst (λ n. Sized hash size (real_bag n inactive))
      count (every inactive) in
      let long : length (domain_of bagging ∷ inactive_count inactive_claimed)
      ≡ length (domain_of bagging ∷ inactive_count inactive) =
      omega (
        arith,
        ap length first.1,
        length-append (domain_of bagging ∷ inactive_count inactive_claimed) (value hash bag),
        length-append (domain_of bagging ∷ inactive_count inactive) (value hash (real_bag leaves inactive)),
        sized,
        there,
      ) in
      let second = append_parts (domain_of bagging ∷ inactive_count inactive_claimed) (value hash bag)
      (domain_of bagging ∷ inactive_count inactive)
      (value hash (real_bag leaves inactive)) long first.1 in (
        count,
        count_same inactive_claimed inactive few_inactive_claimed few_inactive (tail_same (domain_of bagging)
            (inactive_count inactive_claimed) (inactive_count inactive) second.0),
      )

  -- what is read as a root: of the root that is there it has the form, and where it agrees with it, it tells the truth
  abbrev pub IsRoot : ℕ → ℕ → ℕ → ℕ → Made → Type 0
  IsRoot leaves inactive leaves_claimed inactive_claimed made =
      Matches hash made (made_root names over_real real bagging rule leaves inactive)
      × (Agrees hash made (made_root names over_real real bagging rule leaves inactive)
      → Tells leaves inactive leaves_claimed inactive_claimed)
      × Sized hash size made

  root_of_bag : (leaves inactive leaves_claimed inactive_claimed : ℕ) (bag : Made) → leaves < 2 ^ 64 → inactive < 2 ^ 64
      → leaves_claimed < 2 ^ 64
      → inactive_claimed < 2 ^ 64 → stop ≤ leaves_claimed
      → IsRead hash size hash_sized Told over_claimed over_real fits claimed real start stop names
      (length (peaks_of rule leaves_claimed))
      (real_bag leaves_claimed inactive_claimed)
      (AgreeIn hash size hash_sized Told over_claimed over_real fits claimed real start stop names
      (length (peaks_of rule leaves_claimed))
      (peaks_of rule leaves_claimed)) bag
      → IsSizedBag (peaks_of rule leaves_claimed) → IsRoot leaves inactive leaves_claimed inactive_claimed
      (root_made names bagging leaves_claimed inactive_claimed bag)
  root_of_bag leaves inactive leaves_claimed inactive_claimed bag few_leaves few_inactive few_claimed
      few_inactive_claimed within is every = (
        (
          refl,
          λ same. let counts = parts same in (
            refl,
            tt,
            (
              ap (λ n. length (domain_of bagging ∷ inactive_count n)) counts.1,
              tt,
              subst (λ n. Matches hash bag (real_bag n inactive)) counts.0
                  (subst (λ k. Matches hash bag (real_bag leaves_claimed k)) counts.1 is.matches),
            ),
          ),
        ),
        (λ agrees. let counts = parts agrees.0 in record {
          leaf_count = counts.0;
          inactive_count = counts.1;
          within = within;
          elements =
              is.tells (subst (λ k. Agrees hash bag (real_bag leaves_claimed k)) (sym counts.1)
              (subst (λ n. Agrees hash bag (real_bag n inactive)) (sym counts.0) agrees.1.1.1));
        }),
        hash_sized (number leaves_claimed ++ ((domain_of bagging ∷ inactive_count inactive_claimed) ++ value hash bag)),
      )
    where
      parts : number leaves_claimed ++ ((domain_of bagging ∷ inactive_count inactive_claimed) ++ value hash bag)
          ≡ number leaves ++ ((domain_of bagging ∷ inactive_count inactive) ++ value hash (real_bag leaves inactive))
          → (leaves_claimed ≡ leaves) × (inactive_claimed ≡ inactive)
      parts same =
          string_parts leaves inactive leaves_claimed inactive_claimed bag few_leaves few_inactive few_claimed
          few_inactive_claimed is.sized
          (λ k. every (from_left bagging k (length (peaks_of rule leaves_claimed)))) same

  used_good : (P : Made × Streams → Type 0) (Q : Made → Type 0) (got : Option (Made × Streams)) → IfSome got P
      → ((x : Made × Streams) → P x
      → Q x.0) → IfSome (option_and_then used got) Q
  used_good P Q None p each = tt
  used_good P Q (Some (made, ([], []))) p each = each (made, ([], [])) p
  used_good P Q (Some (made, ((d ∷ outer), inner))) p each = tt
  used_good P Q (Some (made, ([], (d ∷ inner)))) p each = tt

  both_good : {A : Type 0} (P Q : A → Type 0) (got : Option A) → IfSome got P → IfSome got Q
      → IfSome got (λ x. P x × Q x)
  both_good P Q None p q = tt
  both_good P Q (Some x) p q = (p, q)

  pub root_good : IsPairing rule → (leaves inactive leaves_claimed inactive_claimed outer : ℕ) (digests : List (List ℕ))
      → leaves < 2 ^ 64 → inactive < 2 ^ 64
      → AreSized hash size hash_sized Told over_claimed over_real fits claimed real start stop names
      (length (peaks_of rule leaves_claimed))
      (take outer digests, drop outer digests)
      → IfSome (read_root names over_claimed bagging rule leaves_claimed inactive_claimed start
      stop claimed outer digests)
      (IsRoot leaves inactive leaves_claimed inactive_claimed)
  root_good pairs leaves inactive leaves_claimed inactive_claimed outer digests few_leaves few_inactive sized =
      let peaks = peaks_of rule leaves_claimed in
      let last = length peaks in
      let left = from_left bagging inactive_claimed last in
      let streams : Streams = (take outer digests, drop outer digests) in
      let got = read_bag names over_claimed claimed start stop last left peaks streams in
      let Peaks = AgreeIn hash size hash_sized Told over_claimed over_real fits claimed real start
      stop names last peaks in
      let Is : Made → Type 0 = IsRead hash size hash_sized Told over_claimed over_real fits claimed
      real start stop names last
      (real_bag leaves_claimed inactive_claimed) Peaks in
      let Good : Made × Streams
      → Type 0 = IsBagged hash size hash_sized Told over_claimed over_real fits claimed real start stop names last
      (real_bag leaves_claimed inactive_claimed) Peaks in
      choose (λ r. IfSome r (IsRoot leaves inactive leaves_claimed inactive_claimed)) (ltb (2 ^ 62) leaves_claimed ||
      (ltb last inactive_claimed || ltb leaves_claimed stop)) None
      (option_map (root_made names bagging leaves_claimed inactive_claimed) (option_and_then used got))
      (λ is. tt)
      (λ is. let guards = or_parts (ltb (2 ^ 62) leaves_claimed) (ltb last inactive_claimed
      || ltb leaves_claimed stop) is in
      let bounds = or_parts (ltb last inactive_claimed) (ltb leaves_claimed stop) guards.1 in
      let few = ltb-false (2 ^ 62) leaves_claimed guards.0 in
      let some = ltb-false last inactive_claimed bounds.0 in
      let many = peak_count rule pairs leaves_claimed in
      map_good (λ made. Is made × IsSizedBag peaks) (IsRoot leaves inactive leaves_claimed inactive_claimed)
      (root_made names bagging leaves_claimed inactive_claimed) (option_and_then used got)
      (used_good (λ x. Good x × IsSizedBag peaks) (λ made. Is made × IsSizedBag peaks) got
      (both_good Good (λ x. IsSizedBag peaks) got
      (bag_good hash size hash_sized Told over_claimed over_real fits claimed real start stop names last
      left peaks streams sized)
      (some_peak left last peaks streams))
      (λ x it. (it.0.0, it.1)))
      (λ made it. root_of_bag leaves inactive leaves_claimed inactive_claimed made few_leaves few_inactive
      (omega (arith, few)) (omega
      (arith, few, some, many)) (ltb-false leaves_claimed stop bounds.1) it.0 it.1))
