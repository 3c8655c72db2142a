-- The root that a proof of a range leads to, from all its peaks as one.
use Rattle.std.proofs.Common.{◌≡◌, ℕ, zero, suc, ◌+◌, ◌<◌, ◌≤◌, ◌^◌, Bool, true, false, ◌||◌, cond, List, [], ◌∷◌}
use Rattle.std.proofs.Common.{length, map, take, drop, Option, None, Some, option_map, refl, ◌∙◌, ap}
use Rattle.std.specs.Prelude.{option_and_then, nat_lt, IfSome}
use Rattle.std.proofs.lemmas.Bool.{or_left, or_right, or_from, lt-ltb, le-ltb}
use Rattle.merkle_forest.specs.declared.bagging.Bagging.{Bagging}
use Rattle.merkle_forest.specs.Forest.{Rule}
use Rattle.merkle_forest.specs.Hashing.{Hash, root_string}
use Rattle.merkle_forest.specs.Made.{Made, value}
use Rattle.merkle_theory.specs.MadeTrees.{Over, Elements, from}
use Rattle.merkle_theory.specs.MadeRoots.{Naming, Streams, Bagged, from_left, peaks_of, root_made, read_bag, used, read_root}
use Rattle.merkle_theory.specs.RangeCounts.{range_outer}
use Rattle.merkle_theory.specs.Reads.{valued, range_root}
use Rattle.merkle_theory.proofs.RangeTrees.{read_some, read_none}

module _ (hash : Hash) (names : Naming) (over : Over) (bagging : Bagging) (rule : Rule) (leaves inactive start stop : ℕ) (elements : Elements)
    (outer : ℕ) (digests : List (List ℕ)) where
  abbrev root : Option Made
  root = read_root names over bagging rule leaves inactive start stop elements outer digests

  abbrev all : Bagged
  all = read_bag names over elements start stop (length (peaks_of rule leaves)) (from_left bagging inactive (length (peaks_of rule leaves)))
      (peaks_of rule leaves) (take outer digests, drop outer digests)

  abbrev sealed : Option Made
  sealed = option_map (root_made names bagging leaves inactive) (option_and_then used all)

  abbrev refused : Bool
  refused = nat_lt (2 ^ 62) leaves || (nat_lt (length (peaks_of rule leaves)) inactive || nat_lt leaves stop)

  pub too_large : 2 ^ 62 < leaves → root ≡ None
  too_large lt = ap (λ b. cond b None sealed) (or_left _ _ (lt-ltb (2 ^ 62) leaves lt))

  pub past_leaves : leaves < stop → root ≡ None
  past_leaves lt =
      ap (λ b. cond b None sealed) (or_right (nat_lt (2 ^ 62) leaves) _ (or_right (nat_lt (length (peaks_of rule leaves)) inactive) _ (lt-ltb leaves stop lt)))

  pub few_peaks : length (peaks_of rule leaves) < inactive → root ≡ None
  few_peaks lt =
      ap (λ b. cond b None sealed) (or_right (nat_lt (2 ^ 62) leaves) _ (or_left _ _ (lt-ltb (length (peaks_of rule leaves)) inactive lt)))

  fits : leaves ≤ 2 ^ 62 → inactive ≤ length (peaks_of rule leaves) → stop ≤ leaves → root ≡ sealed
  fits small enough within =
      ap (λ b. cond b None sealed)
      (or_from _ _ (le-ltb (2 ^ 62) leaves small) (or_from _ _ (le-ltb (length (peaks_of rule leaves)) inactive enough) (le-ltb leaves stop within)))

  pub bag_missing : leaves ≤ 2 ^ 62 → inactive ≤ length (peaks_of rule leaves) → stop ≤ leaves → valued hash all ≡ None → root ≡ None
  bag_missing small enough within none = fits small enough within
      ∙ ap (λ b. option_map (root_made names bagging leaves inactive) (option_and_then used b))
      (read_none hash all none)

  not_used : (made : Made) (streams : Streams) → ((streams.0 ≡ []) × (streams.1 ≡ []) → ⊥) → used (made, streams) ≡ None
  not_used made ([], []) some = absurd (some (refl, refl))
  not_used made ([], d ∷ inner) some = refl
  not_used made (d ∷ outer, inner) some = refl

  pub digests_left : leaves ≤ 2 ^ 62 → inactive ≤ length (peaks_of rule leaves) → stop ≤ leaves → (bag : List ℕ) (streams : Streams)
      → valued hash all ≡ Some (bag, streams) → ((streams.0 ≡ []) × (streams.1 ≡ []) → ⊥) → root ≡ None
  digests_left small enough within bag streams is some =
      let it = read_some hash all bag streams is in
      fits small enough within ∙ ap (λ b. option_map (root_made names bagging leaves inactive) (option_and_then used b)) it.is
      ∙ ap (option_map (root_made names bagging leaves inactive)) (not_used it.made streams some)

  all_used : (made : Made) (streams : Streams) → streams.0 ≡ [] → streams.1 ≡ [] → used (made, streams) ≡ Some made
  all_used made (outer, inner) one other = rw (one, other) refl

  pub root_there : leaves ≤ 2 ^ 62 → inactive ≤ length (peaks_of rule leaves) → stop ≤ leaves → (bag : List ℕ) (streams : Streams)
      → valued hash all ≡ Some (bag, streams) → streams.0 ≡ [] → streams.1 ≡ []
      → option_map (value hash) root ≡ Some (hash (root_string bagging leaves inactive bag))
  unfolding root_string
  root_there small enough within bag streams is one other =
      let it = read_some hash all bag streams is in
      ap (option_map (value hash)) (fits small enough within ∙ ap (λ b. option_map (root_made names bagging leaves inactive) (option_and_then used b)) it.is
      ∙ ap (option_map (root_made names bagging leaves inactive)) (all_used it.made streams one other))
      ∙ ap (λ b. Some (hash (root_string bagging leaves inactive b))) it.same

pub drop-map : {A B : Type 0} (f : A → B) (n : ℕ) (xs : List A) → map f (drop n xs) ≡ drop n (map f xs)
drop-map f zero xs = refl
drop-map f (suc n) [] = refl
drop-map f (suc n) (x ∷ xs) = drop-map f n xs

pub no_encoding : {A B : Type 0} (f : A → B) (xs : List A) → map f xs ≡ [] → xs ≡ []
no_encoding f [] none = refl
no_encoding f (x ∷ xs) none = absurd cc

-- a range that is not empty
pub range_there : (names : Naming) (over : Over) (bagging : Bagging) (rule : Rule) (leaves inactive start : ℕ) (elements digests : List (List ℕ))
    → 0 < length elements → range_root names over bagging rule leaves inactive start elements digests
    ≡ read_root names over bagging rule leaves inactive start (start + length elements) (from start elements)
    (range_outer bagging start (start + length elements) inactive (peaks_of rule leaves)) digests
range_there names over bagging rule leaves inactive start elements digests some =
    ap (λ b. cond b (read_root names over bagging rule leaves inactive start (start + length elements) (from start elements)
    (range_outer bagging start (start + length elements) inactive (peaks_of rule leaves)) digests) None) (lt-ltb 0 (length elements) some)

-- where one is given only under a test
pub where_given : {A : Type 0} (P : A → Type 0) (test : Bool) (x : Option A) → IfSome x P → IfSome (cond test x None) P
where_given P true x holds = holds
where_given P false x holds = tt
