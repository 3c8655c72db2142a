-- A proof that leads to the root of a list gives the digests of the list, or strings collide.
use Rattle.std.proofs.Common.{◌≡◌, ◌⊎◌, inl, inr, ⊎_elim, ℕ, ◌+◌, ◌-◌, ◌<◌, ◌≤◌, ◌^◌, List, [], length, Option, None}
use Rattle.std.proofs.Common.{Some, IfSome, refl, sym, ◌∙◌, ap, subst, arith}
use Rattle.std.specs.Prelude.{slice_index_or}
use Rattle.merkle_forest.specs.declared.bagging.Bagging.{Bagging}
use Rattle.merkle_forest.specs.Forest.{Rule, forest_of}
use Rattle.merkle_forest.specs.Perfect.{IsPairing}
use Rattle.merkle_forest.specs.Hashing.{Hash, leaf_string}
use Rattle.merkle_forest.specs.Made.{Made, value, strings, Collision}
use Rattle.merkle_forest.specs.Trees.{plain_digest}
use Rattle.merkle_forest.specs.Laws.Matching.{Agrees, agrees_or_collides}
use Rattle.merkle_theory.specs.MadeRoots.{peaks_of, made_root, read_root}
use Rattle.merkle_theory.specs.MadeTrees.{Elements, from, whole, plain_over}
use Rattle.merkle_proofs.specs.ListDigests.{stop_of, GivesDigestsOf, GivesDigestsOrCollides}
use Rattle.merkle_theory.specs.Plans.{honest_digests}
use Rattle.merkle_theory.specs.Soundness.{plain_names, list_root, RangeClaim, claimed_root, IsTrueOf, hashed_strings, IsSound}
use Rattle.merkle_theory.specs.Laws.HonestReads.{plain_made, plain_children}
use Rattle.merkle_theory.specs.Laws.MadeRoots.{IsRoot, root_good}
use Rattle.merkle_theory.specs.Laws.MadeTrees.{AllSized, plain_fits, value_plain}
use Rattle.merkle_theory.specs.Laws.Sound.{all_take, all_drop, if_some, plain_sound}
use Rattle.merkle_theory.proofs.HonestRoots.{ascend_located}
use Rattle.merkle_theory.proofs.HonestReads.{AreOfTree, root_told, spelled_out}
use Rattle.merkle_proofs.proofs.HonestTold.{honest_given, in_range}

-- of the term of the root of a list, of which so many leaves and inactive peaks are claimed
module _ (hash : Hash) (bagging : Bagging) (rule : Rule) (elements : List (List ℕ)) (claimed : Elements) (leaves inactive start stop : ℕ)
    (some : start < stop) (outer : ℕ) (digests : List (List ℕ)) where
  abbrev pub AreTheList : Type 0
  AreTheList = AreOfTree hash plain_names plain_over plain_over claimed (whole elements) (plain_digest hash elements) start stop some
      (plain_made hash elements start stop) (value_plain hash elements) (plain_children hash) bagging rule leaves inactive outer digests

  abbrev RootTold : Made → Type 0
  RootTold made = Agrees hash made (made_root plain_names plain_over (whole elements) bagging rule leaves inactive) → AreTheList

  pub list_told : IfSome (read_root plain_names plain_over bagging rule leaves inactive start stop claimed outer digests) RootTold
  list_told =
      root_told hash plain_names plain_over plain_over claimed (whole elements) (plain_digest hash elements) start stop some
      (plain_made hash elements start stop) (value_plain hash elements) (plain_children hash) bagging rule leaves inactive outer digests

  -- so the digests are those of the honest proof
  pub list_honest : AreTheList
      → digests ≡ honest_digests hash (plain_digest hash elements) bagging rule leaves inactive start stop
  list_honest =
      spelled_out hash plain_names plain_over plain_over claimed (whole elements) (plain_digest hash elements) start stop some
      (plain_made hash elements start stop) (value_plain hash elements) (plain_children hash) bagging rule leaves inactive outer digests

both_some : {A : Type 0} (P Q R : A → Type 0) (got : Option A) → IfSome got P → IfSome got Q → ((x : A) → P x → Q x → R x) → IfSome got R
both_some P Q R None p q each = tt
both_some P Q R (Some x) p q each = each x p q

module _ (hash : Hash) (size : ℕ) (hash_sized : (xs : List ℕ) → length (hash xs) ≡ size) (bagging : Bagging) (rule : Rule) (pairs : IsPairing rule)
    (elements : List (List ℕ)) (inactive : ℕ) (few : length elements ≤ 2 ^ 62) (few_inactive : inactive < 2 ^ 64) (claim : RangeClaim) where
  abbrev stop : ℕ
  stop = stop_of claim

  abbrev list_root' : Made
  list_root' = list_root bagging rule elements inactive

  -- the list's digests are made of the elements, where the claim is true
  elements_made : IsTrueOf elements inactive claim → (at : ℕ) → claim.start ≤ at → at < stop
      → slice_index_or elements at [] ≡ from claim.start claim.elements at
  elements_made true at low high =
      let same : claim.start + (at - claim.start) ≡ at = omega (arith, low) in
      ap (λ n. slice_index_or elements n []) (sym same) ∙ sym (true.stands (at - claim.start) (omega (arith, low, high)))

  are_given : (some : claim.start < stop) → IsTrueOf elements inactive claim
      → AreTheList hash bagging rule elements (from claim.start claim.elements) claim.leaves claim.inactive claim.start stop some claim.outer claim.digests
      → GivesDigestsOf hash bagging rule elements inactive claim
  are_given some true are =
      let same = list_honest hash bagging rule elements (from claim.start claim.elements) claim.leaves claim.inactive claim.start stop some claim.outer
      claim.digests are in
      record {
        leaf_count = true.leaf_count;
        inactive_count = true.inactive_count;
        honest = subst (λ k. claim.digests ≡ honest_digests hash (plain_digest hash elements) bagging rule (length elements) k claim.start stop)
            true.inactive_count (subst (λ n. claim.digests ≡ honest_digests hash (plain_digest hash elements) bagging rule n claim.inactive
            claim.start stop) true.leaf_count same);
        made = record {
          leaf = λ at p met. let within = in_range claim.start stop at p met in
              ap (λ e. hash (leaf_string p e)) (elements_made true at within.0 within.1);
          branch = λ at p left right met. refl;
        };
        given = let given = honest_given hash (plain_digest hash elements) bagging claim.inactive claim.start stop some (peaks_of rule claim.leaves)
            (ascend_located (forest_of rule claim.leaves)) in
            record { front = given.front; back = given.back; is = same ∙ given.is; fronts = given.fronts; backs = given.backs };
      }

  abbrev IsRootOfClaim : Made → Type 0
  IsRootOfClaim = IsRoot hash size hash_sized (λ at high. Unit {0}) plain_over plain_over (plain_fits hash size hash_sized)
      (from claim.start claim.elements) (whole elements) claim.start stop plain_names bagging rule (length elements) inactive claim.leaves claim.inactive

  abbrev IsToldRoot : (some : claim.start < stop) → Made → Type 0
  IsToldRoot some made = Agrees hash made (made_root plain_names plain_over (whole elements) bagging rule claim.leaves claim.inactive)
      → AreTheList hash bagging rule elements (from claim.start claim.elements) claim.leaves claim.inactive claim.start stop some claim.outer claim.digests

  -- the claim is true, and its digests are the list's
  abbrev pub IsTheList : (some : claim.start < stop) → Type 0
  IsTheList some = IsTrueOf elements inactive claim
      × AreTheList hash bagging rule elements (from claim.start claim.elements) claim.leaves claim.inactive claim.start stop some claim.outer claim.digests

  abbrev pub IsTheListOrCollides : (some : claim.start < stop) → Made → Type 0
  IsTheListOrCollides some made = value hash made ≡ value hash list_root'
      → IsTheList some ⊎ Collision hash (hashed_strings hash bagging rule elements inactive) (strings hash made)

  one_made : (some : claim.start < stop) (made : Made) → IsRootOfClaim made → IsToldRoot some made
      → IsSound hash bagging rule elements inactive claim made → IsTheListOrCollides some made
  one_made some made is told sound same =
      ⊎_elim
      (λ true. ⊎_elim
      (λ agrees. let tells = is.1 agrees in
      inl (
        true,
        told (subst (λ n. Agrees hash made (made_root plain_names plain_over (whole elements) bagging rule n claim.inactive))
            (sym tells.leaf_count) (subst (λ n. Agrees hash made (made_root plain_names plain_over (whole elements) bagging rule (length elements) n))
            (sym tells.inactive_count) agrees)),
      ))
      inr
      (agrees_or_collides hash (hashed_strings hash bagging rule elements inactive) (strings hash made) made list_root' (λ x here. here) (λ x here. here)
      is.0 same))
      inr
      (sound same)

  pub list_or_collides : (some : claim.start < stop) → AllSized size claim.digests
      → IfSome (claimed_root bagging rule claim) (IsTheListOrCollides some)
  list_or_collides some sized =
      let got = claimed_root bagging rule claim in
      both_some (λ made. IsRootOfClaim made × IsToldRoot some made) (IsSound hash bagging rule elements inactive claim)
      (IsTheListOrCollides some) got
      (both_some IsRootOfClaim (IsToldRoot some) (λ made. IsRootOfClaim made × IsToldRoot some made) got
      (root_good hash size hash_sized (λ at high. Unit {0}) plain_over plain_over (plain_fits hash size hash_sized) (from claim.start claim.elements)
      (whole elements) claim.start stop plain_names bagging rule pairs (length elements) inactive claim.leaves claim.inactive claim.outer claim.digests
      (omega (arith, few)) few_inactive (all_take size claim.outer claim.digests sized, all_drop size claim.outer claim.digests sized))
      (list_told hash bagging rule elements (from claim.start claim.elements) claim.leaves claim.inactive claim.start stop some claim.outer claim.digests)
      (λ made one other. (one, other)))
      (plain_sound hash size hash_sized bagging rule pairs elements inactive few few_inactive claim sized)
      (λ made it sound. one_made some made it.0 it.1 sound)

  pub gives_or_collides : 0 < length claim.elements → AllSized size claim.digests
      → IfSome (claimed_root bagging rule claim) (GivesDigestsOrCollides hash bagging rule elements inactive claim)
  gives_or_collides many sized =
      let some : claim.start < stop = omega (arith, many) in
      if_some (IsTheListOrCollides some) (GivesDigestsOrCollides hash bagging rule elements inactive claim) (claimed_root bagging rule claim)
      (list_or_collides some sized)
      (λ made it same. ⊎_elim (λ is. inl (are_given some is.0 is.1)) inr (it same))
