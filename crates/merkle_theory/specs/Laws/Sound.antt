-- Where the claim leads to the list's root it is true of the list, or the strings collide.
use Rattle.std.proofs.Common.{◌≡◌, ◌⊎◌, inl, inr, ⊎_elim, ℕ, zero, suc, ◌+◌, ◌<◌, ◌≤◌, ◌^◌, leb, true, not, ◌||◌, List}
use Rattle.std.proofs.Common.{[], ◌∷◌, ◌++◌, length, take, drop, Option, None, Some, IfSome, sym, ◌∙◌, ap, subst, arith}
use Rattle.std.specs.List.{AllByRecursion}
use Rattle.std.specs.Prelude.{slice_index_or}
use Rattle.std.proofs.lemmas.Bool.{cases_lt, lt-leb}
use Rattle.merkle_forest.specs.declared.bagging.Bagging.{Bagging}
use Rattle.merkle_forest.specs.Forest.{Tree, leaf, branch, leaf_count, leaves, Rule, forest_of}
use Rattle.merkle_forest.specs.Laws.ForestGrowth.{leaves-forest_of}
use Rattle.merkle_forest.specs.Hashing.{Hash}
use Rattle.merkle_forest.specs.Perfect.{IsPairing}
use Rattle.merkle_forest.specs.Trees.{Located, located, plain_digest}
use Rattle.merkle_theory.specs.Ranges.{meets}
use Rattle.merkle_forest.specs.Made.{Made, value, strings, Collision}
use Rattle.merkle_forest.specs.Laws.Matching.{agrees_or_collides}
use Rattle.merkle_theory.specs.MadeTrees.{Elements, from, whole, plain_over, made_tree, read_tree}
use Rattle.merkle_theory.specs.Laws.MadeTrees.{AllSized, AgreeOver, IsGood, read_good, plain_fits, value_plain}
use Rattle.merkle_theory.specs.Laws.MadeRoots.{IsRoot, Tells, root_good}
use Rattle.merkle_theory.specs.Soundness.{plain_names, list_root, RangeClaim, claimed_root, IsTrueOf, hashed_strings}
use Rattle.merkle_theory.specs.Soundness.{IsSound}

module _ (Told : ℕ → ℕ → Type 0) (claimed real : Elements) (start stop : ℕ) where
  pub over_location : (at : ℕ) (t : Tree) (l : ℕ) → start ≤ l → l < stop → at ≤ l → l < at + leaf_count t
      → meets start stop (at, t) ≡ true
  over_location at t l from to low high =
      ap (λ b. not (b || leb stop at)) (lt-leb (at + leaf_count t) start (omega (arith, from, high)))
      ∙ ap not (lt-leb stop at (omega (arith, to, low)))

  -- in a tree the elements of the range agree
  agree_at : (at : ℕ) (t : Tree) (l : ℕ) → start ≤ l → l < stop → at ≤ l → l < at + leaf_count t
      → AgreeOver Told claimed real start stop at t
      → claimed l ≡ real l
  agree_at at (leaf p) l from to low high agree =
      subst (λ k. claimed k ≡ real k) (omega arith) (agree (over_location at (leaf p) l from to low high))
  agree_at at (branch p left right) l from to low high agree =
      let parts = agree (over_location at (branch p left right) l from to low high) in
      ⊎_elim (λ below. agree_at at left l from to low below parts.1) (λ above. agree_at (at
      + leaf_count left) right l from to above (omega
      (arith, high)) parts.2) (cases_lt l (at + leaf_count left))

  abbrev pub AgreesIn : Located → Type 0
  AgreesIn peak = AgreeOver Told claimed real start stop peak.0 peak.1

  pub all_parts : (front back : List Located) → AllByRecursion AgreesIn (front ++ back) → AllByRecursion AgreesIn front
      × AllByRecursion AgreesIn back
  all_parts [] back all = (tt, all)
  all_parts (peak ∷ front) back all = let rest = all_parts front back all.1 in ((all.0, rest.0), rest.1)

  -- and so they do in all trees
  pub agree_in : (trees : List Tree) (l : ℕ) → start ≤ l → l < stop → l < leaves trees
      → AllByRecursion AgreesIn (located trees) → claimed l ≡ real l
  agree_in [] l from to within all = absurd (omega (arith, within))
  agree_in (t ∷ trees) l from to within all =
      let parts = all_parts (located trees) ((leaves trees, t) ∷ []) all in
      ⊎_elim (λ below. agree_in trees l from to below parts.0)
      (λ above. agree_at (leaves trees) t l from to above (omega
      (arith, within)) parts.1.0) (cases_lt l (leaves trees))

pub all_take : (size n : ℕ) (digests : List (List ℕ)) → AllSized size digests → AllSized size (take n digests)
all_take size zero digests all = tt
all_take size (suc n) [] all = tt
all_take size (suc n) (d ∷ digests) all = (all.0, all_take size n digests all.1)

pub all_drop : (size n : ℕ) (digests : List (List ℕ)) → AllSized size digests → AllSized size (drop n digests)
all_drop size zero digests all = all
all_drop size (suc n) [] all = tt
all_drop size (suc n) (d ∷ digests) all = all_drop size n digests all.1

pub if_some : {A : Type 0} (P Q : A → Type 0) (got : Option A) → IfSome got P → ((x : A) → P x → Q x) → IfSome got Q
if_some P Q None p each = tt
if_some P Q (Some x) p each = each x p

module _ (hash : Hash) (size : ℕ) (hash_sized : (xs : List ℕ) → length (hash xs) ≡ size) (bagging : Bagging)
    (rule : Rule) (pairs : IsPairing rule)
    (elements : List (List ℕ)) (inactive : ℕ) (few : length elements ≤ 2 ^ 62) (few_inactive : inactive < 2 ^ 64)
    (claim : RangeClaim) where
  abbrev NothingTold : ℕ → ℕ → Type 0
  NothingTold at high = Unit {0}

  abbrev IsRootOfClaim : Made → Type 0
  IsRootOfClaim =
      IsRoot hash size hash_sized NothingTold plain_over plain_over (plain_fits hash size hash_sized)
      (from claim.start claim.elements)
      (whole elements)
      claim.start (claim.start + length claim.elements) plain_names bagging rule
      (length elements) inactive claim.leaves claim.inactive

  true_of : Tells hash size hash_sized NothingTold plain_over plain_over (plain_fits hash size hash_sized)
      (from claim.start claim.elements) (whole elements)
      claim.start (claim.start + length claim.elements) plain_names bagging rule
      (length elements) inactive claim.leaves claim.inactive
      → IsTrueOf elements inactive claim
  true_of told = record {
    leaf_count = told.leaf_count;
    inactive_count = told.inactive_count;
    within = omega (arith, told.within, told.leaf_count);
    stands = λ i below.
        ap (λ k. slice_index_or claim.elements k []) (omega arith)
        ∙ agree_in NothingTold (from claim.start claim.elements) (whole elements) claim.start (claim.start
        + length claim.elements)
        (forest_of rule claim.leaves) (claim.start + i)
        (omega arith) (omega (arith, below)) (omega (
          arith,
          below,
          told.within,
          leaves-forest_of rule pairs claim.leaves,
        )) told.elements;
  }

  pub plain_sound : AllSized size claim.digests
      → IfSome (claimed_root bagging rule claim) (IsSound hash bagging rule elements inactive claim)
  plain_sound sized =
      if_some IsRootOfClaim (IsSound hash bagging rule elements inactive claim) (claimed_root bagging rule claim)
      (root_good hash size hash_sized NothingTold plain_over plain_over (plain_fits hash size hash_sized)
      (from claim.start claim.elements) (whole elements)
      claim.start (claim.start + length claim.elements) plain_names bagging rule pairs
      (length elements) inactive claim.leaves claim.inactive claim.outer claim.digests
      (omega (arith, few)) few_inactive (
        all_take size claim.outer claim.digests sized,
        all_drop size claim.outer claim.digests sized,
      ))
      (λ made is same. ⊎_elim (λ agrees. inl (true_of (is.1 agrees))) inr
      (agrees_or_collides hash (hashed_strings hash bagging rule elements inactive) (strings hash made) made
      (list_root bagging rule elements inactive)
      (λ x here. here) (λ x here. here) is.0 same))

-- one tree alone: where a tree is read with the digest of the tree that is there, the elements of the range are its
-- elements, or strings collide
pub tree_sound : (hash : Hash) (size : ℕ)
    (hash_sized : (xs : List ℕ) → length (hash xs) ≡ size) (elements claimed : List (List ℕ)) (start at : ℕ) (t : Tree)
    (digests : List (List ℕ))
    → AllSized size digests
    → IfSome (read_tree plain_over (from start claimed) start (start + length claimed) at t digests)
    (λ got. value hash got.0 ≡ plain_digest hash elements at t
    → ((l : ℕ) → start ≤ l → l < start + length claimed → at ≤ l → l < at + leaf_count t
    → from start claimed l ≡ whole elements l)
    ⊎ Collision hash (strings hash (made_tree plain_over (whole elements) at t)) (strings hash got.0))
tree_sound hash size hash_sized elements claimed start at t digests sized =
    if_some (IsGood hash size hash_sized (λ x y. Unit {0}) plain_over plain_over
    (plain_fits hash size hash_sized) (from start claimed)
    (whole elements) start (start + length claimed) at t)
    (λ got. value hash got.0 ≡ plain_digest hash elements at t
    → ((l : ℕ) → start ≤ l → l < start + length claimed → at ≤ l → l < at + leaf_count t
    → from start claimed l ≡ whole elements l)
    ⊎ Collision hash (strings hash (made_tree plain_over (whole elements) at t)) (strings hash got.0))
    (read_tree plain_over (from start claimed) start (start + length claimed) at t digests)
    (read_good hash size hash_sized (λ x y. Unit {0}) plain_over plain_over
    (plain_fits hash size hash_sized) (from start claimed)
    (whole elements) start (start + length claimed) at t digests sized)
    (λ got good same. ⊎_elim
    (λ agrees. inl (λ l from_start to low high. agree_at (λ x y. Unit {0}) (from start claimed) (whole elements) start
    (start + length claimed) at t l from_start to low high (good.0.2 agrees))) inr
    (agrees_or_collides hash (strings hash (made_tree plain_over (whole elements) at t))
    (strings hash got.0) got.0 (made_tree plain_over
    (whole elements) at t) (λ x here. here) (λ x here. here) good.0.1
    (same ∙ sym (value_plain hash elements at t))))
