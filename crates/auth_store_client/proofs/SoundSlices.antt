-- Operations that are shown by a witness and a proof stand in the state, or strings collide.
use Rattle.std.proofs.Common.{◌≡◌, ◌⊎◌, inl, inr, ⊎_elim, ℕ, suc, ◌+◌, ◌<◌, ◌≤◌, ◌^◌, leb, ltb, cond, Bool, true}
use Rattle.std.proofs.Common.{false, List, [], ◌∷◌, ◌++◌, length, Option, None, Some, option_map, IfSome, Contains}
use Rattle.std.proofs.Common.{refl, sym, ◌∙◌, ap, subst, arith}
use Rattle.std.specs.Prelude.{slice_get, slice_index_or}
use Rattle.std.proofs.lemmas.Bool.{ltb-true}
use Rattle.std.proofs.lemmas.List.Elements.{Contains-append_left, Contains-append_right}
use Rattle.std.proofs.lemmas.Option.{slice_get-get_or}
use Rattle.merkle_forest.specs.declared.bagging.Bagging.TheVariants.{BackwardFold}
use Rattle.merkle_forest.specs.Forest.{forest_of}
use Rattle.merkle_forest.specs.Hashing.{Hash}
use Rattle.merkle_forest.specs.Laws.ForestGrowth.{leaves-forest_of}
use Rattle.merkle_forest.specs.Laws.Matching.{In, Agrees, agrees_or_collides}
use Rattle.merkle_forest.specs.Made.{Site, at_canonical, Made, bytes, value, Strings, strings, Collision}
use Rattle.merkle_forest.specs.Perfect.{IsPairing}
use Rattle.merkle_forest.specs.Trees.{Located, inactive_peaks, plain_digest, tree_root, end_of}
use Rattle.merkle_theory.specs.Laws.MadeRoots.{IsRoot, Tells, peak_count, root_good}
use Rattle.merkle_theory.specs.Laws.MadeTrees.{AllSized, plain_fits, value_plain}
use Rattle.merkle_theory.specs.Laws.Sound.{agree_in, all_take, all_drop}
use Rattle.merkle_theory.specs.Laws.Values.{value_root}
use Rattle.merkle_theory.specs.MadeRoots.{peaks_of, read_root}
use Rattle.merkle_theory.specs.MadeTrees.{from, whole, plain_over}
use Rattle.merkle_theory.specs.RangeCounts.{range_outer}
use Rattle.merkle_theory.specs.Reads.{range_root}
use Rattle.merkle_theory.specs.Soundness.{plain_names}
use Rattle.state_theory.specs.Canonical.{Setting, State, peaks, operations_root, canonical_root}
use Rattle.state_theory.specs.MadeCanonical.{if_made, next_made}
use Rattle.state_theory.specs.MadeStates.{operations_names, made_operations, hashed_strings}
use Rattle.state_proofs.specs.Witness.{witnessed_string, witnessed_made}
use Rattle.auth_store_client.specs.Slices.{SliceParts, VerifiesSlice}
use Rattle.auth_store_client.specs.MadeSlices.{slice_over, slice_strings}
use Rattle.auth_store_client.proofs.Renaming.{range_alike}

-- a collision in fewer strings is one in more
collision_in : (hash : Hash) (a b c d : Strings) → In a b → In c d → Collision hash a c → Collision hash b d
collision_in hash a b c d first second it = record {
  site = it.site;
  one = it.one;
  other = it.other;
  in_hashed = first (it.site, it.one) it.in_hashed;
  in_rebuilt = second (it.site, it.other) it.in_rebuilt;
  differ = it.differ;
  same = it.same;
}

pub inactive_few : (floor : ℕ) (trees : List Located) → inactive_peaks floor trees ≤ length trees
inactive_few floor [] = omega arith
inactive_few floor (tree ∷ trees) = by (leb (end_of tree) floor) (inactive_few floor trees)
  where
    by : (test : Bool) → inactive_peaks floor trees ≤ length trees → cond test (suc (inactive_peaks floor trees)) 0 ≤ suc (length trees)
    by true le = omega (arith, le)
    by false le = omega arith

-- what is read of a range that is not empty
record IsRead (P : Made → Type 0) (hash : Hash) (count : ℕ) (got : Option Made) (root : List ℕ) : Type 0 where
  some : 0 < count
  made : Made
  is : got ≡ Some made
  holds : P made
  digest : value hash made ≡ root

read_is : (P : Made → Type 0) (hash : Hash) (count : ℕ) (test : Bool) (got : Option Made) (root : List ℕ) → (test ≡ true → 0 < count)
    → IfSome got P → option_map (value hash) (cond test got None) ≡ Some root → IsRead P hash count (cond test got None) root
read_is P hash count false got root some holds is = absurd (let e : ◌≡◌ {A = Option (List ℕ)} None (Some root) = is in cc)
read_is P hash count true None root some holds is = absurd (let e : ◌≡◌ {A = Option (List ℕ)} None (Some root) = is in cc)
read_is P hash count true (Some made) root some holds is = record {
  some = some refl;
  made = made;
  is = refl;
  holds = holds;
  digest = let e : ◌≡◌ {A = Option (List ℕ)} (Some (value hash made)) (Some root) = is in cc;
}

-- the digest of the partial chunk
pub partial_sized : (size : ℕ) (held : Option (ℕ × List ℕ)) → IfSome held (λ x. (x.0 < 2 ^ 64) × (length x.1 ≡ size))
    → IfSome held (λ x. length x.1 ≡ size)
partial_sized size None is = tt
partial_sized size (Some x) is = is.1

-- a witness holds digests alone
no_strings : (hash : Hash) (held : Option (List ℕ)) → strings hash (if_made (option_map (λ digest. bytes digest) held)) ≡ []
no_strings hash None = refl
no_strings hash (Some d) = refl

no_more : (hash : Hash) (held : Option (ℕ × List ℕ)) → strings hash (next_made (option_map (λ x. (x.0, bytes x.1)) held)) ≡ []
no_more hash None = refl
no_more hash (Some x) = refl

module _ (setting : Setting) (hash_sized : (xs : List ℕ) → length (setting.hash xs) ≡ 32) (pairs : IsPairing setting.rule) (state : State)
    (few : length state.operations ≤ 2 ^ 62) (slice : SliceParts) (start : ℕ) (elements : List (List ℕ)) (sized : AllSized 32 slice.digests) where
  abbrev NothingTold : ℕ → ℕ → Type 0
  NothingTold at high = Unit {0}

  abbrev stop : ℕ
  stop = start + length elements

  abbrev inactive : ℕ
  inactive = inactive_peaks state.floor (peaks setting state)

  few_inactive : inactive < 2 ^ 64
  few_inactive = omega (arith, few, inactive_few state.floor (peaks setting state), peak_count setting.rule pairs (length state.operations))

  abbrev Is : Made → Type 0
  Is = IsRoot setting.hash 32 hash_sized NothingTold plain_over plain_over (plain_fits setting.hash 32 hash_sized) (from start elements)
      (whole state.operations) start stop operations_names BackwardFold setting.rule (length state.operations) inactive slice.leaves slice.inactive

  abbrev outer : ℕ
  outer = range_outer BackwardFold start stop slice.inactive (peaks_of setting.rule slice.leaves)

  good : IfSome (read_root operations_names plain_over BackwardFold setting.rule slice.leaves slice.inactive start stop (from start elements) outer
      slice.digests) Is
  good = root_good setting.hash 32 hash_sized NothingTold plain_over plain_over (plain_fits setting.hash 32 hash_sized) (from start elements)
      (whole state.operations) start stop operations_names BackwardFold setting.rule pairs (length state.operations) inactive slice.leaves
      slice.inactive outer slice.digests (omega (arith, few)) few_inactive (all_take 32 outer slice.digests sized, all_drop 32 outer slice.digests sized)

  value_operations : value setting.hash (made_operations setting state) ≡ operations_root setting state
  unfolding operations_root tree_root
  value_operations =
      value_root setting.hash operations_names plain_over (whole state.operations) (plain_digest setting.hash state.operations)
      (value_plain setting.hash state.operations) BackwardFold setting.rule (length state.operations) inactive

  -- the operations stand in the state
  abbrev pub Stand : Type 0
  Stand = (0 < length elements) × ((i : ℕ) → i < length elements → slice_get state.operations (start + i) ≡ slice_get elements i)

  -- strings in the midst of others
  inner : (few more : Strings) (head : Site × List ℕ) → In few (head ∷ (few ++ more))
  inner few more head x here = Contains-append_right (head ∷ []) (few ++ more) x (Contains-append_left few more x here)

  in_state : In (strings setting.hash (made_operations setting state)) (hashed_strings setting state)
  in_state x here = inner (strings setting.hash (made_operations setting state)) _ _ x here

  in_slice : (made : Made) → In (strings setting.hash made) (strings setting.hash (slice_over slice made))
  in_slice made x here = inner (strings setting.hash made) _ _ x here

  in_witnessed : (made : Made) (root : List ℕ) → value setting.hash made ≡ root
      → In (strings setting.hash (witnessed_made slice.witness root)) (strings setting.hash (slice_over slice made))
  in_witnessed made root same x here =
      let pending : Made = if_made (option_map (λ digest. bytes digest) slice.witness.pending) in
      let partial : Made = next_made (option_map (λ y. (y.0, bytes y.1)) slice.witness.partial) in
      let tail : List ℕ = slice.witness.grafted_root ++ (value setting.hash pending ++ value setting.hash partial) in
      let more : Strings = strings setting.hash pending ++ strings setting.hash partial in
      let none : more ≡ [] =
      ap (λ ss. ss ++ strings setting.hash partial) (no_strings setting.hash slice.witness.pending) ∙ no_more setting.hash slice.witness.partial in
      let all : Contains ((at_canonical, root ++ tail) ∷ more) x = here in
      let one : Contains ((at_canonical, root ++ tail) ∷ []) x =
      subst (λ (ss : Strings). Contains ((at_canonical, root ++ tail) ∷ ss) x) none all in
      let own : Contains ((at_canonical, value setting.hash made ++ tail) ∷ []) x =
      subst (λ (v : List ℕ). Contains ((at_canonical, v ++ tail) ∷ []) x) (sym same) one in
      Contains-append_left ((at_canonical, value setting.hash made ++ tail) ∷ []) (strings setting.hash made ++ more) x own

  stands_there : Tells setting.hash 32 hash_sized NothingTold plain_over plain_over (plain_fits setting.hash 32 hash_sized) (from start elements)
      (whole state.operations) start stop operations_names BackwardFold setting.rule (length state.operations) inactive slice.leaves slice.inactive
      → (i : ℕ) → i < length elements → slice_get state.operations (start + i) ≡ slice_get elements i
  stands_there told i below =
      let same : from start elements (start + i) ≡ whole state.operations (start + i) =
      agree_in NothingTold (from start elements) (whole state.operations) start stop (forest_of setting.rule slice.leaves) (start + i)
      (omega arith) (omega (arith, below)) (omega (arith, below, told.within, leaves-forest_of setting.rule pairs slice.leaves)) told.elements in
      slice_get-get_or state.operations (start + i) [] (omega (arith, below, told.within, told.leaf_count))
      ∙ ap (λ x. Some x) (sym same ∙ ap (λ k. slice_index_or elements k []) (omega arith))
      ∙ sym (slice_get-get_or elements i [] below)

  -- what the parts tell: an operation is shown, the root of the operations' tree that they lead to agrees with the state's, and so
  -- its counts and elements are the state's
  pub record SliceTold : Type 0 where
    pub some : 0 < length elements
    pub made : Made
    pub is : range_root operations_names plain_over BackwardFold setting.rule slice.leaves slice.inactive start elements slice.digests ≡ Some made
    pub agrees : Agrees setting.hash made (made_operations setting state)
    pub tells : Tells setting.hash 32 hash_sized NothingTold plain_over plain_over (plain_fits setting.hash 32 hash_sized) (from start elements)
        (whole state.operations) start stop operations_names BackwardFold setting.rule (length state.operations) inactive slice.leaves slice.inactive

  -- so they do where the witness tells the root of the state's operations, and what it holds besides
  pub slice_told : (Held : Type 0) → ((operations : List ℕ) → length operations ≡ 32
      → setting.hash (witnessed_string slice.witness operations) ≡ canonical_root setting state
      → ((operations ≡ operations_root setting state) × Held)
      ⊎ Collision setting.hash (hashed_strings setting state) (strings setting.hash (witnessed_made slice.witness operations)))
      → VerifiesSlice setting.rule setting.hash (canonical_root setting state) slice start elements
      → (SliceTold × Held) ⊎ Collision setting.hash (hashed_strings setting state) (slice_strings setting slice start elements)
  slice_told Held law it =
      let real : Made = made_operations setting state in
      let read = read_is Is setting.hash (length elements) (ltb 0 (length elements))
      (read_root operations_names plain_over BackwardFold setting.rule slice.leaves slice.inactive start stop (from start elements) outer slice.digests)
      it.operations_root (ltb-true 0 (length elements)) good
      (range_alike setting.hash operations_names plain_names plain_over BackwardFold setting.rule slice.leaves slice.inactive start elements slice.digests
      ∙ it.leads) in
      let rebuilt : slice_strings setting slice start elements ≡ strings setting.hash (slice_over slice read.made) =
      ap (λ got. strings setting.hash (if_made (option_map (slice_over slice) got))) read.is in
      let lifted : (few many : Strings) → In few many → many ≡ strings setting.hash (slice_over slice read.made)
      → In few (slice_strings setting slice start elements) =
      λ few many within is x here. subst (λ (ss : Strings). Contains ss x) (is ∙ sym rebuilt) (within x here) in
      ⊎_elim
      (λ root. ⊎_elim
      (λ agrees. inl (record { some = read.some; made = read.made; is = read.is; agrees = agrees; tells = read.holds.1 agrees }, root.1))
      (λ collision. inr (collision_in setting.hash (strings setting.hash real) (hashed_strings setting state) (strings setting.hash read.made)
      (slice_strings setting slice start elements) in_state
      (lifted (strings setting.hash read.made) (strings setting.hash (slice_over slice read.made)) (in_slice read.made) refl) collision))
      (agrees_or_collides setting.hash (strings setting.hash real) (strings setting.hash read.made) read.made real (λ x here. here) (λ x here. here)
      read.holds.0 (read.digest ∙ root.0 ∙ sym value_operations)))
      (λ collision. inr (collision_in setting.hash (hashed_strings setting state) (hashed_strings setting state)
      (strings setting.hash (witnessed_made slice.witness it.operations_root)) (slice_strings setting slice start elements) (λ x here. here)
      (lifted (strings setting.hash (witnessed_made slice.witness it.operations_root)) (strings setting.hash (slice_over slice read.made))
      (in_witnessed read.made it.operations_root read.digest) refl) collision))
      (law it.operations_root (sym (ap length read.digest) ∙ read.holds.2) it.seals)

  pub slice_is_true : ((operations : List ℕ) → length operations ≡ 32
      → setting.hash (witnessed_string slice.witness operations) ≡ canonical_root setting state
      → (operations ≡ operations_root setting state)
      ⊎ Collision setting.hash (hashed_strings setting state) (strings setting.hash (witnessed_made slice.witness operations)))
      → VerifiesSlice setting.rule setting.hash (canonical_root setting state) slice start elements
      → Stand ⊎ Collision setting.hash (hashed_strings setting state) (slice_strings setting slice start elements)
  slice_is_true law it =
      ⊎_elim (λ both. inl (both.0.some, stands_there both.0.tells)) inr
      (slice_told (Unit {0}) (λ operations sized_root seals. ⊎_elim (λ is. inl (is, tt)) inr (law operations sized_root seals)) it)
