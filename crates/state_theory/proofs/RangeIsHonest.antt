-- A proof over a range that verifies under the canonical root of a state is the honest one, or strings collide.
use Rattle.std.proofs.Common.{◌≡◌, ◌⊎◌, inl, inr, ⊎_elim, ℕ, ◌*◌, ◌/◌, ◌%◌, ◌^◌, ◌<◌, ◌≤◌, eqb, ltb, cond, Bool, true}
use Rattle.std.proofs.Common.{false, List, length, Option, None, Some, option_map, refl, ◌∙◌, ap, arith}
use Rattle.std.proofs.lemmas.Bool.{lt-ltb, ltb-true, eqb-false, ne_eqb}
use Rattle.merkle_forest.specs.declared.bagging.Bagging.TheVariants.{BackwardFold}
use Rattle.merkle_forest.specs.Forest.{forest_of}
use Rattle.merkle_forest.specs.Hashing.{Hash}
use Rattle.merkle_forest.specs.Laws.Matching.{Agrees}
use Rattle.merkle_forest.specs.Made.{Site, at_pending, at_partial, Collision}
use Rattle.merkle_forest.specs.Nodes.{nodes_of_height}
use Rattle.merkle_forest.specs.Perfect.{IsPairing}
use Rattle.merkle_theory.specs.HonestReads.{AreDigestsOver, ReadsHonestly}
use Rattle.merkle_theory.specs.Laws.HonestReads.{read_at}
use Rattle.merkle_theory.specs.MadeTrees.{Over, whole}
use Rattle.merkle_theory.specs.Ranges.{Digests}
use Rattle.state_theory.specs.Canonical.{Setting, State, chunk_bits, full_chunks, next_bit, chunks, chunk}
use Rattle.state_theory.specs.Canonical.{forest, grafted_digests, grafted_inactive, pending_digest}
use Rattle.state_theory.specs.Canonical.{partial_digest, canonical_root}
use Rattle.state_theory.specs.Grafting.{grafted_digest}
use Rattle.state_theory.specs.Honest.{grafted_range, honest_range}
use Rattle.state_theory.specs.Laws.MadeGrafted.{grafted_fits}
use Rattle.state_theory.specs.Laws.MadeStates.{branch_grafted}
use Rattle.state_theory.specs.MadeCanonical.{if_made, next_made, chunk_made}
use Rattle.state_theory.specs.MadeGrafted.{grafted_over, grafted_names}
use Rattle.state_theory.specs.MadeRanges.{held_or_made, is_covered, range_strings, HasDigestsOf}
use Rattle.state_theory.specs.MadeStates.{made_chunk, hashed_strings}
use Rattle.state_theory.specs.ShownChunks.{FitsChunk}
use Rattle.state_theory.specs.Verified.{Shown, shown_bits, stop_of, full_shown, graftable_shown, Covers, covering}
use Rattle.state_theory.specs.Verified.{given_by, IsShaped, VerifiesRange, RangeParts}
use Rattle.state_theory.specs.Verifier.{claimed_chunk}
use Rattle.state_theory.proofs.RangeIsTrue.{RangeTold, range_told, covered_is, claimed_widths, made_widths}
use Rattle.state_theory.proofs.StateParts.{not_forty, value_operations}

-- a digest that is held exactly where there is a chunk, and that agrees with the one of the chunk that is there, is this chunk's
same_pending : (hash : Hash) (site : Site) (covers real : List ℕ) (There Covered : Type 0) (test is_there : Bool) (held : Option (List ℕ))
    → FitsChunk hash covers There Covered held → (There → is_there ≡ true) → (is_there ≡ true → There) → (test ≡ true → Covered)
    → Agrees hash (if_made (held_or_made (chunk_made site covers) test held)) (if_made (cond is_there (Some (chunk_made site real)) None))
    → held ≡ cond is_there (Some (hash real)) None
same_pending hash site covers real There Covered test true None fits there some covered agrees = absurd (fits (some refl))
same_pending hash site covers real There Covered test false None fits there some covered agrees = refl
same_pending hash site covers real There Covered test false (Some d) fits there some covered agrees =
    absurd (let clash : false ≡ true = there fits.0 in cc)
same_pending hash site covers real There Covered true true (Some d) fits there some covered agrees =
    ap (λ digest. Some digest) (fits.1 (covered refl) ∙ ap hash agrees.0)
same_pending hash site covers real There Covered false true (Some d) fits there some covered agrees = ap (λ digest. Some digest) agrees

same_partial : (hash : Hash) (site : Site) (covers real : List ℕ) (There Covered : Type 0) (test is_none : Bool) (held : Option (List ℕ)) (n k : ℕ)
    → FitsChunk hash covers There Covered held → (There → is_none ≡ false) → (is_none ≡ false → There) → (test ≡ true → Covered)
    → Agrees hash (next_made (option_map (λ m. (n, m)) (held_or_made (chunk_made site covers) test held)))
    (next_made (option_map (λ m. (k, m)) (cond is_none None (Some (chunk_made site real)))))
    → held ≡ cond is_none None (Some (hash real))
same_partial hash site covers real There Covered test false None n k fits there some covered agrees = absurd (fits (some refl))
same_partial hash site covers real There Covered test true None n k fits there some covered agrees = refl
same_partial hash site covers real There Covered test true (Some d) n k fits there some covered agrees =
    absurd (let clash : true ≡ false = there fits.0 in cc)
same_partial hash site covers real There Covered true false (Some d) n k fits there some covered agrees =
    ap (λ digest. Some digest) (fits.1 (covered refl) ∙ ap hash agrees.1.0)
same_partial hash site covers real There Covered false false (Some d) n k fits there some covered agrees = ap (λ digest. Some digest) agrees.1

abbrev parts_of : ℕ → ℕ → List (List ℕ) → Option (List ℕ) → Option (List ℕ) → List ℕ → RangeParts
parts_of leaf_total inactive digests pending partial operations_root = record {
  leaves = leaf_total;
  inactive = inactive;
  digests = digests;
  pending = pending;
  partial = partial;
  operations_root = operations_root;
}

-- parts of a proof that are the same make the same proof
same_parts : (one other : RangeParts) → one.leaves ≡ other.leaves → one.inactive ≡ other.inactive → one.digests ≡ other.digests
    → one.pending ≡ other.pending → one.partial ≡ other.partial → one.operations_root ≡ other.operations_root → one ≡ other
same_parts one other leaf_counts inactives digest_lists pendings partials roots =
    ap (λ x. parts_of x one.inactive one.digests one.pending one.partial one.operations_root) leaf_counts
    ∙ ap (λ x. parts_of other.leaves x one.digests one.pending one.partial one.operations_root) inactives
    ∙ ap (λ x. parts_of other.leaves other.inactive x one.pending one.partial one.operations_root) digest_lists
    ∙ ap (λ x. parts_of other.leaves other.inactive other.digests x one.partial one.operations_root) pendings
    ∙ ap (λ x. parts_of other.leaves other.inactive other.digests other.pending x one.operations_root) partials
    ∙ ap (parts_of other.leaves other.inactive other.digests other.pending other.partial) roots

-- the digests of the state's grafted tree are made over all its operations
state_made : (setting : Setting) (state : State)
    → AreDigestsOver setting.hash (grafted_over setting.grafting_height (made_chunk setting state)) (whole state.operations)
    (grafted_digest setting.hash setting.grafting_height (chunk_bits setting) (chunks setting state) state.operations)
state_made setting state start stop = record {
  leaf = λ at p from to. refl;
  branch = branch_grafted setting.hash setting.width setting.grafting_height (chunk_bits setting) (chunks setting state) state.operations;
}

module _ (setting : Setting) (hash_sized : (xs : List ℕ) → length (setting.hash xs) ≡ 32)
    (whole_bits : chunk_bits setting ≡ 2 ^ setting.grafting_height) (state : State) (proof : RangeParts) (shown : Shown)
    (wide : shown.width ≡ setting.width) (shaped : IsShaped proof.leaves shown) (told : RangeTold setting hash_sized whole_bits state proof shown) where
  abbrev level : ℕ
  level = setting.grafting_height

  abbrev graftable : ℕ
  graftable = graftable_shown setting.rule level proof

  abbrev real_graftable : ℕ
  real_graftable = nodes_of_height level (forest setting state)

  -- how branches are hashed for the proof, and for the state
  abbrev claimed_over : Over
  claimed_over = grafted_over level (claimed_chunk (given_by level graftable shown) shown.width)

  abbrev real_over : Over
  real_over = grafted_over level (made_chunk setting state)

  same_bits : shown_bits shown ≡ chunk_bits setting
  same_bits = ap (λ n. 8 * n) wide

  full_is : full_shown proof shown ≡ full_chunks setting state
  full_is = ap (λ n. proof.leaves / n) same_bits ∙ ap (λ n. n / chunk_bits setting) told.leaf_count

  left_is : proof.leaves % shown_bits shown ≡ next_bit setting state
  left_is = ap (λ n. proof.leaves % n) same_bits ∙ ap (λ n. n % chunk_bits setting) told.leaf_count

  graftable_is : graftable ≡ real_graftable
  graftable_is = ap (λ n. nodes_of_height level (forest_of setting.rule n)) told.leaf_count

  pending_honest : proof.pending ≡ pending_digest setting state
  unfolding pending_digest
  pending_honest =
      same_pending setting.hash at_pending (covering shown graftable) (chunk setting state real_graftable) (graftable < full_shown proof shown)
      (Covers shown graftable) (is_covered shown graftable) (ltb real_graftable (full_chunks setting state)) proof.pending told.fits.pending
      (λ lt. lt-ltb real_graftable (full_chunks setting state) (omega (arith, lt, graftable_is, full_is)))
      (λ test. omega (arith, ltb-true real_graftable (full_chunks setting state) test, graftable_is, full_is))
      (covered_is shown graftable) told.pending

  partial_honest : proof.partial ≡ partial_digest setting state
  unfolding partial_digest
  partial_honest =
      same_partial setting.hash at_partial (covering shown (full_shown proof shown)) (chunk setting state (full_chunks setting state))
      (0 < proof.leaves % shown_bits shown) (Covers shown (full_shown proof shown)) (is_covered shown (full_shown proof shown))
      (eqb (next_bit setting state) 0) proof.partial (proof.leaves % shown_bits shown) (next_bit setting state) told.fits.partial
      (λ some. ne_eqb (next_bit setting state) 0 (λ none. omega (arith, some, none, left_is)))
      (λ test. omega (arith, eqb-false (next_bit setting state) 0 test, left_is))
      (covered_is shown (full_shown proof shown)) told.partial

  digests_honest : ReadsHonestly setting.rule → proof.digests ≡ grafted_range setting state shown.start (stop_of shown)
  unfolding grafted_range grafted_digests
  digests_honest law =
      let digest : Digests = grafted_digest setting.hash level (chunk_bits setting) (chunks setting state) state.operations in
      let fits = grafted_fits setting.hash hash_sized setting.width (not_forty setting.width level whole_bits) level
      (claimed_chunk (given_by level graftable shown) shown.width) (made_chunk setting state) (claimed_widths setting proof shown wide shaped.wide)
      (made_widths setting state) in
      read_at setting.hash grafted_names claimed_over real_over BackwardFold digest (whole state.operations) setting.rule (length state.operations)
      (grafted_inactive setting state) proof.leaves proof.inactive shown.start shown.operations proof.digests told.grafted law
      (state_made setting state) (λ at high p a b c d same. let parts = fits.agrees at high p a b c d same in (parts.1, parts.2)) told.read
      told.leaf_count told.inactive_count told.agrees

  pub told_honest : ReadsHonestly setting.rule → proof ≡ honest_range setting state shown.start (stop_of shown)
  told_honest law =
      same_parts proof (honest_range setting state shown.start (stop_of shown)) told.leaf_count told.inactive_count (digests_honest law)
      pending_honest partial_honest (told.operations_root ∙ value_operations setting state)

pub range_is_honest : (setting : Setting) → ((xs : List ℕ) → length (setting.hash xs) ≡ 32) → (state : State) (proof : RangeParts) (shown : Shown)
    → IsPairing setting.rule → ReadsHonestly setting.rule → chunk_bits setting ≡ 2 ^ setting.grafting_height
    → length state.operations ≤ 2 ^ 62 → shown.width ≡ setting.width → HasDigestsOf 32 proof
    → VerifiesRange setting.rule setting.hash (canonical_root setting state) proof shown
    → (proof ≡ honest_range setting state shown.start (stop_of shown))
    ⊎ Collision setting.hash (hashed_strings setting state) (range_strings setting proof shown)
range_is_honest setting hash_sized state proof shown pairs law whole_bits few wide sized it =
    ⊎_elim (λ told. inl (told_honest setting hash_sized whole_bits state proof shown wide it.shaped told law)) inr
    (range_told setting hash_sized state proof shown pairs whole_bits few wide sized it)
