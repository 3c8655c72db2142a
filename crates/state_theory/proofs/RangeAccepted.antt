-- The honest proof over operations of a state verifies.
use Rattle.std.proofs.Common.{◌≡◌, inl, inr, ⊎_elim, ℕ, zero, suc, ◌+◌, ◌-◌, ◌*◌, ◌/◌, ◌%◌, ◌^◌, ◌<◌, ◌≤◌, eqb, ltb}
use Rattle.std.proofs.Common.{leb, cond, ◌||◌, Bool, true, false, List, [], ◌∷◌, ◌++◌, length, replicate, take, drop}
use Rattle.std.proofs.Common.{Option, Some, None, option_map, refl, sym, ◌∙◌, ap, subst, arith}
use Rattle.std.specs.Prelude.{slice_get, slice_index_or}
use Rattle.std.specs.List.{AllByRecursion}
use Rattle.std.proofs.lemmas.Bool.{cases_lt, lt-ltb, ltb-true, le-leb, leb-false, eqb-true, eqb-false, ne_eqb, or_parts, not-true}
use Rattle.std.proofs.lemmas.Nat.{pow_pos, div-mul-add}
use Rattle.std.proofs.Math.Nat.{div-lt_iff_lt-mul}
use Rattle.merkle_forest.specs.declared.bagging.Bagging.{Bagging}
use Rattle.merkle_forest.specs.declared.bagging.Bagging.TheVariants.{BackwardFold}
use Rattle.merkle_forest.specs.Forest.{Tree, leaf, branch, height, leaf_count, leaves, Rule, forest_of}
use Rattle.merkle_forest.specs.Hashing.{Hash, leaf_string, root_of}
use Rattle.merkle_forest.specs.Laws.Nodes.{node-leaves}
use Rattle.merkle_forest.specs.Made.{Made, value}
use Rattle.merkle_forest.specs.Nodes.{IsWithin, IsNodeAt, nodes_of_height}
use Rattle.merkle_forest.specs.Perfect.{IsPairing}
use Rattle.merkle_forest.specs.Trees.{Located, located, peak_digests}
use Rattle.merkle_theory.specs.MadeRoots.{Naming}
use Rattle.merkle_theory.specs.MadeTrees.{Over, from}
use Rattle.merkle_theory.specs.Ranges.{Digests, meets, is_before, is_after, range_digests}
use Rattle.merkle_theory.specs.Reads.{Agrees, range_root}
use Rattle.state_theory.specs.SetBits.{is_zero}
use Rattle.state_theory.specs.Canonical.{Setting, State, chunk_bits, full_chunks, next_bit, chunks, chunk}
use Rattle.state_theory.specs.Canonical.{forest, peaks, grafted_digests, grafted_inactive, grafted_root}
use Rattle.state_theory.specs.Canonical.{operations_root, pending_digest, partial_digest, canonical_string}
use Rattle.state_theory.specs.Canonical.{canonical_root}
use Rattle.state_theory.specs.Grafting.{grafted_digest}
use Rattle.state_theory.specs.Honest.{grafted_range, honest_range}
use Rattle.state_theory.specs.Laws.MadeStates.{branch_grafted}
use Rattle.state_theory.specs.MadeGrafted.{joined_in, grafted_case, grafted_over, grafted_names}
use Rattle.state_theory.specs.MadeRanges.{HasRange}
use Rattle.state_theory.specs.MadeStates.{made_chunk}
use Rattle.state_theory.specs.ShownChunks.{FitsChunk}
use Rattle.state_theory.specs.Verified.{Shown, shown_bits, stop_of, first_index, last_index, Covers, covering}
use Rattle.state_theory.specs.Verified.{given_by, shown_grafted, IsShaped, FitsShown, VerifiesRange}
use Rattle.state_theory.specs.Verifier.{Given, given_chunk, claimed_chunk}
use Rattle.state_theory.specs.Laws.ChunkCounts.{Aligned, inactive-few}
use Rattle.state_theory.specs.Laws.Chunks.{any_default, location_chunks}
use Rattle.state_theory.specs.Laws.Heights.{some_height}
use Rattle.state_theory.proofs.RangeIsTrue.{both_on}
use Rattle.state_theory.proofs.SameReading.{Alike, AllAlike, range_same}
use Rattle.state_theory.proofs.StateParts.{Counted}

-- the law that the honest digests of a range lead to the root
abbrev pub RangeLeads : Rule → Type 0
RangeLeads rule = (hash : Hash) (names : Naming) (over : Over) (bagging : Bagging) (digest : Digests)
    (leaf_total inactive start : ℕ) (elements : List (List ℕ))
    → leaf_total ≤ 2 ^ 62 → 0 < length elements → start + length elements ≤ leaf_total
    → inactive ≤ length (forest_of rule leaf_total)
    → Agrees hash over (from start elements) digest start (start + length elements)
    → option_map (value hash) (range_root names over bagging rule leaf_total inactive start elements
    (range_digests hash digest bagging start (start + length elements)
    (take inactive (located (forest_of rule leaf_total)))
    (drop inactive (located (forest_of rule leaf_total)))))
    ≡ Some (root_of hash bagging leaf_total inactive (peak_digests digest (forest_of rule leaf_total)))

-- what stands at an index, or else this
abbrev else_of : List ℕ → Option (List ℕ) → List ℕ
else_of none None = none
else_of none (Some x) = x

index_get : (xs : List (List ℕ)) (i : ℕ) (none : List ℕ) → slice_index_or xs i none ≡ else_of none (slice_get xs i)
index_get [] i none = refl
index_get (x ∷ xs) zero none = refl
index_get (x ∷ xs) (suc i) none = index_get xs i none

-- the digest of a chunk that may be there fits
fits_some : (hash : Hash) (one held : List ℕ) (There Covered : Type 0) (test : Bool) → (test ≡ true → There)
    → (There → test ≡ true) → (Covered → held ≡ one)
    → FitsChunk hash one There Covered (cond test (Some (hash held)) None)
fits_some hash one held There Covered true there test same = (there refl, λ covered. ap hash (same covered))
fits_some hash one held There Covered false there test same = λ is. absurd (let e : false ≡ true = test is in cc)

fits_none : (hash : Hash) (one held : List ℕ) (There Covered : Type 0) (test : Bool) → (test ≡ false → There)
    → (There → test ≡ false) → (Covered → held ≡ one)
    → FitsChunk hash one There Covered (cond test None (Some (hash held)))
fits_none hash one held There Covered true there test same = λ is. absurd (let e : true ≡ false = test is in cc)
fits_none hash one held There Covered false there test same = (there refl, λ covered. ap hash (same covered))

-- hashed alike where at the grafting height the chunks are the same
case_same : (p : ℕ) (string : Made) (one other : List ℕ) (same below : Bool) → (same ≡ true → one ≡ other)
    → grafted_case p string one same below (is_zero one) ≡ grafted_case p string other same below (is_zero other)
case_same p string one other true below is = ap (λ c. joined_in p string c (is_zero c)) (is refl)
case_same p string one other false true is = refl
case_same p string one other false false is = refl

-- a tree that meets the range has a leaf in it
pub met_in : (start stop at : ℕ) (t : Tree) → meets start stop (at, t) ≡ true → (start < at + leaf_count t) × (at < stop)
met_in start stop at t met =
    let sides = or_parts (is_before start (at, t)) (is_after stop (at, t)) (not-true (is_before start (at, t) || is_after stop (at, t)) met) in
    (leb-false (at + leaf_count t) start sides.0, leb-false stop at sides.1)

all_after : (P : Located → Type 0) (xs ys : List Located) → AllByRecursion P xs → AllByRecursion P ys → AllByRecursion P (xs ++ ys)
all_after P [] ys one other = other
all_after P (x ∷ xs) ys one other = (one.0, all_after P xs ys one.1 other)

module _ (setting : Setting) (state : State) (shown : Shown) (pairs : IsPairing setting.rule) (aligned : Aligned setting.rule)
    (counted : Counted setting.rule) (whole : chunk_bits setting ≡ 2 ^ setting.grafting_height) (low : setting.grafting_height ≤ 62)
    (few : length state.operations ≤ 2 ^ 62) (wide : shown.width ≡ setting.width) (shaped : IsShaped (length state.operations) shown)
    (has : HasRange setting state shown) where
  abbrev start : ℕ
  start = shown.start

  abbrev stop : ℕ
  stop = stop_of shown

  abbrev level : ℕ
  level = setting.grafting_height

  abbrev bits : ℕ
  bits = chunk_bits setting

  abbrev graftable : ℕ
  graftable = nodes_of_height level (forest setting state)

  abbrev given : Given
  given = given_by level graftable shown

  -- how the proof's reader hashes, and how the state's tree is hashed
  abbrev claimed : Over
  claimed = grafted_over level (claimed_chunk given shown.width)

  abbrev real : Over
  real = grafted_over level (made_chunk setting state)

  some_bits : 0 < bits
  some_bits = omega (arith, whole, pow_pos level)

  some_level : 0 < level
  some_level = some_height setting.width level whole

  same_bits : shown_bits shown ≡ bits
  same_bits = ap (λ n. 8 * n) wide

  -- the chunk that is shown at an index is the state's
  shown_chunk : (index : ℕ) (none : List ℕ) → first_index shown ≤ index → index < first_index shown + length shown.chunks
      → slice_index_or shown.chunks (index - first_index shown) none ≡ chunk setting state index
  shown_chunk index none above below =
      index_get shown.chunks (index - first_index shown) none
      ∙ ap (else_of none) (has.chunks (index - first_index shown) (omega (arith, above, below)))
      ∙ ap (chunk setting state) (omega (arith, above))

  -- a chunk whose node meets the range is shown
  is_shown : (part : ℕ) → start < part * bits + bits → part * bits < stop
      → (first_index shown ≤ part) × (part < first_index shown + length shown.chunks)
  is_shown part after before =
      let first : start / bits < part + 1 = (div-lt_iff_lt-mul {k = bits} {x = start} {y = part + 1} some_bits).1 (omega (arith, after)) in
      let last : part ≤ (stop - 1) / bits =
      ⊎_elim (λ lt. absurd (omega (arith, before, (div-lt_iff_lt-mul {k = bits} {x = stop - 1} {y = part} some_bits).0 lt))) (λ le. le)
      (cases_lt ((stop - 1) / bits) part) in
      let first_is : first_index shown ≡ start / bits = ap (λ n. start / n) same_bits in
      let last_is : last_index shown ≡ (stop - 1) / bits = ap (λ n. (stop - 1) / n) same_bits in
      (omega (arith, first, first_is), omega (arith, last, last_is, shaped.counted))

  -- at a node of the grafting height that meets the range the reader joins in the state's chunk
  pub same_at : (at p : ℕ) (left right : Tree) → IsNodeAt at (branch p left right) (forest setting state)
      → meets start stop (at, branch p left right) ≡ true → eqb (height (branch p left right)) level ≡ true
      → claimed_chunk given shown.width at ≡ made_chunk setting state at
  same_at at p left right stands met tall =
      let node : Tree = branch p left right in
      let high : height node ≡ level = eqb-true (height node) level tall in
      let room = node-leaves setting.rule pairs (length state.operations) at node stands in
      let place = aligned (length state.operations) at node stands in
      let part : ℕ = place.0 in
      let power : bits ≡ 2 ^ height node = whole ∙ ap (λ h. 2 ^ h) (sym high) in
      let begins : at ≡ part * bits = place.1 ∙ ap (λ n. part * n) (sym power) in
      let sides = met_in start stop at node met in
      let here = is_shown part (omega (arith, sides.0, begins, room.0, power)) (omega (arith, sides.1, begins)) in
      let at_level : at ≡ part * 2 ^ level = begins ∙ ap (λ n. part * n) whole in
      let there : IsNodeAt (part * 2 ^ level) node (forest setting state) = subst (λ k. IsNodeAt k node (forest setting state)) at_level stands in
      let born : part < graftable = (counted (length state.operations) part level few some_level low).0 (node, there, sym high) in
      let zeros : List ℕ = replicate shown.width 0 in
      let index_level : at / 2 ^ level ≡ part = ap (λ n. n / 2 ^ level) (omega (arith, at_level)) ∙ div-mul-add part (2 ^ level) 0 (pow_pos level) in
      let index_bits : at / bits ≡ part = ap (λ n. n / bits) (omega (arith, begins)) ∙ div-mul-add part bits 0 some_bits in
      let within : at < length state.operations = omega (arith, room.1, pow_pos (height node)) in
      let in_chunks : part < length (chunks setting state) =
      omega (arith, index_bits, location_chunks setting state at (omega (arith, some_bits)) within) in
      ap (given_chunk given zeros) index_level
      ∙ both_on (ltb part graftable) (leb (first_index shown) part) _ _ (lt-ltb part graftable born) (le-leb (first_index shown) part here.0)
      ∙ shown_chunk part zeros here.0 here.1
      ∙ any_default (chunks setting state) part [] (replicate setting.width 0) in_chunks
      ∙ ap (λ n. slice_index_or (chunks setting state) n (replicate setting.width 0)) (sym index_bits)

  alike_in : (at : ℕ) (t : Tree) → ((first : ℕ) (node : Tree) → IsWithin first node at t → IsNodeAt first node (forest setting state))
      → Alike claimed real (from start shown.operations) start stop at t
  alike_in at (leaf p) all = tt
  alike_in at (branch p left right) all = (
    λ met string. case_same p string (claimed_chunk given shown.width at) (made_chunk setting state at) (eqb (height (branch p left right)) level)
        (ltb (height (branch p left right)) level) (same_at at p left right (all at (branch p left right) (inl (refl, refl))) met),
    alike_in at left (λ first node within. all first node (inr (inl within))),
    alike_in (at + leaf_count left) right (λ first node within. all first node (inr (inr within))),
  )

  alike_among : (trees : List Tree) → ((first : ℕ) (node : Tree) → IsNodeAt first node trees → IsNodeAt first node (forest setting state))
      → AllAlike claimed real (from start shown.operations) start stop (located trees)
  alike_among [] all = tt
  alike_among (t ∷ ts) all =
      all_after (λ peak. Alike claimed real (from start shown.operations) start stop peak.0 peak.1) (located ts) ((leaves ts, t) ∷ [])
      (alike_among ts (λ first node stands. all first node (inr stands)))
      (alike_in (leaves ts) t (λ first node within. all first node (inl within)), tt)

  -- the digests of the state's grafted tree are made over the operations that are shown
  pub agrees : Agrees setting.hash real (from start shown.operations) (grafted_digest setting.hash level bits (chunks setting state) state.operations)
      start stop
  agrees = record {
    leaf = λ at p from_start to.
        (let same : slice_index_or shown.operations (at - start) [] ≡ slice_index_or state.operations at [] =
        index_get shown.operations (at - start) []
        ∙ ap (else_of []) (sym (has.stands (at - start) (omega (arith, from_start, to))) ∙ ap (slice_get state.operations) (omega (arith, from_start)))
        ∙ sym (index_get state.operations at []) in
        ap (λ e. setting.hash (leaf_string p e)) same);
    branch = branch_grafted setting.hash setting.width level bits (chunks setting state) state.operations;
  }

  leads : RangeLeads setting.rule
      → option_map (value setting.hash) (shown_grafted setting.rule level (honest_range setting state start stop) shown)
      ≡ Some (grafted_root setting state)
  unfolding grafted_range grafted_root grafted_digests
  leads law =
      let n : ℕ = length state.operations in
      let inactive : ℕ = grafted_inactive setting state in
      let digest : ℕ → Tree → List ℕ = grafted_digest setting.hash level bits (chunks setting state) state.operations in
      let digests : List (List ℕ) = range_digests setting.hash digest BackwardFold start stop (take inactive (peaks setting state))
      (drop inactive (peaks setting state)) in
      ap (option_map (value setting.hash))
      (range_same claimed real grafted_names BackwardFold setting.rule n inactive start shown.operations digests
      (alike_among (forest setting state) (λ first node stands. stands)))
      ∙ law setting.hash grafted_names real BackwardFold digest n inactive start shown.operations few shaped.some shaped.within
      (inactive-few setting state) agrees

  full_is : length state.operations / shown_bits shown ≡ full_chunks setting state
  full_is = ap (λ n. length state.operations / n) same_bits

  left_is : length state.operations % shown_bits shown ≡ next_bit setting state
  left_is = ap (λ n. length state.operations % n) same_bits

  -- the digest of the pending chunk, and that of the partial one
  pending_fits : FitsChunk setting.hash (covering shown graftable) (graftable < full_chunks setting state) (Covers shown graftable)
      (pending_digest setting state)
  unfolding pending_digest
  pending_fits =
      fits_some setting.hash (covering shown graftable) (chunk setting state graftable) (graftable < full_chunks setting state)
      (Covers shown graftable) (ltb graftable (full_chunks setting state)) (ltb-true graftable (full_chunks setting state))
      (lt-ltb graftable (full_chunks setting state))
      (λ (covers : Covers shown graftable). sym (shown_chunk graftable [] covers.0 covers.1))

  partial_fits : FitsChunk setting.hash (covering shown (full_chunks setting state)) (0 < next_bit setting state)
      (Covers shown (full_chunks setting state)) (partial_digest setting state)
  unfolding partial_digest
  partial_fits =
      let full : ℕ = full_chunks setting state in
      fits_none setting.hash (covering shown full) (chunk setting state full) (0 < next_bit setting state) (Covers shown full)
      (eqb (next_bit setting state) 0)
      (λ test. omega (arith, eqb-false (next_bit setting state) 0 test))
      (λ some. ne_eqb (next_bit setting state) 0 (λ none. omega (arith, none, some)))
      (λ (covers : Covers shown full). sym (shown_chunk full [] covers.0 covers.1))

  fits : full_chunks setting state ≤ graftable + 1 → FitsShown setting.hash graftable (honest_range setting state start stop) shown
  fits one = record {
    one_pending = omega (arith, one, full_is);
    pending = subst (λ (full : ℕ). FitsChunk setting.hash (covering shown graftable) (graftable < full) (Covers shown graftable)
        (pending_digest setting state)) (sym full_is) pending_fits;
    partial = subst (λ (left : ℕ). FitsChunk setting.hash (covering shown (length state.operations / shown_bits shown)) (0 < left)
        (Covers shown (length state.operations / shown_bits shown)) (partial_digest setting state)) (sym left_is)
        (subst (λ (full : ℕ). FitsChunk setting.hash (covering shown full) (0 < next_bit setting state) (Covers shown full)
        (partial_digest setting state)) (sym full_is) partial_fits);
  }

  pub range_verifies : RangeLeads setting.rule → length state.operations / 2 ^ level ≤ graftable + 1
      → VerifiesRange setting.rule setting.hash (canonical_root setting state) (honest_range setting state start stop) shown
  unfolding canonical_root
  range_verifies law pending = record {
    grafting_height = level;
    whole = same_bits ∙ whole;
    low = low;
    few = few;
    shaped = shaped;
    fits = fits (subst (λ (n : ℕ). length state.operations / n ≤ graftable + 1) (sym whole) pending);
    grafted_root = grafted_root setting state;
    leads = leads law;
    seals = ap (λ next. setting.hash (canonical_string (operations_root setting state) (grafted_root setting state) (pending_digest setting state) next
        (partial_digest setting state))) left_is;
  }
