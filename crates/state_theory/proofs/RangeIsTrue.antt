-- A proof over a range that verifies under the canonical root of a state tells the truth, or strings collide.
use Rattle.std.proofs.Common.{◌≡◌, ◌⊎◌, inl, inr, ⊎_elim, ℕ, zero, suc, ◌+◌}
use Rattle.std.proofs.Common.{◌-◌, ◌*◌, ◌/◌, ◌%◌, ◌^◌, ◌<◌, ◌≤◌, eqb}
use Rattle.std.proofs.Common.{ltb, leb, cond, ◌&&◌, Bool, true, false, List, [], ◌∷◌, length, replicate, Option, None}
use Rattle.std.proofs.Common.{Some, option_map, IfSome, refl, sym, ◌∙◌, ap, subst, arith}
use Rattle.std.specs.Prelude.{slice_get, slice_index_or}
use Rattle.std.specs.List.{AllByRecursion}
use Rattle.std.proofs.lemmas.Bool.{cases_lt, lt-ltb, le-leb, ltb-true, leb-true, and_parts, eq-eqb, ne_eqb}
use Rattle.std.proofs.lemmas.List.{length-replicate}
use Rattle.std.proofs.lemmas.Nat.{pow_pos, div-mul-add}
use Rattle.std.proofs.Math.Nat.{div-add-mod, mul-le-mul_left}
use Rattle.merkle_forest.specs.declared.bagging.Bagging.TheVariants.{BackwardFold}
use Rattle.merkle_forest.specs.Forest.{height, leaf_count, Rule, forest_of}
use Rattle.merkle_forest.specs.Hashing.{Hash}
use Rattle.merkle_forest.specs.Laws.ForestGrowth.{leaves-forest_of}
use Rattle.merkle_forest.specs.Laws.Nodes.{node-leaves}
use Rattle.merkle_forest.specs.Laws.Matching.{Agrees}
use Rattle.merkle_forest.specs.Made.{at_pending, at_partial, Made, bytes, value, strings, Collision}
use Rattle.merkle_forest.specs.Nodes.{nodes_of_height}
use Rattle.merkle_forest.specs.Perfect.{IsPairing}
use Rattle.merkle_forest.specs.Trees.{Located, located}
use Rattle.merkle_theory.specs.Laws.MadeTrees.{AgreeOver, all_sized}
use Rattle.merkle_theory.specs.Laws.Sound.{agree_in}
use Rattle.merkle_theory.specs.MadeTrees.{from, whole}
use Rattle.merkle_theory.specs.MadeRoots.{peaks_of}
use Rattle.merkle_theory.specs.RangeCounts.{range_outer}
use Rattle.state_theory.specs.Canonical.{Setting, State, chunk_bits, full_chunks, next_bit, chunks, chunk}
use Rattle.state_theory.specs.Canonical.{forest, grafted_inactive, canonical_string, canonical_root}
use Rattle.state_theory.specs.Laws.MadeCanonical.{value_canonical}
use Rattle.state_theory.specs.Laws.MadeGrafted.{SameChunk}
use Rattle.state_theory.specs.Laws.MadeStates.{state_sound}
use Rattle.state_theory.specs.MadeCanonical.{if_made, next_made}
use Rattle.state_theory.specs.MadeRanges.{is_covered, range_pending, range_partial, range_over, range_strings, HasDigestsOf, HasRange}
use Rattle.state_theory.specs.MadeStates.{made_operations, made_grafted, made_chunk, made_pending, made_partial, made_state, hashed_strings}
use Rattle.state_theory.specs.Verified.{Shown, shown_bits, stop_of, first_index, last_index, full_shown}
use Rattle.state_theory.specs.Verified.{graftable_shown, Covers, covering, given_by, shown_grafted, IsShaped}
use Rattle.state_theory.specs.Verified.{FitsShown, VerifiesRange, RangeParts}
use Rattle.state_theory.specs.Verifier.{Given, given_chunk, claimed_chunk}
use Rattle.state_theory.specs.Laws.ChunkCounts.{index-few}
use Rattle.state_theory.specs.Laws.Chunks.{any_default, location_chunks, chunks-wide}
use Rattle.state_theory.specs.Laws.Heights.{same_power, some_height}
use Rattle.state_theory.specs.Laws.Verifier.{claimed-wide}
use Rattle.state_theory.proofs.StateParts.{Counted, not_forty, left_over, both_true, held_value, held_sized}
use Rattle.state_theory.proofs.StateParts.{next_sized, some_sized, none_sized, match_made, match_next, some_made}
use Rattle.state_theory.proofs.StateParts.{none_made, same_pending, same_partial, not_none, string_same, told_at}
use Rattle.state_theory.proofs.StateParts.{value_state, few_inactive, get_some, if_is}

-- a number of the range that is one of a chunk's locations
record IsIn (start stop index bits : ℕ) : Type 0 where
  location : ℕ
  from : start ≤ location
  to : location < stop
  low : index * bits ≤ location
  high : location < index * bits + bits

in_chunk : (start stop index bits : ℕ) → 0 < bits → start < stop → start / bits ≤ index → index ≤ (stop - 1) / bits
    → IsIn start stop index bits
in_chunk start stop index bits some lt first last =
    elim (cases_lt (index * bits) start) [
      | inl before ↦ record {
        location = start;
        from = omega arith;
        to = lt;
        low = omega (arith, before);
        high = omega (arith, mul-le-mul_left bits first, div-add-mod start bits);
      }
      | inr after ↦ record {
        location = index * bits;
        from = after;
        to = omega (arith, mul-le-mul_left bits last, div-add-mod (stop - 1) bits, lt);
        low = omega arith;
        high = omega (arith, some);
      }
    ]

all_at : (width : ℕ) (cs : List (List ℕ)) (none : List ℕ) → AllByRecursion (λ c. length c ≡ width) cs → (k : ℕ) → k < length cs
    → length (slice_index_or cs k none) ≡ width
all_at width [] none wide k lt = absurd (omega (arith, lt))
all_at width (c ∷ cs) none wide zero lt = wide.0
all_at width (c ∷ cs) none wide (suc k) lt = all_at width cs none wide.1 k (omega (arith, lt))

get_index : (xs : List (List ℕ)) (i : ℕ) (none : List ℕ) → i < length xs → slice_get xs i ≡ Some (slice_index_or xs i none)
get_index xs i none lt = get_some xs i (slice_index_or xs i none) lt (any_default xs i none [] lt)

pub both_on : (a b : Bool) (x y : List ℕ) → a ≡ true → b ≡ true → cond (a && b) x y ≡ x
both_on a b x y one other = rw (one, other) refl

module _ (setting : Setting) (hash_sized : (xs : List ℕ) → length (setting.hash xs) ≡ 32) (state : State) (proof : RangeParts) (shown : Shown)
    (pairs : IsPairing setting.rule) (wide : shown.width ≡ setting.width) (whole_bits : chunk_bits setting ≡ 2 ^ setting.grafting_height)
    (low : setting.grafting_height ≤ 62) (few : length state.operations ≤ 2 ^ 62) (shaped : IsShaped proof.leaves shown)
    (fits : FitsShown setting.hash (graftable_shown setting.rule setting.grafting_height proof) proof shown)
    (same_count : proof.leaves ≡ length state.operations) where
  abbrev graftable : ℕ
  graftable = graftable_shown setting.rule setting.grafting_height proof

  abbrev real_graftable : ℕ
  real_graftable = nodes_of_height setting.grafting_height (forest setting state)

  abbrev given : Given
  given = given_by setting.grafting_height graftable shown

  abbrev Told : ℕ → ℕ → Type 0
  Told = SameChunk setting.hash hash_sized setting.width (not_forty setting.width setting.grafting_height whole_bits)
      setting.grafting_height (claimed_chunk given shown.width) (made_chunk setting state)

  abbrev AllAgree : Type 0
  AllAgree = AllByRecursion (λ (peak : Located). AgreeOver Told (from shown.start shown.operations) (whole state.operations) shown.start
      (stop_of shown) peak.0 peak.1) (located (forest_of setting.rule proof.leaves))

  some_bits : 0 < chunk_bits setting
  some_bits = omega (arith, whole_bits, pow_pos setting.grafting_height)

  same_bits : shown_bits shown ≡ chunk_bits setting
  same_bits = ap (λ n. 8 * n) wide

  full_is : full_shown proof shown ≡ full_chunks setting state
  full_is = ap (λ n. proof.leaves / n) same_bits ∙ ap (λ n. n / chunk_bits setting) same_count

  graftable_is : graftable ≡ real_graftable
  graftable_is = ap (λ n. nodes_of_height setting.grafting_height (forest_of setting.rule n)) same_count

  module _ (i : ℕ) (below : i < length shown.chunks) where
    abbrev index : ℕ
    index = first_index shown + i

    last_is : last_index shown ≡ (stop_of shown - 1) / chunk_bits setting
    last_is = ap (λ n. (stop_of shown - 1) / n) same_bits

    first_is : first_index shown ≡ shown.start / chunk_bits setting
    first_is = ap (λ n. shown.start / n) same_bits

    at_most : index ≤ (stop_of shown - 1) / chunk_bits setting
    at_most = omega (arith, below, shaped.counted, last_is)

    inside : IsIn shown.start (stop_of shown) index (chunk_bits setting)
    inside = in_chunk shown.start (stop_of shown) index (chunk_bits setting) some_bits (omega (arith, shaped.some)) (omega (arith, first_is)) at_most

    within_state : inside.location < length state.operations
    within_state = omega (arith, inside.to, shaped.within, same_count)

    -- the chunk over the location
    index_is : inside.location / chunk_bits setting ≡ index
    index_is =
        let rest : ℕ = inside.location - index * chunk_bits setting in
        let sum : inside.location ≡ index * chunk_bits setting + rest = omega (arith, inside.low) in
        ap (λ n. n / chunk_bits setting) sum
        ∙ div-mul-add index (chunk_bits setting) rest (omega (arith, inside.high, inside.low))

    in_chunks : index < length (chunks setting state)
    in_chunks = omega (arith, index_is, location_chunks setting state inside.location (omega (arith, some_bits)) within_state)

    here : covering shown index ≡ slice_index_or shown.chunks i []
    here = ap (λ k. slice_index_or shown.chunks k []) (omega arith)

    -- a graftable chunk is joined in
    by_node : Counted setting.rule → index < graftable → AllAgree → slice_index_or shown.chunks i [] ≡ chunk setting state index
    by_node counted lt all =
        let level : ℕ = setting.grafting_height in
        let some : 0 < level = some_height setting.width level whole_bits in
        let first : ℕ = index * 2 ^ level in
        let node = (counted proof.leaves index level (omega (arith, few, same_count)) some low).1 lt in
        let room = node-leaves setting.rule pairs proof.leaves first node.0 node.1 in
        let wide_node : leaf_count node.0 ≡ 2 ^ level = room.0 ∙ ap (λ n. 2 ^ n) (sym node.2) in
        let begins : first ≡ index * chunk_bits setting = ap (λ n. index * n) (sym whole_bits) in
        let told = told_at Told (from shown.start shown.operations) (whole state.operations) shown.start (stop_of shown) inside.location
        first node.0 inside.from inside.to (omega (arith, begins, inside.low))
        (omega (arith, begins, inside.high, wide_node, whole_bits)) (omega (arith, some, node.2)) (forest_of setting.rule proof.leaves) node.1 all in
        let claimed_at : first / 2 ^ level ≡ index = ap (λ n. n / 2 ^ level) (omega arith) ∙ div-mul-add index (2 ^ level) 0 (pow_pos level) in
        let real_at : first / chunk_bits setting ≡ index =
        ap (λ n. n / chunk_bits setting) (omega (arith, begins)) ∙ div-mul-add index (chunk_bits setting) 0 some_bits in
        let claimed : claimed_chunk given shown.width first ≡ slice_index_or shown.chunks i [] =
        ap (given_chunk given (replicate shown.width 0)) claimed_at
        ∙ both_on (ltb index graftable) (leb (first_index shown) index) _ _ (lt-ltb index graftable lt) (le-leb (first_index shown) index (omega arith))
        ∙ ap (λ k. slice_index_or shown.chunks k (replicate shown.width 0)) (omega arith)
        ∙ any_default shown.chunks i (replicate shown.width 0) [] below in
        sym claimed ∙ told (eq-eqb (height node.0) level (sym node.2))
        ∙ ap (λ n. slice_index_or (chunks setting state) n (replicate setting.width 0)) real_at
        ∙ any_default (chunks setting state) index (replicate setting.width 0) [] in_chunks

    covered : (k : ℕ) → k ≡ index → is_covered shown k ≡ true
    covered k is =
        both_true (leb (first_index shown) k) (ltb k (first_index shown + length shown.chunks)) (le-leb (first_index shown) k (omega (arith, is)))
        (lt-ltb k (first_index shown + length shown.chunks) (omega (arith, is, below)))

    -- the digest of a full chunk that isn't graftable is the pending one
    by_pending : graftable ≤ index → index < full_shown proof shown
        → Agrees setting.hash (if_made (range_pending graftable proof shown)) (if_made (made_pending setting state))
        → slice_index_or shown.chunks i [] ≡ chunk setting state index
    by_pending above lt agrees =
        let at : graftable ≡ index = omega (arith, above, lt, fits.one_pending) in
        sym here ∙ ap (covering shown) (sym at)
        ∙ same_pending setting.hash at_pending (covering shown graftable) (chunk setting state real_graftable) (is_covered shown graftable)
        (ltb real_graftable (full_chunks setting state)) proof.pending (covered graftable at)
        (lt-ltb _ _ (omega (arith, above, lt, graftable_is, full_is)))
        (not_none setting.hash (covering shown graftable) (graftable < full_shown proof shown) (Covers shown graftable) proof.pending
        (omega (arith, above, lt)) fits.pending) agrees
        ∙ ap (chunk setting state) (omega (arith, at, graftable_is))

    -- that of a chunk that isn't full is the partial one
    by_partial : full_shown proof shown ≤ index
        → Agrees setting.hash (next_made (option_map (λ made. (proof.leaves % shown_bits shown, made)) (range_partial proof shown)))
        (next_made (option_map (λ made. (next_bit setting state, made)) (made_partial setting state)))
        → slice_index_or shown.chunks i [] ≡ chunk setting state index
    by_partial above agrees =
        let left : 0 < next_bit setting state =
        left_over inside.location (length state.operations) (chunk_bits setting) within_state (omega (arith, above, full_is, index_is)) in
        let here_left : 0 < proof.leaves % shown_bits shown =
        subst (λ (n : ℕ). 0 < n) (sym (ap (λ n. proof.leaves % n) same_bits ∙ ap (λ n. n % chunk_bits setting) same_count)) left in
        let at_full : index ≤ full_chunks setting state =
        omega (arith, index_is, index-few (length state.operations) (chunk_bits setting) inside.location some_bits within_state) in
        let at : full_shown proof shown ≡ index = omega (arith, above, full_is, at_full) in
        sym here ∙ ap (covering shown) (sym at)
        ∙ same_partial setting.hash at_partial (covering shown (full_shown proof shown)) (chunk setting state (full_chunks setting state))
        (is_covered shown (full_shown proof shown)) (eqb (next_bit setting state) 0)
        proof.partial (proof.leaves % shown_bits shown) (next_bit setting state) (covered (full_shown proof shown) at)
        (ne_eqb (next_bit setting state) 0 (λ none. omega (arith, none, left)))
        (not_none setting.hash (covering shown (full_shown proof shown)) (0 < proof.leaves % shown_bits shown) (Covers shown (full_shown proof shown))
        proof.partial here_left fits.partial) agrees
        ∙ ap (chunk setting state) (omega (arith, at, full_is))

    same_chunk : Counted setting.rule → AllAgree
        → Agrees setting.hash (if_made (range_pending graftable proof shown)) (if_made (made_pending setting state))
        → Agrees setting.hash (next_made (option_map (λ made. (proof.leaves % shown_bits shown, made)) (range_partial proof shown)))
        (next_made (option_map (λ made. (next_bit setting state, made)) (made_partial setting state)))
        → slice_index_or shown.chunks i [] ≡ chunk setting state index
    same_chunk counted all pending partial =
        elim (cases_lt index graftable) [
          | inl lt ↦ by_node counted lt all
          | inr above ↦ (elim (cases_lt index (full_shown proof shown)) [
            | inl lt ↦ by_pending above lt pending
            | inr past ↦ by_partial past partial
          ])
        ]

  stands_there : AllAgree → (i : ℕ) → i < length shown.operations
      → slice_get state.operations (shown.start + i) ≡ slice_get shown.operations i
  stands_there all i below =
      let same : from shown.start shown.operations (shown.start + i) ≡ whole state.operations (shown.start + i) =
      agree_in Told (from shown.start shown.operations) (whole state.operations) shown.start (stop_of shown) (forest_of setting.rule proof.leaves)
      (shown.start + i) (omega arith) (omega (arith, below))
      (omega (arith, below, shaped.within, leaves-forest_of setting.rule pairs proof.leaves)) all in
      get_index state.operations (shown.start + i) [] (omega (arith, below, shaped.within, same_count))
      ∙ ap (λ x. Some x) (sym same ∙ ap (λ k. slice_index_or shown.operations k []) (omega arith))
      ∙ sym (get_index shown.operations i [] below)

  has_range : Counted setting.rule → AllAgree
      → Agrees setting.hash (if_made (range_pending graftable proof shown)) (if_made (made_pending setting state))
      → Agrees setting.hash (next_made (option_map (λ made. (proof.leaves % shown_bits shown, made)) (range_partial proof shown)))
      (next_made (option_map (λ made. (next_bit setting state, made)) (made_partial setting state)))
      → HasRange setting state shown
  has_range counted all pending partial = record {
    stands = stands_there all;
    chunks = λ i below. get_index shown.chunks i [] below ∙ ap (λ x. Some x) (same_chunk i below counted all pending partial);
  }

-- where a digest is held, the test says whether its chunk is covered
pub covered_is : (shown : Shown) (k : ℕ) → is_covered shown k ≡ true → Covers shown k
covered_is shown k is =
    let both = and_parts (leb (first_index shown) k) (ltb k (first_index shown + length shown.chunks)) is in
    (leb-true (first_index shown) k both.0, ltb-true k (first_index shown + length shown.chunks) both.1)

-- the digest of what is rebuilt is that of the proof's string
value_range : (setting : Setting) (proof : RangeParts) (shown : Shown) (grafted : Made) (root : List ℕ) → value setting.hash grafted ≡ root
    → FitsShown setting.hash (graftable_shown setting.rule setting.grafting_height proof) proof shown
    → value setting.hash (range_over setting proof shown grafted)
    ≡ setting.hash (canonical_string proof.operations_root root proof.pending (proof.leaves % shown_bits shown) proof.partial)
value_range setting proof shown grafted root is fits =
    let graftable : ℕ = graftable_shown setting.rule setting.grafting_height proof in
    let full : ℕ = full_shown proof shown in
    value_canonical setting.hash (bytes proof.operations_root) grafted (range_pending graftable proof shown) (proof.leaves % shown_bits shown)
    (range_partial proof shown)
    ∙ string_same setting.hash _ _ _ _ _ _ (proof.leaves % shown_bits shown) _ _ refl is
    (held_value setting.hash at_pending (covering shown graftable) (graftable < full) (Covers shown graftable) (is_covered shown graftable)
    proof.pending (covered_is shown graftable) fits.pending)
    (held_value setting.hash at_partial (covering shown full) (0 < proof.leaves % shown_bits shown) (Covers shown full) (is_covered shown full)
    proof.partial (covered_is shown full) fits.partial)

-- what leads somewhere is there
record IsLed (hash : Hash) (got : Option Made) (root : List ℕ) : Type 0 where
  it : Made
  is : got ≡ Some it
  holds : value hash it ≡ root

led : (hash : Hash) (got : Option Made) (root : List ℕ) → option_map (value hash) got ≡ Some root → IsLed hash got root
led hash None root is = absurd (let e : ◌≡◌ {A = Option (List ℕ)} None (Some root) = is in cc)
led hash (Some x) root is = record {
  it = x;
  is = refl;
  holds = let e : ◌≡◌ {A = Option (List ℕ)} (Some (value hash x)) (Some root) = is in cc;
}

-- what is read of a range that is not empty
read_is : (test : Bool) (got : Option Made) (P : Made → Type 0) → IfSome got P → IfSome (cond test got None) P
read_is true got P holds = holds
read_is false got P holds = tt

-- what verifies does so at the one grafting height that the width has
pub record AtHeight (rule : Rule) (hash : Hash) (level : ℕ) (proof : RangeParts) (shown : Shown) (root : List ℕ) : Type 0 where
  pub fits : FitsShown hash (graftable_shown rule level proof) proof shown
  pub leads : option_map (value hash) (shown_grafted rule level proof shown) ≡ Some root

pub at_level : (rule : Rule) (hash : Hash) (root : List ℕ) (proof : RangeParts) (shown : Shown) (level : ℕ) → shown_bits shown ≡ 2 ^ level
    → (it : VerifiesRange rule hash root proof shown) → AtHeight rule hash level proof shown it.grafted_root
at_level rule hash root proof shown level whole it =
    let same : it.grafting_height ≡ level = same_power it.grafting_height level (sym it.whole ∙ whole) in
    record {
      fits = subst (λ (h : ℕ). FitsShown hash (graftable_shown rule h proof) proof shown) same it.fits;
      leads = ap (λ h. option_map (value hash) (shown_grafted rule h proof shown)) (sym same) ∙ it.leads;
    }

-- what a proof tells that leads to the canonical root of a state: counts, the elements and chunks of the range, the ends of the canonical
-- string, and that its grafted root agrees with the state's in all that it gives as known
pub record RangeTold (setting : Setting) (hash_sized : (xs : List ℕ) → length (setting.hash xs) ≡ 32)
    (whole_bits : chunk_bits setting ≡ 2 ^ setting.grafting_height) (state : State) (proof : RangeParts) (shown : Shown) : Type 0 where
  pub fits : FitsShown setting.hash (graftable_shown setting.rule setting.grafting_height proof) proof shown
  pub leaf_count : proof.leaves ≡ length state.operations
  pub inactive_count : proof.inactive ≡ grafted_inactive setting state
  pub elements : AllByRecursion (λ (peak : Located). AgreeOver (SameChunk setting.hash hash_sized setting.width
      (not_forty setting.width setting.grafting_height whole_bits) setting.grafting_height
      (claimed_chunk (given_by setting.grafting_height (graftable_shown setting.rule setting.grafting_height proof) shown) shown.width)
      (made_chunk setting state)) (from shown.start shown.operations) (whole state.operations) shown.start (stop_of shown) peak.0 peak.1)
      (located (forest_of setting.rule proof.leaves))
  pub operations_root : proof.operations_root ≡ value setting.hash (made_operations setting state)
  pub pending : Agrees setting.hash (if_made (range_pending (graftable_shown setting.rule setting.grafting_height proof) proof shown))
      (if_made (made_pending setting state))
  pub partial : Agrees setting.hash (next_made (option_map (λ made. (proof.leaves % shown_bits shown, made)) (range_partial proof shown)))
      (next_made (option_map (λ made. (next_bit setting state, made)) (made_partial setting state)))
  pub grafted : Made
  pub read : shown_grafted setting.rule setting.grafting_height proof shown ≡ Some grafted
  pub agrees : Agrees setting.hash grafted (made_grafted setting state)

-- the chunks that are claimed, and those of the state, have the width
pub claimed_widths : (setting : Setting) (proof : RangeParts) (shown : Shown) → shown.width ≡ setting.width
    → AllByRecursion (λ chunk. length chunk ≡ shown.width) shown.chunks → (at : ℕ)
    → length (claimed_chunk (given_by setting.grafting_height (graftable_shown setting.rule setting.grafting_height proof) shown) shown.width at)
    ≡ setting.width
claimed_widths setting proof shown wide all at =
    claimed-wide shown.width (given_by setting.grafting_height (graftable_shown setting.rule setting.grafting_height proof) shown) at
    (all_at shown.width shown.chunks (replicate shown.width 0) all) ∙ wide

pub made_widths : (setting : Setting) (state : State) (at : ℕ) → length (made_chunk setting state at) ≡ setting.width
made_widths setting state at =
    chunks-wide setting state (at / chunk_bits setting) (replicate setting.width 0) (length-replicate setting.width 0)

pub range_told : (setting : Setting) (hash_sized : (xs : List ℕ) → length (setting.hash xs) ≡ 32) (state : State) (proof : RangeParts) (shown : Shown)
    → IsPairing setting.rule → (whole_bits : chunk_bits setting ≡ 2 ^ setting.grafting_height)
    → length state.operations ≤ 2 ^ 62 → shown.width ≡ setting.width → HasDigestsOf 32 proof
    → VerifiesRange setting.rule setting.hash (canonical_root setting state) proof shown
    → RangeTold setting hash_sized whole_bits state proof shown ⊎ Collision setting.hash (hashed_strings setting state) (range_strings setting proof shown)
range_told setting hash_sized state proof shown pairs whole_bits few wide sized it =
    let hash : Hash = setting.hash in
    let level : ℕ = setting.grafting_height in
    let bits : ℕ = shown_bits shown in
    let at = at_level setting.rule hash (canonical_root setting state) proof shown level (ap (λ n. 8 * n) wide ∙ whole_bits) it in
    let got : Option Made = shown_grafted setting.rule level proof shown in
    let read = led hash got it.grafted_root at.leads in
    let made : Made = range_over setting proof shown read.it in
    let same : value hash made ≡ value hash (made_state setting state) =
    value_range setting proof shown read.it it.grafted_root read.holds at.fits ∙ it.seals ∙ sym (value_state setting state) in
    let graftable : ℕ = graftable_shown setting.rule level proof in
    let full : ℕ = full_shown proof shown in
    let given : Given = given_by level graftable shown in
    let real_graftable : ℕ = nodes_of_height level (forest setting state) in
    let is_pending : Bool = ltb real_graftable (full_chunks setting state) in
    let no_partial : Bool = eqb (next_bit setting state) 0 in
    let sound = state_sound hash hash_sized setting.width (not_forty setting.width level whole_bits) level setting.rule pairs
    (made_chunk setting state) (claimed_chunk given shown.width)
    (made_widths setting state) (claimed_widths setting proof shown wide it.shaped.wide) state.operations few
    (grafted_inactive setting state) (few_inactive setting state pairs few) (made_operations setting state) (made_pending setting state)
    (option_map (λ m. (next_bit setting state, m)) (made_partial setting state)) (hash_sized _)
    (some_sized hash hash_sized at_pending (chunk setting state real_graftable) is_pending)
    (next_sized hash (next_bit setting state) (made_partial setting state) (none_sized hash hash_sized at_partial (chunk setting state
    (full_chunks setting state)) no_partial))
    proof.leaves proof.inactive shown.start (stop_of shown)
    (range_outer BackwardFold shown.start (stop_of shown) proof.inactive (peaks_of setting.rule proof.leaves))
    (from shown.start shown.operations) proof.digests proof.operations_root (range_pending graftable proof shown)
    (option_map (λ m. (proof.leaves % bits, m)) (range_partial proof shown)) (all_sized 32 proof.digests sized.digests) sized.operations_root
    (held_sized hash hash_sized at_pending (covering shown graftable) (is_covered shown graftable) proof.pending sized.pending)
    (next_sized hash (proof.leaves % bits) (range_partial proof shown)
    (held_sized hash hash_sized at_partial (covering shown full) (is_covered shown full) proof.partial sized.partial))
    (match_made hash at_pending (covering shown graftable) (chunk setting state real_graftable) (is_covered shown graftable) proof.pending
    (made_pending setting state) (some_made at_pending (chunk setting state real_graftable) is_pending))
    (match_next hash (proof.leaves % bits) (next_bit setting state) (range_partial proof shown) (made_partial setting state)
    (match_made hash at_partial (covering shown full) (chunk setting state (full_chunks setting state)) (is_covered shown full) proof.partial
    (made_partial setting state) (none_made at_partial (chunk setting state (full_chunks setting state)) no_partial))) in
    ⊎_elim
    (λ told. inl (record {
      fits = at.fits;
      leaf_count = told.0.0.leaf_count;
      inactive_count = told.0.0.inactive_count;
      elements = told.0.0.elements;
      operations_root = told.0.1;
      pending = told.0.2.0;
      partial = told.0.2.1;
      grafted = read.it;
      read = read.is;
      agrees = told.1;
    }))
    (λ collision. inr (subst (λ (o : Option Made). Collision hash (hashed_strings setting state) (strings hash (if_made (option_map
    (range_over setting proof shown) o)))) (sym read.is) collision))
    (if_is _ got read.it read.is (read_is (ltb 0 (length shown.operations)) _ _ sound) same)

pub range_is_true : (setting : Setting) → ((xs : List ℕ) → length (setting.hash xs) ≡ 32) → (state : State) (proof : RangeParts) (shown : Shown)
    → IsPairing setting.rule → Counted setting.rule → chunk_bits setting ≡ 2 ^ setting.grafting_height → setting.grafting_height ≤ 62
    → length state.operations ≤ 2 ^ 62 → shown.width ≡ setting.width → HasDigestsOf 32 proof
    → VerifiesRange setting.rule setting.hash (canonical_root setting state) proof shown
    → HasRange setting state shown ⊎ Collision setting.hash (hashed_strings setting state) (range_strings setting proof shown)
range_is_true setting hash_sized state proof shown pairs counted whole_bits low few wide sized it =
    ⊎_elim
    (λ told. inl (has_range setting hash_sized state proof shown pairs wide whole_bits low few it.shaped told.fits told.leaf_count counted
    told.elements told.pending told.partial))
    inr (range_told setting hash_sized state proof shown pairs whole_bits few wide sized it)
