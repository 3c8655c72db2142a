-- The digests that proofs over a range show: of an honest one those of the state, and of each one that leads to a root some.
use Rattle.std.proofs.Common.{◌≡◌, ℕ, ◌+◌, ◌/◌, ◌^◌, ◌<◌, ◌≤◌, eqb, cond, Bool, true, false, List, [], length, Option}
use Rattle.std.proofs.Common.{None, Some, option_map, IfSome, refl, sym, ◌∙◌, ap, arith}
use Rattle.std.specs.Prelude.{slice_index_or}
use Rattle.merkle_forest.specs.declared.bagging.Bagging.{Bagging}
use Rattle.merkle_forest.specs.declared.bagging.Bagging.TheVariants.{BackwardFold}
use Rattle.merkle_forest.specs.Forest.{Tree, leaf, branch, height, leaf_count, Rule}
use Rattle.merkle_forest.specs.Hashing.{Hash, leaf_string, node_string}
use Rattle.merkle_forest.specs.Made.{Made, value}
use Rattle.merkle_forest.specs.Perfect.{IsPairing}
use Rattle.merkle_proofs.specs.Extracted.{AreMadeOf, AreGiven}
use Rattle.merkle_theory.specs.MadeRoots.{Naming, from_left, peaks_of}
use Rattle.merkle_theory.specs.MadeTrees.{Over, from}
use Rattle.merkle_theory.specs.Plans.{honest_digests}
use Rattle.merkle_theory.specs.Ranges.{Digests}
use Rattle.merkle_theory.specs.Reads.{range_root}
use Rattle.state_theory.specs.Canonical.{Setting, State, chunk_bits, chunks, grafted_digests, grafted_inactive}
use Rattle.state_theory.specs.Grafting.{grafted, grafted_digest}
use Rattle.state_theory.specs.Honest.{grafted_range, honest_range}
use Rattle.state_theory.specs.Laws.MadeStates.{no_chunk}
use Rattle.state_theory.specs.MadeGrafted.{grafted_names}
use Rattle.state_theory.specs.MadeRanges.{HasRange}
use Rattle.state_theory.specs.MadeStates.{made_chunk}
use Rattle.state_proofs.specs.RangeExtracted.{AreMadeOfShown, ShowsDigests}
use Rattle.state_theory.specs.Verified.{Shown, shown_bits, stop_of, given_by, graftable_shown, shown_over, shown_grafted, IsShaped, VerifiesRange, RangeParts}
use Rattle.state_theory.specs.Verifier.{Given, claimed_chunk, grafted_node, joined_chunk}
use Rattle.state_theory.specs.Laws.ChunkCounts.{Aligned}
use Rattle.state_theory.proofs.RangeAccepted.{met_in, same_at, agrees}
use Rattle.state_theory.proofs.RangeIsTrue.{at_level}
use Rattle.state_theory.specs.Laws.Verifier.{joined_is, node_at-is}
use Rattle.state_theory.proofs.StateParts.{Counted}

-- the law that an honest proof gives the digests of the nodes that it tells
abbrev pub GivesHonest : Rule → Type 0
GivesHonest rule = (hash : Hash) (bagging : Bagging) (digest : Digests) (leaf_total inactive start stop : ℕ) → start < stop
    → AreGiven (from_left bagging inactive (length (peaks_of rule leaf_total))) start stop (peaks_of rule leaf_total) digest
    (honest_digests hash digest bagging rule leaf_total inactive start stop)

-- the law that each proof that leads to a root gives some
abbrev pub GivesSome : Rule → Type 0
GivesSome rule = (names : Naming) (over : Over) (bagging : Bagging) (leaf_total inactive start : ℕ) (shown digests : List (List ℕ))
    (leaf_of : ℕ → List ℕ → List ℕ) (node_of : ℕ → List ℕ → List ℕ → List ℕ)
    → IfSome (range_root names over bagging rule leaf_total inactive start shown digests)
    (λ made. (digest : Digests) × AreMadeOf leaf_of node_of (from start shown) start (start + length shown) digest
    × AreGiven (from_left bagging inactive (length (peaks_of rule leaf_total))) start (start + length shown) (peaks_of rule leaf_total) digest digests)

module _ (setting : Setting) (state : State) (shown : Shown) (pairs : IsPairing setting.rule) (aligned : Aligned setting.rule)
    (counted : Counted setting.rule) (whole : chunk_bits setting ≡ 2 ^ setting.grafting_height) (low : setting.grafting_height ≤ 62)
    (few : length state.operations ≤ 2 ^ 62) (wide : shown.width ≡ setting.width) (shaped : IsShaped (length state.operations) shown)
    (has : HasRange setting state shown) where
  abbrev level : ℕ
  level = setting.grafting_height

  abbrev bits : ℕ
  bits = chunk_bits setting

  abbrev stop : ℕ
  stop = stop_of shown

  abbrev honest : RangeParts
  honest = honest_range setting state shown.start stop

  abbrev given : Given
  given = given_by level (graftable_shown setting.rule level honest) shown

  abbrev digest : Digests
  digest = grafted_digest setting.hash level bits (chunks setting state) state.operations

  -- at the grafting height the chunk that is shown is joined in
  joined_in_too : (at : ℕ) (own : List ℕ) (same : Bool) → (same ≡ true → claimed_chunk given shown.width at ≡ made_chunk setting state at)
      → cond same (grafted setting.hash (slice_index_or (chunks setting state) (at / bits) []) own) own
      ≡ cond same (grafted setting.hash (claimed_chunk given shown.width at) own) own
  joined_in_too at own true is =
      sym (no_chunk setting.hash setting.width (chunks setting state) (at / bits) own) ∙ ap (λ c. grafted setting.hash c own) (sym (is refl))
  joined_in_too at own false is = refl

  made : AreMadeOfShown setting.rule setting.hash level honest shown digest
  made = record {
    leaf = λ at p stands met. let within = met_in shown.start stop at (leaf p) met in
        sym ((agrees setting state shown pairs aligned counted whole low few wide shaped has).leaf at p (omega (arith, within.0)) within.1);
    branch = λ at p left right stands met.
        let node : Tree = branch p left right in
        let own : List ℕ = setting.hash (node_string p (digest at left) (digest (at + leaf_count left) right)) in
        joined_in_too at own (eqb (height node) level)
        (same_at setting state shown pairs aligned counted whole low few wide shaped has at p left right stands met)
        ∙ joined_is setting.hash given shown.width at (height node) own (eqb (height node) level);
  }

  pub honest_shows : GivesHonest setting.rule → ShowsDigests setting.rule setting.hash level honest shown (grafted_digests setting state)
  unfolding grafted_digests grafted_range
  honest_shows law = record {
    made = made;
    given = law setting.hash BackwardFold digest (length state.operations) (grafted_inactive setting state) shown.start stop
        (omega (arith, shaped.some));
  }

-- what is there has what holds of it
there_is : (hash : Hash) (got : Option Made) (P : Made → Type 0) (R : Type 0) (root : List ℕ) → IfSome got P
    → option_map (value hash) got ≡ Some root → ((made : Made) → P made → R) → R
there_is hash None P R root holds is then = absurd (let e : ◌≡◌ {A = Option (List ℕ)} None (Some root) = is in cc)
there_is hash (Some made) P R root holds is then = then made holds

pub shows_some : (rule : Rule) → IsPairing rule → GivesSome rule → (hash : Hash) (level : ℕ) (root : List ℕ) (proof : RangeParts) (shown : Shown)
    → shown_bits shown ≡ 2 ^ level → VerifiesRange rule hash root proof shown → (digest : Digests) × ShowsDigests rule hash level proof shown digest
shows_some rule pairs law hash level root proof shown whole it =
    let at = at_level rule hash root proof shown level whole it in
    let given : Given = given_by level (graftable_shown rule level proof) shown in
    let over : Over = shown_over rule level proof shown in
    there_is hash (shown_grafted rule level proof shown)
    (λ made. (digest : Digests) × AreMadeOf (λ p element. hash (leaf_string p element)) (grafted_node rule hash given)
    (from shown.start shown.operations) shown.start (stop_of shown) digest
    × AreGiven proof.inactive shown.start (stop_of shown) (peaks_of rule proof.leaves) digest proof.digests)
    ((digest : Digests) × ShowsDigests rule hash level proof shown digest) it.grafted_root
    (law grafted_names over BackwardFold proof.leaves proof.inactive shown.start shown.operations proof.digests
    (λ p element. hash (leaf_string p element)) (grafted_node rule hash given))
    at.leads
    (λ made found. (
      found.0,
      record {
        made = record {
          leaf = λ first p stands met. found.1.leaf first p met;
          branch = λ first p left right stands met.
              found.1.branch first p left right met
              ∙ ap (λ x. grafted hash (joined_chunk given x) (hash (node_string p (found.0 first left) (found.0 (first + leaf_count left) right))))
              (node_at-is rule pairs first p (height (branch p left right))
              (branch p left right, record { leaf_total = proof.leaves; few = it.few; stands = stands; subtree = refl; level = refl }));
        };
        given = found.2;
      },
    ))
