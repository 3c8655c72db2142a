-- Honest proofs, from what the code computes.
use Rattle.std.proofs.Common.{◌≡◌, ℕ, List, take, drop, refl, ◌∙◌}
use Rattle.merkle_forest.specs.declared.bagging.Bagging.{Bagging}
use Rattle.merkle_forest.specs.declared.bagging.Bagging.TheVariants.{BackwardFold}
use Rattle.merkle_forest.specs.Forest.{Tree}
use Rattle.merkle_forest.specs.Trees.{Located, located}
use Rattle.merkle_theory.specs.Ranges.{range_digests}
use Rattle.state_theory.specs.Canonical.{Setting, State, chunk_bits, grafted_digests, grafted_inactive, forest, peaks}
use Rattle.state_theory.specs.Grafting.{chunk_aligned_inactive_peaks}
use Rattle.state_theory.specs.Honest.{grafted_range}

pub is_grafted_inactive : (setting : Setting) (state : State) (inactive : ℕ) (trees : List Tree)
    (found : List Located) → trees ≡ forest setting state → found ≡ located trees
    → inactive ≡ chunk_aligned_inactive_peaks (chunk_bits setting) state.floor found
    → inactive ≡ grafted_inactive setting state
unfolding grafted_inactive
is_grafted_inactive setting state inactive trees found grown positions counts = counts ∙ rw (positions, grown) refl

pub is_grafted_range : (setting : Setting) (state : State) (bagging : Bagging) (start stop inactive : ℕ)
    (found front back : List Located) (digest : ℕ → Tree → List ℕ) (digests : List (List ℕ)) → bagging ≡ BackwardFold
    → inactive ≡ grafted_inactive setting state → found ≡ peaks setting state → front ≡ take inactive found
    → back ≡ drop inactive found → digest ≡ grafted_digests setting state
    → digests ≡ range_digests setting.hash digest bagging start stop front back
    → digests ≡ grafted_range setting state start stop
unfolding grafted_range
is_grafted_range setting state bagging start stop inactive found front back digest digests side counts positions
    fronts backs grafts is =
    is ∙ rw (side, grafts, fronts, backs, positions, counts) refl
