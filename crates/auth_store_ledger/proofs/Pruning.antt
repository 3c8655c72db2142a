-- What may be pruned of what is kept of a log.
use Rattle.std.proofs.Common.{◌≡◌, ◌⊎◌, ℕ, zero, suc, ◌*◌, ◌≤◌, ◌/◌, ◌∙◌}
use Rattle.std.proofs.Common.{Bool, true, false, inl, inr, List, [], ◌∷◌, Some, ap, sym, subst, arith, refl}
use Rattle.std.specs.Prelude.{slice_get, slice_index_or}
use Rattle.merkle_forest.specs.Forest.{Rule}
use Rattle.state_theory.specs.Bits.{Bits, all_bits}
use Rattle.state_theory.specs.Canonical.{Setting}
use Rattle.state_current.specs.Kept.{AreClearBefore, Kept, StandsFor}
use Rattle.state_current.specs.Settled.{IsGreatestSettled}
use Rattle.state_ops.specs.Operation.{Operation}
use Rattle.auth_store_index.specs.Laws.Floors.{active_in_log_of}
use Rattle.auth_store_states.specs.Laws.Widths.{chunk_below}
use Rattle.auth_store_ledger.specs.History.{activity_bits, history_of, last_floor, log_of}
use Rattle.auth_store_ledger.specs.Store.{IsKept, state_of_log}

bit_there : (bits : List Bool) (at : ℕ) → slice_index_or bits at false ≡ true → slice_get bits at ≡ Some true
bit_there [] at is = absurd (cc)
bit_there (bit ∷ bits) zero is = ap Some is
bit_there (bit ∷ bits) (suc at) is = bit_there bits at is

-- no bit of a log is set before the floor that its last commit records
pub clear_before : (width : ℕ) (log : List Operation) (bits : Bits) (location : ℕ) → log ≡ log_of (history_of log)
    → activity_bits log ≡ all_bits width bits → location ≤ last_floor log → AreClearBefore width bits location
clear_before width log bits location whole same behind at before =
    ap (λ (b : List Bool). slice_index_or b at false) (sym same) ∙ unset (slice_index_or (activity_bits log) at false) refl
  where
    unset : (bit : Bool) → slice_index_or (activity_bits log) at false ≡ bit → slice_index_or (activity_bits log) at false ≡ false
    unset false is = is
    unset true is =
        let set = subst (λ (l : List Operation). slice_get (activity_bits l) at ≡ Some true) whole (bit_there (activity_bits log) at is) in
        let from = active_in_log_of (history_of log) at set in
        absurd (omega (arith, behind, before, from, ap last_floor whole))

-- what was found for counts that are equal
pub found_settled : (rule : Rule) (level operations count before limit end after : ℕ) → operations ≡ count → limit ≡ end
    → IsGreatestSettled rule level operations before limit after → IsGreatestSettled rule level count before end after
found_settled rule level operations count before limit end after same_count same_end found =
    subst (λ (e : ℕ). IsGreatestSettled rule level count before e after) same_end
    (subst (λ (n : ℕ). IsGreatestSettled rule level n before limit after) same_count found)

-- what is kept of a log is kept of it with more chunks pruned, which end by its floor
pub kept_pruned : (setting : Setting) (key value : ℕ) (log : List Operation) (before after : Kept) (location : ℕ)
    → IsKept setting key value log before
    → (after.bits.pruned ≡ before.bits.pruned) ⊎ (after.bits.pruned ≤ location / (8 * setting.width))
    → location ≤ last_floor log → StandsFor setting (state_of_log key value log) after → IsKept setting key value log after
kept_pruned setting key value log before after location is to low stands = record {
  leaves = stands.operations.counted ∙ (sym is.stands.operations.counted ∙ is.leaves);
  behind = elim to [
    | inl same ↦ omega (arith, ap (λ (n : ℕ). 8 * setting.width * n) same, is.behind)
    | inr le ↦ omega (arith, chunk_below (8 * setting.width) location after.bits.pruned le, low)
  ];
  stands = stands;
}
