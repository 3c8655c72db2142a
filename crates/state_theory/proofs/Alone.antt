-- A proof of one operation is one over a range that holds the operation alone.
use Rattle.std.proofs.Common.{◌≡◌, ℕ, zero, suc, ◌+◌, ◌*◌, ◌/◌, ◌%◌, ◌<◌, true}
use Rattle.std.proofs.Common.{List, [], ◌∷◌, length, Option, Some, None, refl, sym, ◌∙◌, ap, subst, arith}
use Rattle.std.specs.Prelude.{slice_get, slice_index_or}
use Rattle.state_theory.specs.SetBits.{is_set}
use Rattle.state_theory.specs.Canonical.{Setting, State, chunk_bits, chunk}
use Rattle.state_theory.specs.Honest.{honest_range, honest_parts}
use Rattle.state_theory.specs.MadeRanges.{HasActive, HasRange}
use Rattle.state_theory.specs.Verified.{RangeParts, Parts, bit_of, shown_alone, IsShaped}
use Rattle.state_theory.specs.Laws.Chunks.{length-chunk, active_bit, bit_of_chunk}
use Rattle.state_theory.proofs.StateParts.{get_some}

-- the bit of the operation is set in the proof's chunk
abbrev pub IsActive : Parts → Type 0
IsActive proof = is_set (slice_get proof.chunk (bit_of proof / 8)) (bit_of proof) ≡ true

pub within_list : (xs : List (List ℕ)) (i : ℕ) (x : List ℕ) → slice_get xs i ≡ Some x → i < length xs
within_list [] i x is = absurd (let e : ◌≡◌ {A = Option (List ℕ)} None (Some x) = is in cc)
within_list (y ∷ xs) zero x is = omega arith
within_list (y ∷ xs) (suc i) x is = omega (arith, within_list xs i x is)

pub at_place : (xs : List (List ℕ)) (i : ℕ) (x : List ℕ) → slice_get xs i ≡ Some x → slice_index_or xs i [] ≡ x
at_place [] i x is = absurd (let e : ◌≡◌ {A = Option (List ℕ)} None (Some x) = is in cc)
at_place (y ∷ xs) zero x is = let e : Some y ≡ Some x = is in cc
at_place (y ∷ xs) (suc i) x is = at_place xs i x is

-- the chunk's bits at another size that is the same
at_bits : (proof : Parts) (m n : ℕ) → m ≡ n → is_set (slice_get proof.chunk (proof.location % m / 8)) (proof.location % m) ≡ true
    → is_set (slice_get proof.chunk (proof.location % n / 8)) (proof.location % n) ≡ true
at_bits proof m n same is =
    subst (λ (bits : ℕ). is_set (slice_get proof.chunk (proof.location % bits / 8)) (proof.location % bits) ≡ true) same is

-- where the chunk over the operation is the state's, the proof's chunk is
pub chunk_alone : (setting : Setting) (state : State) (proof : Parts) (operation : List ℕ) → length proof.chunk ≡ setting.width
    → HasRange setting state (shown_alone proof operation) → proof.chunk ≡ chunk setting state (proof.location / chunk_bits setting)
chunk_alone setting state proof operation wide has =
    let there : Some proof.chunk ≡ Some (chunk setting state (proof.location / (8 * length proof.chunk) + 0)) = has.chunks 0 (omega arith) in
    let own : proof.chunk ≡ chunk setting state (proof.location / (8 * length proof.chunk) + 0) = cc in
    own ∙ ap (chunk setting state) (omega (arith, ap (λ n. proof.location / (8 * n)) wide))

-- where the operation and the chunk over it are the state's, the operation is active there
pub active_alone : (setting : Setting) (state : State) (proof : Parts) (operation : List ℕ) → 0 < setting.width
    → length proof.chunk ≡ setting.width → IsActive proof → HasRange setting state (shown_alone proof operation)
    → HasActive state proof.location operation
active_alone setting state proof operation some wide active has =
    let same_bits : 8 * length proof.chunk ≡ chunk_bits setting = ap (λ n. 8 * n) wide in
    let stands : slice_get state.operations proof.location ≡ Some operation =
    ap (slice_get state.operations) (omega arith) ∙ has.stands 0 (omega arith) in
    let bits : is_set (slice_get proof.chunk (proof.location % chunk_bits setting / 8)) (proof.location % chunk_bits setting) ≡ true =
    at_bits proof (8 * length proof.chunk) (chunk_bits setting) same_bits active in
    record {
      stands = stands;
      active = bit_of_chunk setting state proof.location some (within_list state.operations proof.location operation stands)
          (subst (λ (bytes : List ℕ). is_set (slice_get bytes (proof.location % chunk_bits setting / 8)) (proof.location % chunk_bits setting)
          ≡ true) (chunk_alone setting state proof operation wide has) bits);
    }

abbrev parts_at : ℕ → List ℕ → RangeParts → Parts
parts_at location chunk range = record { location = location; chunk = chunk; range = range }

-- where besides the proof over the operation is honest, so is the proof of the operation
pub parts_alone : (setting : Setting) (state : State) (proof : Parts) (operation : List ℕ) → length proof.chunk ≡ setting.width
    → HasRange setting state (shown_alone proof operation) → proof.range ≡ honest_range setting state proof.location (proof.location + 1)
    → proof ≡ honest_parts setting state proof.location
parts_alone setting state proof operation wide has honest =
    ap (λ bytes. parts_at proof.location bytes proof.range) (chunk_alone setting state proof operation wide has)
    ∙ ap (parts_at proof.location (chunk setting state (proof.location / chunk_bits setting))) honest

module _ (setting : Setting) (state : State) (location : ℕ) (some : 0 < setting.width) (within : location < length state.operations) where
  abbrev honest : Parts
  honest = honest_parts setting state location

  abbrev operation : List ℕ
  operation = slice_index_or state.operations location []

  pub honest_wide : length honest.chunk ≡ setting.width
  honest_wide = length-chunk setting state location some within

  same_bits : 8 * length honest.chunk ≡ chunk_bits setting
  same_bits = ap (λ n. 8 * n) honest_wide

  pub honest_shaped : IsShaped (length state.operations) (shown_alone honest operation)
  honest_shaped = record {
    some = omega arith;
    within = omega (arith, within);
    counted = ap (λ n. n / (8 * length honest.chunk) + 1) (omega arith);
    wide = (refl, tt);
  }

  stands_there : (i : ℕ) → i < 1 → slice_get state.operations (location + i) ≡ slice_get (operation ∷ []) i
  stands_there zero below = ap (slice_get state.operations) (omega arith) ∙ get_some state.operations location operation within refl
  stands_there (suc i) below = absurd (omega (arith, below))

  chunk_there : (i : ℕ) → i < 1
      → slice_get (honest.chunk ∷ []) i ≡ Some (chunk setting state (location / (8 * length honest.chunk) + i))
  chunk_there zero below =
      ap (λ index. Some (chunk setting state index)) (omega (arith, ap (λ n. location / n) same_bits))
  chunk_there (suc i) below = absurd (omega (arith, below))

  -- the honest proof's operation and chunk are the state's
  pub honest_range_there : HasRange setting state (shown_alone honest operation)
  honest_range_there = record { stands = stands_there; chunks = chunk_there }

  pub honest_active : slice_get state.bits location ≡ Some true → IsActive honest
  honest_active is =
      at_bits honest (chunk_bits setting) (8 * length honest.chunk) (sym same_bits) (active_bit setting state location some within is)
