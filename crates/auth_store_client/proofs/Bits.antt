-- The bits in the chunks over operations are the state's, where the chunks are.
use Rattle.std.proofs.Common.{◌≡◌, ℕ, zero, suc, ◌+◌, ◌-◌, ◌/◌, ◌%◌, ◌<◌, ◌≤◌, Bool, true, false, List, [], ◌∷◌}
use Rattle.std.proofs.Common.{length, Option, Some, None, refl, sym, ◌∙◌, ap, arith}
use Rattle.std.specs.Prelude.{slice_get, slice_index_or}
use Rattle.std.proofs.Math.Nat.{div-mul-le_self}
use Rattle.std.proofs.lemmas.Nat.{le-div}
use Rattle.state_theory.specs.SetBits.{is_set}
use Rattle.state_theory.specs.Canonical.{Setting, State, chunk_bits, chunk}
use Rattle.state_theory.specs.Laws.Chunks.{active_bit, bit_of_chunk}
use Rattle.auth_store_client.specs.Claims.{bit_over}

pub div_le : (m n k : ℕ) → 0 < k → m ≤ n → m / k ≤ n / k
div_le m n k some le = le-div (m / k) n k some (omega (arith, le, div-mul-le_self m k))

pub some_at : {A : Type 0} (list : List A) (i : ℕ) → i < length list → (x : A) × (slice_get list i ≡ Some x)
some_at [] i lt = absurd (omega (arith, lt))
some_at (x ∷ list) zero lt = (x, refl)
some_at (x ∷ list) (suc i) lt = some_at list i (omega (arith, lt))

index_or : (chunks : List (List ℕ)) (i : ℕ) (c : List ℕ) → slice_get chunks i ≡ Some c → slice_index_or chunks i [] ≡ c
index_or [] i c is = absurd (let e : ◌≡◌ {A = Option (List ℕ)} None (Some c) = is in cc)
index_or (d ∷ chunks) zero c is = let e : Some d ≡ Some c = is in cc
index_or (d ∷ chunks) (suc i) c is = index_or chunks i c is

module _ (setting : Setting) (state : State) (some : 0 < setting.width) (same : length state.bits ≡ length state.operations) where
  -- the bit of a location in its chunk
  abbrev bit_in : ℕ → Bool
  bit_in location =
      is_set (slice_get (chunk setting state (location / chunk_bits setting)) (location % chunk_bits setting / 8)) (location % chunk_bits setting)

  -- it is the state's
  bit_is : (location : ℕ) → location < length state.operations → slice_get state.bits location ≡ Some (bit_in location)
  bit_is location lt = by (some_at state.bits location (omega (arith, same, lt))).0 (bit_in location) (some_at state.bits location (omega (arith, same, lt))).1
      (active_bit setting state location some lt) (bit_of_chunk setting state location some lt)
    where
      by : (bit there : Bool) → slice_get state.bits location ≡ Some bit → (slice_get state.bits location ≡ Some true → there ≡ true)
          → (there ≡ true → slice_get state.bits location ≡ Some true) → slice_get state.bits location ≡ Some there
      by true there is set back = is ∙ ap (λ b. Some b) (sym (set is))
      by false true is set back = back refl
      by false false is set back = is

  module _ (start count : ℕ) (chunks : List (List ℕ))
      (covered : start / chunk_bits setting + length chunks ≡ (start + count - 1) / chunk_bits setting + 1)
      (are : (i : ℕ) → i < length chunks → slice_get chunks i ≡ Some (chunk setting state (start / chunk_bits setting + i))) where
    -- so is the bit in the chunks over operations that are the state's
    pub over_is : (i : ℕ) → i < count → start + i < length state.operations
        → slice_get state.bits (start + i) ≡ Some (bit_over setting.width start chunks (start + i))
    over_is i lt within =
        let bits : ℕ = chunk_bits setting in
        let index : ℕ = (start + i) / bits in
        let low : start / bits ≤ index = div_le start (start + i) bits (omega (arith, some)) (omega arith) in
        let high : index ≤ (start + count - 1) / bits = div_le (start + i) (start + count - 1) bits (omega (arith, some)) (omega (arith, lt)) in
        let found : slice_get chunks (index - start / bits) ≡ Some (chunk setting state (start / bits + (index - start / bits))) =
        are (index - start / bits) (omega (arith, low, high, covered)) in
        let own : slice_index_or chunks (index - start / bits) [] ≡ chunk setting state index =
        index_or chunks (index - start / bits) (chunk setting state (start / bits + (index - start / bits))) found
        ∙ ap (chunk setting state) (omega (arith, low)) in
        bit_is (start + i) within
        ∙ ap (λ c. Some (is_set (slice_get c ((start + i) % bits / 8)) ((start + i) % bits))) (sym own)
