-- The operations of a state from one location up to another, and the chunks over them: the honest proof shows them.
use Rattle.std.proofs.Common.{◌≡◌, ℕ, zero, suc, ◌+◌, ◌-◌, ◌*◌, ◌/◌, ◌<◌, ◌≤◌}
use Rattle.std.proofs.Common.{Bool, List, [], ◌∷◌, length, map, take, drop, Some, refl, sym, ◌∙◌, ap, arith}
use Rattle.std.specs.Prelude.{slice_get, if◌then◌else◌, ◌==◌}
use Rattle.std.proofs.lemmas.List.{length-take-le, length-drop}
use Rattle.std.proofs.lemmas.Option.{slice_get-get_or}
use Rattle.merkle_theory.specs.Laws.Sound.{all_take, all_drop}
use Rattle.state_theory.specs.Bits.{chunks_of}
use Rattle.state_theory.specs.Laws.Bits.{length-chunk_of}
use Rattle.state_theory.specs.Canonical.{Setting, State, chunk_bits, full_chunks, next_bit, chunks, chunk}
use Rattle.state_theory.specs.Laws.Chunks.{location_chunks}
use Rattle.state_theory.specs.MadeRanges.{HasRange}
use Rattle.state_theory.specs.Verified.{Shown, IsShaped}
use Rattle.auth_store_client.specs.Claims.{bits_over, bit_over}
use Rattle.auth_store_client.specs.Proving.{chunks_over}
use Rattle.auth_store_client.proofs.Bits.{div_le, over_is}
use Rattle.auth_store_client.proofs.Chunks.{AreWide}
use Rattle.auth_store_client.proofs.Lists.{get_take, get_drop, by_values}

chunks_of-wide : (width count : ℕ) (bits : List Bool) → AreWide width (chunks_of width count bits)
unfolding chunks_of
chunks_of-wide width zero bits = tt
chunks_of-wide width (suc count) bits = (length-chunk_of width bits, chunks_of-wide width count (drop (8 * width) bits))

map-take : {A B : Type 0} (f : A → B) (n : ℕ) (xs : List A) → map f (take n xs) ≡ take n (map f xs)
map-take f zero xs = refl
map-take f (suc n) [] = refl
map-take f (suc n) (x ∷ xs) = ap (λ ys. f x ∷ ys) (map-take f n xs)

map-drop : {A B : Type 0} (f : A → B) (n : ℕ) (xs : List A) → map f (drop n xs) ≡ drop n (map f xs)
map-drop f zero xs = refl
map-drop f (suc n) [] = refl
map-drop f (suc n) (x ∷ xs) = map-drop f n xs

pub map-part : {A B : Type 0} (f : A → B) (start stop : ℕ) (xs : List A)
    → map f (take (stop - start) (drop start xs)) ≡ take (stop - start) (drop start (map f xs))
map-part f start stop xs = map-take f (stop - start) (drop start xs) ∙ ap (take (stop - start)) (map-drop f start xs)

-- so many of a list, from a place on
pub length-part : {A : Type 0} (list : List A) (start stop : ℕ) → start < stop → stop ≤ length list
    → length (take (stop - start) (drop start list)) ≡ stop - start
length-part list start stop some within =
    length-take-le (stop - start) (drop start list) (omega (arith, length-drop start list, within, some))

pub part_at : {A : Type 0} (list : List A) (start stop i : ℕ) → i < stop - start
    → slice_get (take (stop - start) (drop start list)) i ≡ slice_get list (start + i)
part_at list start stop i lt = get_take (stop - start) i (drop start list) lt ∙ get_drop start i list

module _ (setting : Setting) (state : State) (start stop : ℕ) (wide : 0 < setting.width) (some : start < stop)
    (within : stop ≤ length state.operations) where
  abbrev pub part : List (List ℕ)
  part = take (stop - start) (drop start state.operations)

  abbrev pub over : List (List ℕ)
  over = chunks_over setting state start stop

  abbrev pub shown : Shown
  shown = record { start = start; operations = part; chunks = over; width = setting.width }

  abbrev first : ℕ
  first = start / chunk_bits setting

  pub count : length part ≡ stop - start
  count = length-part state.operations start stop some within

  -- the last of the chunks is there
  last_there : (stop - 1) / chunk_bits setting < length (chunks setting state)
  last_there = location_chunks setting state (stop - 1) wide (omega (arith, some, within))

  from_first : first ≤ (stop - 1) / chunk_bits setting
  from_first = div_le start (stop - 1) (chunk_bits setting) (omega (arith, wide)) (omega (arith, some))

  many : length over ≡ (stop - 1) / chunk_bits setting + 1 - first
  many =
      length-take-le ((stop - 1) / chunk_bits setting + 1 - first) (drop first (chunks setting state))
      (omega (arith, length-drop first (chunks setting state), last_there, from_first))

  all_wide : AreWide setting.width (chunks setting state)
  unfolding chunks
  all_wide = chunks_of-wide setting.width (full_chunks setting state + (if next_bit setting state == 0 then 0 else 1)) state.bits

  pub over_wide : AreWide setting.width over
  over_wide =
      all_take setting.width ((stop - 1) / chunk_bits setting + 1 - first) (drop first (chunks setting state))
      (all_drop setting.width first (chunks setting state) all_wide)

  pub shaped : IsShaped (length state.operations) shown
  shaped = record {
    some = omega (arith, count, some);
    within = omega (arith, count, some, within);
    counted = omega (arith, many, from_first, ap (λ n. (n - 1) / chunk_bits setting) end);
    wide = over_wide;
  }
    where
      end : start + length part ≡ stop
      end = omega (arith, count, some)

  are : (i : ℕ) → i < length over → slice_get over i ≡ Some (chunk setting state (first + i))
  are i lt =
      get_take ((stop - 1) / chunk_bits setting + 1 - first) i (drop first (chunks setting state)) (omega (arith, lt, many))
      ∙ get_drop first i (chunks setting state)
      ∙ slice_get-get_or (chunks setting state) (first + i) [] (omega (arith, lt, many, last_there, from_first))

  pub has : HasRange setting state shown
  has = record {
    stands = λ i lt. sym (part_at state.operations start stop i (omega (arith, lt, count)));
    chunks = are;
  }

  -- the bits of the operations are those in the chunks over them
  pub bits_are : length state.bits ≡ length state.operations
      → take (stop - start) (drop start state.bits) ≡ bits_over setting.width start over (length part)
  bits_are same =
      let own : List Bool = take (stop - start) (drop start state.bits) in
      let long : length own ≡ length part = length-part state.bits start stop some (omega (arith, same, within)) ∙ sym count in
      by_values (bit_over setting.width start over) own start
      (λ i lt. part_at state.bits start stop i (omega (arith, lt, long, count))
      ∙ over_is setting state wide same start (length part) over shaped.counted are i (omega (arith, lt, long)) (omega (arith, lt, long, count, within)))
      ∙ ap (λ n. bits_over setting.width start over n) long
