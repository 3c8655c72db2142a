-- What is kept of a log stays in step with it as it grows.
use Rattle.std.proofs.Common.{◌≡◌, ℕ, ◌+◌, ◌*◌, ◌^◌, ◌<◌, ◌≤◌, Bool, false, inl, inr, List, []}
use Rattle.std.proofs.Common.{◌∷◌, ◌++◌, length, map, slice_set, refl, sym, ◌∙◌, ap, subst, arith, length-append}
use Rattle.std.proofs.lemmas.Bool.{cases_lt}
use Rattle.std.proofs.lemmas.List.{length-map, map-append}
use Rattle.std.proofs.lemmas.Nat.{mul-le, pow_pos}
use Rattle.std.specs.List.{AllByRecursion, flat_map}
use Rattle.state_ops.specs.Operation.{Operation, fixed_encoding}
use Rattle.state_theory.specs.Bits.{Bits, bit_count}
use Rattle.state_theory.specs.Laws.Bits.{length-all}
use Rattle.state_theory.specs.Canonical.{Setting, State}
use Rattle.state_current.specs.Growth as kept
use Rattle.state_current.specs.Growth.{grown}
use Rattle.state_current.specs.Kept.{Kept, StandsFor}
use Rattle.auth_store_index.specs.Growth as logged
use Rattle.auth_store_log.specs.Records.{log_bytes}
use Rattle.auth_store_ledger.specs.History.{activity_bits, last_floor}
use Rattle.auth_store_ledger.specs.Store.{IsKept, encodings, state_of_log}

-- a state, part by part
pub same_state : (operations encoded : List (List ℕ)) (bits signs : List Bool) (floor last : ℕ) → operations ≡ encoded
    → bits ≡ signs → floor ≡ last
    → (let state : State = record { operations = operations; bits = bits; floor = floor } in let other : State =
    record { operations = encoded; bits = signs; floor = last } in state ≡ other)
same_state operations encoded bits signs floor last p q r = λ i. record { operations = p i; bits = q i; floor = r i }

-- bits are cleared alike in both words
pub same_cleared : (bits : List Bool) (places : List ℕ) → kept.cleared bits places ≡ logged.cleared bits places
same_cleared bits [] = refl
same_cleared bits (place ∷ places) = same_cleared (slice_set bits place false) places

none_pruned : (width height : ℕ) (bits : Bits) → 8 * width ≡ 2 ^ height → bit_count width bits ≡ 0 → bits.pruned ≡ 0
none_pruned width height bits whole none = elim (cases_lt 0 bits.pruned) [
  | inl some ↦ absurd (let more : 8 * width * 1 ≤ 8 * width * bits.pruned = mul-le (8 * width) 1 (8 * width) bits.pruned (omega arith) some in
      omega (arith, more, whole, pow_pos height, none))
  | inr none_there ↦ omega (arith, none_there)
]

-- as many are encoded as are said
pub counted : {B : Type 0} (key value : ℕ) (bytes : B → List ℕ) (encoded : List B) (said : List Operation)
    → map bytes encoded ≡ encodings key value said → length encoded ≡ length said
counted key value bytes encoded said are =
    sym (length-map encoded bytes) ∙ (ap length are ∙ length-map said (fixed_encoding key value))

-- the encodings one after the other are the bytes of the operations
pub joined_is : {B : Type 0} (key value : ℕ) (bytes : B → List ℕ) (encoded : List B) (said : List Operation)
    → map bytes encoded ≡ encodings key value said → flat_map bytes encoded ≡ log_bytes key value said
joined_is key value bytes encoded said are =
    joined_map bytes encoded ∙ (ap (flat_map (λ part. part)) are ∙ sym (joined_map (fixed_encoding key value) said))
  where
    joined_map : {C : Type 0} (f : C → List ℕ) (xs : List C) → flat_map f xs ≡ flat_map (λ part. part) (map f xs)
    joined_map f [] = refl
    joined_map f (x ∷ xs) = ap (λ l. f x ++ l) (joined_map f xs)

-- places between two bounds stand between wider ones
pub places_within : (start first last end : ℕ) (places : List ℕ) → start ≤ first → last ≤ end
    → AllByRecursion (λ place. (first ≤ place) × (place < last)) places
    → AllByRecursion (λ place. (start ≤ place) × (place < end)) places
places_within start first last end [] from to all = tt
places_within start first last end (place ∷ places) from to all =
    let low : first ≤ place = all.0.0 in
    let high : place < last = all.0.1 in
    ((omega (arith, from, low), omega (arith, to, high)), places_within start first last end places from to all.1)

-- of what stands for no operations nothing is pruned
pub nothing_pruned : (setting : Setting) (kept : Kept) → StandsFor setting (record { operations = []; bits = []; floor = 0 }) kept
    → kept.bits.pruned ≡ 0
nothing_pruned setting kept stands =
    none_pruned setting.width setting.grafting_height kept.bits stands.whole
    (sym (length-all setting.width kept.bits) ∙ sym (ap length stands.bits))

-- it is kept of the empty log
pub kept_of_nothing : (setting : Setting) (key value : ℕ) (kept : Kept)
    → StandsFor setting (record { operations = []; bits = []; floor = 0 }) kept → IsKept setting key value [] kept
kept_of_nothing setting key value kept stands =
    let none : 8 * setting.width * kept.bits.pruned ≡ 8 * setting.width * 0 =
    ap (λ (n : ℕ). 8 * setting.width * n) (nothing_pruned setting kept stands) in record {
      leaves = stands.operations.counted;
      behind = omega (arith, none);
      stands = stands;
    }

-- What is kept of a log with more operations at its end, from the encodings of these, a bit for each, the places that they clear and the floor
-- then.
pub kept_after : {B : Type 0} (setting : Setting) (key value : ℕ) (log said : List Operation) (before after : Kept) (bytes : B → List ℕ)
    (encoded : List B) (bits : List Bool) (places : List ℕ) (floor : ℕ)
    → IsKept setting key value log before
    → map bytes encoded ≡ encodings key value said
    → logged.cleared (activity_bits log ++ bits) places ≡ activity_bits (log ++ said)
    → floor ≡ last_floor (log ++ said) → last_floor log ≤ floor
    → after.operations.leaves ≡ before.operations.leaves + length encoded → after.bits.pruned ≡ before.bits.pruned
    → StandsFor setting (grown (state_of_log key value log) (record {
      operations = map bytes encoded;
      bits = bits;
      cleared = places;
      floor = floor;
    })) after
    → IsKept setting key value (log ++ said) after
kept_after setting key value log said before after bytes encoded bits places floor is are cleared_is floor_is later leaves pruned stands =
    let encoding : Operation → List ℕ = fixed_encoding key value in
    let operations : encodings key value log ++ map bytes encoded ≡ encodings key value (log ++ said) =
    ap (λ l. encodings key value log ++ l) are ∙ sym (map-append encoding log said) in
    let signs : kept.cleared (activity_bits log ++ bits) places ≡ activity_bits (log ++ said) =
    same_cleared (activity_bits log ++ bits) places ∙ cleared_is in record {
      leaves = omega (arith, leaves, is.leaves, length-append log said, length-map encoded bytes, ap length are, length-map said encoding);
      behind = omega (arith, ap (λ (n : ℕ). 8 * setting.width * n) pruned, is.behind, later, floor_is);
      stands = subst (λ (s : State). StandsFor setting s after) (same_state _ _ _ _ _ _ operations signs floor_is) stands;
    }

-- what is kept of a log, made from nothing
pub kept_of_all : {B : Type 0} (setting : Setting) (key value : ℕ) (log : List Operation) (empty after : Kept) (bytes : B → List ℕ)
    (encoded : List B) (bits : List Bool) (floor : ℕ)
    → StandsFor setting (record { operations = []; bits = []; floor = 0 }) empty
    → map bytes encoded ≡ encodings key value log → bits ≡ activity_bits log → floor ≡ last_floor log
    → after.operations.leaves ≡ empty.operations.leaves + length encoded → after.bits.pruned ≡ empty.bits.pruned
    → StandsFor setting (grown (record { operations = []; bits = []; floor = 0 }) (record {
      operations = map bytes encoded;
      bits = bits;
      cleared = [];
      floor = floor;
    })) after
    → IsKept setting key value log after
kept_of_all setting key value log empty after bytes encoded bits floor none are bits_are floor_is leaves pruned stands =
    kept_after setting key value [] log empty after bytes encoded bits [] floor (kept_of_nothing setting key value empty none)
    are bits_are floor_is (omega arith) leaves pruned stands
