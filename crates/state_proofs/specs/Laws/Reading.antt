-- Proofs that the code holds are within the limits, and are read again.
use Rattle.std.proofs.Common.{◌≡◌, ℕ, ◌^◌, ◌<◌, ◌≤◌, Bool, true, false, List, ◌++◌, length, Option, Some, None, Ok}
use Rattle.std.proofs.Common.{append_assoc, arith}
use Rattle.std.specs.Prelude.{IfSome, IsTrue, option_map}
use Rattle.std.proofs.lemmas.List.{length-map}
use Rattle.merkle_forest.specs.Codec.{◌>>=◌, Outcome}
use Rattle.merkle_forest.specs.Lists.{AreItems}
use Rattle.merkle_theory.specs.Laws.Proofs.{all_sized}
use Rattle.state_proofs.specs.declared.operation.Proof.{Proof}
use Rattle.state_proofs.specs.declared.proof.RangeProof.{RangeProof}
use Rattle.state_theory.specs.Encoded.{range_proof_encoding, operation_proof_encoding, key_value_proof_encoding}
use Rattle.state_theory.specs.Encoded.{after_range_proof, after_operation_proof, FitsRange, Fits}
use Rattle.state_theory.specs.Forms.{after_told, after_form}
use Rattle.state_theory.specs.Told.{Told}
use Rattle.state_theory.specs.Laws.Encoded.{Grammar, range_again, operation_again, operation_within}
use Rattle.state_proofs.specs.ProofsCode.{range_parts_of, form_parts_of}

some_sized : {D : Type 0} (encoding : D → List ℕ) (is_value : D → Type 0) (size : ℕ) (digest : Option D)
    → ((d : D) → is_value d → length (encoding d) ≡ size) → IfSome digest is_value
    → IfSome (option_map encoding digest) (λ bytes. length bytes ≡ size)
some_sized encoding is_value size None sized value = tt
some_sized encoding is_value size (Some d) sized value = sized d value

-- the values of a proof over a range, from those of digests and of what is held of the pending one
abbrev pub IsRangeValue : {F D P : Type 0} → (D → Type 0) → (P → Type 0) → RangeProof F D P → Type 0
IsRangeValue is_value is_held p =
    ((p.proof.leaves < 2 ^ 64) × (p.proof.inactive_peaks < 2 ^ 64) × AreItems is_value p.proof.digests.items)
    × is_held p.pending_chunk_digest × IfSome p.partial_chunk_digest is_value × is_value p.ops_root

abbrev pub IsRangeWithin : {F D P : Type 0} → ℕ → RangeProof F D P → Type 0
IsRangeWithin most p = (p.proof.leaves ≤ 2 ^ 62) × (length p.proof.digests.items ≤ most)

-- what is read, where a reader may be told what it was told
told_again : (allowed : Bool) (after : List ℕ → Outcome) (bytes rest : List ℕ) → IsTrue allowed → after bytes ≡ Ok rest
    → (after_told allowed bytes >>= after) ≡ Ok rest
told_again true after bytes rest is again = again
told_again false after bytes rest is again = absurd cc

-- the limits of a proof of one operation that is read in a form
abbrev pub IsFormWithin : {F D C P : Type 0} → (C → List ℕ) → Told → Proof F D C P → Type 0
IsFormWithin chunk told p =
    (p.loc ≤ 2 ^ 62) × (length (chunk p.chunk) ≡ told.width)
    × IsRangeWithin told.most p.range_proof × IsTrue told.allowed

module _ {D P : Type 0} (encoding : D → List ℕ) (is_value : D → Type 0) (size : ℕ)
    (sized : (d : D) → is_value d → length (encoding d) ≡ size)
    (held : P → Option (List ℕ)) (is_held : P → Type 0) (IsPending : Option (List ℕ) → Type 0)
    (holds : (p : P) → is_held p → IsPending (held p)) where
  pub range_fits : {F : Type 0} (most : ℕ) (p : RangeProof F D P) → IsRangeValue is_value is_held p
      → IsRangeWithin most p
      → FitsRange IsPending size most (range_parts_of encoding held p)
  range_fits most p value within = record {
    leaves = within.0;
    inactive = value.0.1;
    few = omega (arith, length-map p.proof.digests.items encoding, within.1);
    digests = all_sized encoding is_value size p.proof.digests.items sized value.0.2.1;
    pending = holds p.pending_chunk_digest value.1;
    partial = some_sized encoding is_value size p.partial_chunk_digest sized value.2;
    operations_root = sized p.ops_root value.3;
  }

  pub parts_fit : {F C : Type 0} (chunk : C → List ℕ) (width most : ℕ) (p : Proof F D C P)
      → (p.loc < 2 ^ 64) × IsRangeValue is_value is_held p.range_proof
      → (p.loc ≤ 2 ^ 62) × (length (chunk p.chunk) ≡ width) × IsRangeWithin most p.range_proof
      → Fits IsPending width size most (form_parts_of chunk encoding held p)
  parts_fit chunk width most p value within = record {
    location = within.0;
    chunk = within.1;
    range = range_fits most p.range_proof value.1 within.2;
  }

  module _ (digest after : List ℕ → Outcome)
      (pending : Option (List ℕ) → List ℕ) (grammar : Grammar digest after IsPending pending size) where
    -- a proof over a range is read again
    pub read_range_again : {F : Type 0} (most : ℕ) (p : RangeProof F D P) (rest : List ℕ)
        → IsRangeValue is_value is_held p → IsRangeWithin most p
        → after_range_proof digest after most (range_proof_encoding pending (range_parts_of encoding held p) ++ rest)
        ≡ Ok rest
    read_range_again most p rest value within =
        range_again digest after IsPending pending size most grammar (range_parts_of encoding held p) rest
        (omega (arith, length-map p.proof.digests.items encoding, value.0.2.0)) (range_fits most p value within)

    -- so is a proof of one operation, in a form
    pub read_form_again : {F C : Type 0} (chunk : C → List ℕ) (told : Told) (p : Proof F D C P) (rest : List ℕ)
        → (p.loc < 2 ^ 64) × IsRangeValue is_value is_held p.range_proof → IsFormWithin chunk told p
        → after_form digest after told (operation_proof_encoding pending (form_parts_of chunk encoding held p) ++ rest)
        ≡ Ok rest
    read_form_again chunk told p rest value within =
        told_again told.allowed (after_operation_proof digest after told.width told.most)
        (operation_proof_encoding pending (form_parts_of chunk encoding held p) ++ rest) rest within.3
        (operation_again digest after IsPending pending size told.most grammar told.width
        (form_parts_of chunk encoding held p) rest
        (omega (arith, length-map p.range_proof.proof.digests.items encoding, value.1.0.2.0))
        (parts_fit chunk told.width told.most p value (within.0, within.1, within.2)))

    -- what is read of the parts of a value is within the limits
    pub read_operation_fits : {F C : Type 0}
        (chunk : C → List ℕ) (width most : ℕ) (p : Proof F D C P) (rest new : List ℕ)
        → (p.loc < 2 ^ 64) × IsRangeValue is_value is_held p.range_proof → length (chunk p.chunk) ≡ width
        → after_operation_proof digest after width most
        (operation_proof_encoding pending (form_parts_of chunk encoding held p) ++ rest) ≡ Ok new
        → Fits IsPending width size most (form_parts_of chunk encoding held p)
    read_operation_fits chunk width most p rest new value sized read =
        let count = length-map p.range_proof.proof.digests.items encoding in
        let it = operation_within digest after IsPending pending size most grammar width
        (form_parts_of chunk encoding held p) rest new value.0 sized
        value.1.0.0 value.1.0.1 (omega (arith, count, value.1.0.2.0)) read in
        parts_fit chunk width most p value (it.0, sized, (it.1.0, omega (arith, count, it.1.1)))

    -- so is the proof of an update with its next key
    pub read_key_value_again : {F C : Type 0} (chunk : C → List ℕ) (told : Told)
        (key : List ℕ → Outcome) (p : Proof F D C P)
        (next_key rest : List ℕ)
        → (p.loc < 2 ^ 64) × IsRangeValue is_value is_held p.range_proof → IsFormWithin chunk told p
        → key (next_key ++ rest) ≡ Ok rest
        → (after_form digest after told
        (key_value_proof_encoding pending (form_parts_of chunk encoding held p) next_key ++ rest) >>= key) ≡ Ok rest
    read_key_value_again chunk told key p next_key rest value within again =
        rw (
          append_assoc (operation_proof_encoding pending (form_parts_of chunk encoding held p)) next_key rest,
          read_form_again chunk told p (next_key ++ rest) value within,
        ) again
