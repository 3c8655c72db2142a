-- Bytes that show a key's value are those of its active update, with its next key.
use Rattle.std.proofs.Common.{◌≡◌, ◌-◌, ℕ, zero, suc, List, [], ◌∷◌, ◌++◌, length}
use Rattle.std.proofs.Common.{drop, map, replicate, Some, append_assoc, sym, ◌∙◌, ap, arith, Option}
use Rattle.std.specs.List.{AllByRecursion}
use Rattle.std.specs.Prelude.{slice_get, slice_index_or}
use Rattle.merkle_forest.specs.Codec.{Outcome}
use Rattle.merkle_forest.specs.Laws.Matching.{append_parts}
use Rattle.state_ops.specs.Operation.{Operation, delete, update, ordered, commit_floor, fixed_size, unpadded, fixed_encoding}
use Rattle.state_ops.specs.Reading.{IsField}
use Rattle.state_theory.specs.Canonical.{Setting}
use Rattle.state_theory.specs.Encoded.{key_value_proof_encoding}
use Rattle.state_theory.specs.Honest.{honest_parts, key_value_proof}
use Rattle.state_theory.specs.MadeRanges.{HasActive}
use Rattle.state_theory.specs.Verified.{Parts}
use Rattle.auth_store_parts.specs.History.{History, active_location, log_of}
use Rattle.auth_store_parts.specs.Laws.Actives.{location-active, next-active}
use Rattle.auth_store_client.specs.Fields.{IsSound}
use Rattle.auth_store_client.specs.Laws.Fields.{HasOwn, own_log}
use Rattle.auth_store_client.specs.Proving.{honest_proof}
use Rattle.auth_store_client.specs.States.{state_of_history}

head_same : (x y : ℕ) (xs ys : List ℕ) → x ∷ xs ≡ y ∷ ys → x ≡ y
head_same x y xs ys same = ap (λ zs. slice_index_or zs 0 0) same

regroup : (a b c d : List ℕ) → (a ++ (b ++ c)) ++ d ≡ a ++ (b ++ (c ++ d))
regroup a b c d = simp append_assoc

module _ (key value : List ℕ → Outcome) (key_size value_size : ℕ) where
  abbrev encoding : Operation → List ℕ
  encoding = fixed_encoding key_size value_size

  abbrev Own : Operation → Type 0
  Own = HasOwn (IsField key key_size) (IsField value value_size)

  -- an operation of keys and values that is encoded as an update of such sizes is this update
  same_update : (op : Operation) (k v n : List ℕ) → Own op → length k ≡ key_size → length v ≡ value_size → length n ≡ key_size
      → encoding op ≡ encoding (update (ordered k v n)) → op ≡ update (ordered k v n)
  same_update (delete a) k v n own wide long next same = absurd (let tag = head_same 0xD1 0xD2 _ _ same in omega (arith, tag))
  same_update (commit_floor m f) k v n own wide long next same = absurd (let tag = head_same 0xD3 0xD2 _ _ same in omega (arith, tag))
  same_update (update (ordered a b c)) k v n own wide long next same =
      let zeros : Operation → List ℕ = λ op. replicate (fixed_size key_size value_size - length (unpadded value_size op)) 0 in
      let one : List ℕ = zeros (update (ordered a b c)) in
      let other : List ℕ = zeros (update (ordered k v n)) in
      let bytes : a ++ (b ++ (c ++ one)) ≡ k ++ (v ++ (n ++ other)) = sym (regroup a b c one) ∙ ap (drop 1) same ∙ regroup k v n other in
      let first = append_parts a (b ++ (c ++ one)) k (v ++ (n ++ other)) (own.0.0 ∙ sym wide) bytes in
      let second = append_parts b (c ++ one) v (n ++ other) (own.1.0.0 ∙ sym long) first.1 in
      let third = append_parts c one n other (own.1.1.0 ∙ sym next) second.1 in
      ap (λ x. update (ordered x b c)) first.0 ∙ ap (λ x. update (ordered k x c)) second.0 ∙ ap (λ x. update (ordered k v x)) third.0

  -- so it is in a log of such
  stands_as : (log : List Operation) (location : ℕ) (k v n : List ℕ) → AllByRecursion Own log → length k ≡ key_size → length v ≡ value_size
      → length n ≡ key_size → slice_get (map encoding log) location ≡ Some (encoding (update (ordered k v n)))
      → slice_get log location ≡ Some (update (ordered k v n))
  stands_as [] location k v n own wide long next is = absurd (cc)
  stands_as (op ∷ log) zero k v n own wide long next is =
      let same : encoding op ≡ encoding (update (ordered k v n)) = (let e : Some (encoding op) ≡ Some (encoding (update (ordered k v n))) = is in cc) in
      ap Some (same_update op k v n own.0 wide long next same)
  stands_as (op ∷ log) (suc location) k v n own wide long next is = stands_as log location k v n own.1 wide long next is

  pub bytes_of_value : (pending : Option (List ℕ) → List ℕ) (setting : Setting) (history : History) (k v n : List ℕ) (proof : Parts)
      (bytes : List ℕ) → IsSound (IsField key key_size) (IsField value value_size) history → length k ≡ key_size → length v ≡ value_size
      → length n ≡ key_size → bytes ≡ key_value_proof_encoding pending proof n
      → HasActive (state_of_history key_size value_size history) proof.location (encoding (update (ordered k v n)))
      → proof ≡ honest_parts setting (state_of_history key_size value_size history) proof.location
      → bytes ≡ honest_proof pending setting key_size value_size history k
  bytes_of_value pending setting history k v n proof bytes sound wide long next is active honest =
      let there = stands_as (log_of history) proof.location k v n (own_log (IsField key key_size) (IsField value value_size) history sound.fields
      sound.few) wide long next active.stands in
      let location : active_location k (log_of history) ≡ proof.location =
      location-active k v n (log_of history) proof.location there active.active in
      is ∙ ap (λ p. key_value_proof_encoding pending p n) honest
      ∙ ap (λ at. key_value_proof pending setting (state_of_history key_size value_size history) at n) (sym location)
      ∙ ap (key_value_proof pending setting (state_of_history key_size value_size history) (active_location k (log_of history)))
      (sym (next-active k v n history proof.location sound.states there active.active))
