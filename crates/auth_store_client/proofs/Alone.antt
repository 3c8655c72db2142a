-- An operation of keys and values is alone in a log of such: no other one there has its encoding. Its floor may be any number of the
-- code, so that it need not be read again.
use Rattle.std.proofs.Common.{◌≡◌, ◌+◌, ◌-◌, ◌<◌, ◌^◌, ℕ, zero, suc, List, [], ◌∷◌, ◌++◌, length, drop, replicate}
use Rattle.std.proofs.Common.{append_assoc, Option, None, Some, refl, sym, ◌∙◌, ap, subst, arith}
use Rattle.std.proofs.lemmas.List.{length-replicate}
use Rattle.std.proofs.lemmas.Nat.{from_be_bytes-to_be_bytes_8}
use Rattle.std.specs.Int.{w64, to_be_bytes, from_be_bytes}
use Rattle.std.specs.List.{AllByRecursion}
use Rattle.std.specs.Prelude.{IfSome, slice_index_or}
use Rattle.merkle_forest.specs.Codec.{Outcome}
use Rattle.merkle_forest.specs.Laws.Matching.{append_parts}
use Rattle.state_ops_parts.specs.Operation.{fixed_metadata}
use Rattle.state_ops.specs.Laws.Again.{read_once}
use Rattle.state_ops.specs.Operation.{Operation, delete, update, ordered, commit_floor, fixed_size, unpadded, fixed_encoding}
use Rattle.state_ops.specs.Reading.{HasEncoding, IsField, IsOfFields}
use Rattle.auth_store_client.specs.Laws.Fields.{HasOwn}
use Rattle.auth_store_client.specs.Soundness.{IsAlone}

head_same : (x y : ℕ) (xs ys : List ℕ) → x ∷ xs ≡ y ∷ ys → x ≡ y
head_same x y xs ys same = ap (λ zs. slice_index_or zs 0 0) same

module _ (key value : List ℕ → Outcome) (key_size value_size : ℕ) where
  abbrev encoding : Operation → List ℕ
  encoding = fixed_encoding key_size value_size

  -- a commit's metadata, and as many zeros where there are none, has one length
  long : (metadata : Option (List ℕ)) → IfSome metadata (IsField value value_size) → length (fixed_metadata value_size metadata) ≡ value_size + 1
  long None is = omega (arith, length-replicate {A = ℕ} value_size 0)
  long (Some bytes) is = omega (arith, is.0)

  same_metadata : (m n : Option (List ℕ)) → fixed_metadata value_size m ≡ fixed_metadata value_size n → m ≡ n
  same_metadata None None same = refl
  same_metadata None (Some b) same = absurd (let tag = head_same 0 1 _ _ same in omega (arith, tag))
  same_metadata (Some a) None same = absurd (let tag = head_same 1 0 _ _ same in omega (arith, tag))
  same_metadata (Some a) (Some b) same = ap Some (ap (drop 1) same)

  same_floor : (f g : ℕ) → f < 2 ^ 64 → g < 2 ^ 64 → to_be_bytes w64 f ≡ to_be_bytes w64 g → f ≡ g
  same_floor f g small low same =
      sym (from_be_bytes-to_be_bytes_8 f small) ∙ (ap (from_be_bytes w64) same ∙ from_be_bytes-to_be_bytes_8 g low)

  commit_once : (m n : Option (List ℕ)) (f g : ℕ) → IfSome m (IsField value value_size) → IfSome n (IsField value value_size)
      → f < 2 ^ 64 → g < 2 ^ 64 → encoding (commit_floor m f) ≡ encoding (commit_floor n g)
      → ◌≡◌ {A = Operation} (commit_floor m f) (commit_floor n g)
  commit_once m n f g is is_other small low same =
      let zeros : Operation → List ℕ = λ op. replicate (fixed_size key_size value_size - length (unpadded value_size op)) 0 in
      let one : List ℕ = zeros (commit_floor m f) in
      let other : List ℕ = zeros (commit_floor n g) in
      let bytes : fixed_metadata value_size m ++ (to_be_bytes w64 f ++ one) ≡ fixed_metadata value_size n ++ (to_be_bytes w64 g ++ other) =
      sym (append_assoc (fixed_metadata value_size m) (to_be_bytes w64 f) one)
      ∙ (ap (drop 1) same ∙ append_assoc (fixed_metadata value_size n) (to_be_bytes w64 g) other) in
      let first = append_parts (fixed_metadata value_size m) (to_be_bytes w64 f ++ one) (fixed_metadata value_size n) (to_be_bytes w64 g ++ other)
      (long m is ∙ sym (long n is_other)) bytes in
      let second = append_parts (to_be_bytes w64 f) one (to_be_bytes w64 g) other refl first.1 in
      ap (λ (x : Option (List ℕ)). commit_floor x f) (same_metadata m n first.0)
      ∙ ap (λ (x : ℕ). commit_floor n x) (same_floor f g small low second.0)

  behind_nothing : (one other : Operation) → encoding one ≡ encoding other → encoding one ++ [] ≡ encoding other ++ []
  behind_nothing one other same = ap (λ bytes. bytes ++ []) same

  once : (one other : Operation) → HasEncoding key value key_size value_size one
      → IsOfFields (IsField key key_size) (IsField value value_size) other → encoding one ≡ encoding other → one ≡ other
  once one (delete k) has names same =
      (read_once key value key_size value_size one (delete k) [] [] has names (behind_nothing one (delete k) same)).0
  once one (update (ordered k v n)) has names same =
      (read_once key value key_size value_size one (update (ordered k v n)) [] [] has names
      (behind_nothing one (update (ordered k v n)) same)).0
  once (delete k) (commit_floor n g) has names same = absurd (let tag = head_same 0xD1 0xD3 _ _ same in omega (arith, tag))
  once (update u) (commit_floor n g) has names same = absurd (let tag = head_same 0xD2 0xD3 _ _ same in omega (arith, tag))
  once (commit_floor m f) (commit_floor n g) has names same = commit_once m n f g has.0 names.0 (omega (arith, has.1)) names.1 same

  -- a history's operation has an encoding
  pub encoded : (op : Operation) → HasOwn (IsField key key_size) (IsField value value_size) op → HasEncoding key value key_size value_size op
  encoded (delete k) has = has
  encoded (update (ordered k v n)) has = has
  encoded (commit_floor m f) has = has

  pub is_alone : (log : List Operation) → AllByRecursion (HasOwn (IsField key key_size) (IsField value value_size)) log → (operation : Operation)
      → IsOfFields (IsField key key_size) (IsField value value_size) operation → IsAlone key_size value_size log operation
  is_alone [] own operation names location other at same = absurd cc
  is_alone (op ∷ log) own operation names zero other at same =
      let here : op ≡ other = cc in
      once other operation (subst (HasEncoding key value key_size value_size) here (encoded op own.0)) names same
  is_alone (op ∷ log) own operation names (suc location) other at same = is_alone log own.1 operation names location other at same
