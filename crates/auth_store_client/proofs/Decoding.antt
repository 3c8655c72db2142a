-- Bytes that encode a proof within the limits are read to their end, and encode one proof alone.
use Rattle.std.proofs.Common.{◌≡◌, ℕ, ◌^◌, ◌<◌, List, [], ◌∷◌, ◌++◌, length}
use Rattle.std.proofs.Common.{Option, Some, None, Ok, refl, sym, ◌∙◌, ap, append_assoc, append-nil, arith}
use Rattle.std.specs.Prelude.{IfSome, slice_index_or}
use Rattle.merkle_forest.specs.Codec.{Outcome, option_encoding, after_option}
use Rattle.merkle_forest.specs.Laws.Matching.{append_parts}
use Rattle.state_ops_parts.specs.Laws.Updates.{three_again}
use Rattle.state_ops_parts.specs.Grammar.{after_ordered}
use Rattle.merkle_forest.specs.Codec.{◌>>=◌}
use Rattle.state_theory.specs.Encoded.{operation_proof_encoding, after_operation_proof, Fits}
use Rattle.state_proofs.specs.Exclusion.{ExclusionParts, by_update, by_commit, exclusion_encoding, after_exclusion}
use Rattle.state_theory.specs.Laws.Encoded.{Grammar, operation_again}
use Rattle.state_theory.specs.Laws.Once.{key_value_once}
use Rattle.state_theory.specs.Verified.{Parts}
use Rattle.auth_store_client.specs.Claims.{Terms, FitsExclusion}

options_same : (p q : Option (List ℕ)) → option_encoding (λ d. d) p ≡ option_encoding (λ d. d) q → p ≡ q
options_same None None same = refl
options_same None (Some q) same = absurd cc
options_same (Some p) None same = absurd cc
options_same (Some p) (Some q) same = let inner : p ≡ q = cc in ap (λ d. Some d) inner

head_same : (x y : ℕ) (xs ys : List ℕ) → x ∷ xs ≡ y ∷ ys → x ≡ y
head_same x y xs ys same = ap (λ zs. slice_index_or zs 0 0) same

-- what is read after nothing
pub ends : (after : List ℕ → Outcome) (bytes encoding : List ℕ) → bytes ≡ encoding → after (encoding ++ []) ≡ Ok [] → after bytes ≡ Ok []
ends after bytes encoding is read = ap after (is ∙ sym (append-nil encoding)) ∙ read

module _ (digest held : List ℕ → Outcome) (IsPending : Option (List ℕ) → Type 0) (pending : Option (List ℕ) → List ℕ)
    (width size most : ℕ) (small : most < 2 ^ 64) (grammar : Grammar digest held IsPending pending size) where
  pub operation_reads : (proof : Parts) (rest : List ℕ) → Fits IsPending width size most proof
      → after_operation_proof digest held width most (operation_proof_encoding pending proof ++ rest) ≡ Ok rest
  operation_reads proof rest fits =
      operation_again digest held IsPending pending size most grammar width proof rest (omega (arith, fits.range.few, small)) fits

  pub operation_once : (p q : Parts) (x y : List ℕ) → Fits IsPending width size most p → Fits IsPending width size most q
      → operation_proof_encoding pending p ++ x ≡ operation_proof_encoding pending q ++ y → (p ≡ q) × (x ≡ y)
  operation_once p q x y low high same =
      key_value_once IsPending pending width size most small grammar.once p q x y low high same

-- what keys and values are to be, so that proofs of absence are read
pub record Fields (terms : Terms) (key value : List ℕ → Outcome) : Type 0 where
  pub key_again : (k rest : List ℕ) → terms.IsKey k → key (k ++ rest) ≡ Ok rest
  pub value_again : (v rest : List ℕ) → terms.IsValue v → value (v ++ rest) ≡ Ok rest
  pub key_sized : (k : List ℕ) → terms.IsKey k → length k ≡ terms.key_size
  pub value_sized : (v : List ℕ) → terms.IsValue v → length v ≡ terms.value_size

module _ (terms : Terms) (digest held key value : List ℕ → Outcome) (small : terms.format.most < 2 ^ 64)
    (grammar : Grammar digest held terms.format.IsPending terms.format.pending terms.format.size) (fields : Fields terms key value) where
  abbrev after_proof : List ℕ → Outcome
  after_proof = after_operation_proof digest held terms.format.width terms.format.most

  reads : (proof : Parts) (rest : List ℕ) → Fits terms.format.IsPending terms.format.width terms.format.size terms.format.most proof
      → after_proof (operation_proof_encoding terms.format.pending proof ++ rest) ≡ Ok rest
  reads = operation_reads digest held terms.format.IsPending terms.format.pending terms.format.width terms.format.size terms.format.most small
      grammar

  metadata_reads : (metadata : Option (List ℕ)) (rest : List ℕ) → IfSome metadata terms.IsValue
      → after_option value (option_encoding (λ bytes. bytes) metadata ++ rest) ≡ Ok rest
  metadata_reads None rest is = refl
  metadata_reads (Some v) rest is = fields.value_again v rest is

  pub exclusion_reads : (proof : ExclusionParts) (rest : List ℕ) → FitsExclusion terms proof
      → after_exclusion after_proof key value (exclusion_encoding terms.format.pending proof ++ rest) ≡ Ok rest
  exclusion_reads (by_update proof k v n) rest fits =
      let spelled : List ℕ = k ++ (v ++ n) in
      ap (λ bytes. after_proof bytes >>= after_ordered key value)
      (append_assoc (operation_proof_encoding terms.format.pending proof) spelled rest)
      ∙ ap (λ outcome. outcome >>= after_ordered key value) (reads proof (spelled ++ rest) fits.0)
      ∙ three_again key value k v n rest (λ more. fields.key_again k more fits.1) (λ more. fields.value_again v more fits.2)
      (λ more. fields.key_again n more fits.3)
  exclusion_reads (by_commit proof metadata) rest fits =
      let spelled : List ℕ = option_encoding (λ bytes. bytes) metadata in
      ap (λ bytes. after_proof bytes >>= after_option value)
      (append_assoc (operation_proof_encoding terms.format.pending proof) spelled rest)
      ∙ ap (λ outcome. outcome >>= after_option value) (reads proof (spelled ++ rest) fits.0)
      ∙ metadata_reads metadata rest fits.1

  once : (p q : Parts) (x y : List ℕ) → Fits terms.format.IsPending terms.format.width terms.format.size terms.format.most p
      → Fits terms.format.IsPending terms.format.width terms.format.size terms.format.most q
      → operation_proof_encoding terms.format.pending p ++ x ≡ operation_proof_encoding terms.format.pending q ++ y → (p ≡ q) × (x ≡ y)
  once = operation_once digest held terms.format.IsPending terms.format.pending terms.format.width terms.format.size terms.format.most small
      grammar

  pub exclusion_once : (p q : ExclusionParts) → FitsExclusion terms p → FitsExclusion terms q
      → exclusion_encoding terms.format.pending p ≡ exclusion_encoding terms.format.pending q → p ≡ q
  exclusion_once (by_update p k v n) (by_update q l w m) low high same =
      let behind : operation_proof_encoding terms.format.pending p ++ (k ++ (v ++ n))
      ≡ operation_proof_encoding terms.format.pending q ++ (l ++ (w ++ m)) = cc in
      let one = once p q (k ++ (v ++ n)) (l ++ (w ++ m)) low.0 high.0 behind in
      let two = append_parts k (v ++ n) l (w ++ m) (fields.key_sized k low.1 ∙ sym (fields.key_sized l high.1)) one.1 in
      let three = append_parts v n w m (fields.value_sized v low.2 ∙ sym (fields.value_sized w high.2)) two.1 in
      ap (λ x. by_update x k v n) one.0 ∙ ap (λ x. by_update q x v n) two.0 ∙ ap (λ x. by_update q l x n) three.0
      ∙ ap (λ x. by_update q l w x) three.1
  exclusion_once (by_commit p m) (by_commit q n) low high same =
      let behind : operation_proof_encoding terms.format.pending p ++ option_encoding (λ bytes. bytes) m
      ≡ operation_proof_encoding terms.format.pending q ++ option_encoding (λ bytes. bytes) n = cc in
      let one = once p q (option_encoding (λ bytes. bytes) m) (option_encoding (λ bytes. bytes) n) low.0 high.0 behind in
      ap (λ x. by_commit x m) one.0 ∙ ap (λ x. by_commit q x) (options_same m n one.1)
  exclusion_once (by_update p k v n) (by_commit q m) low high same =
      absurd (let tag = head_same 1 2 _ _ same in omega (arith, tag))
  exclusion_once (by_commit p m) (by_update q l w n) low high same =
      absurd (let tag = head_same 2 1 _ _ same in omega (arith, tag))
