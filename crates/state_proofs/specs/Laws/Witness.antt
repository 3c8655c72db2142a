-- A witness is read again.
use Rattle.std.proofs.Common.{◌≡◌, ℕ, List, ◌++◌, length, Option, Some, None, Ok, refl, ◌∙◌, append_assoc}
use Rattle.std.specs.Prelude.{option_map}
use Rattle.merkle_forest.specs.Codec.{Outcome, option_encoding, after_option}
use Rattle.merkle_forest.specs.Laws.Codec.{fixed_again}
use Rattle.merkle_forest.specs.Laws.Varint.{after_varint_again}
use Rattle.merkle_forest.specs.Varint.{varint, after_varint}
use Rattle.state_proofs.specs.declared.witness.OpsRootWitness.{OpsRootWitness}
use Rattle.state_theory.specs.Laws.Encoded.{Grammar}
use Rattle.state_proofs.specs.Witness.{witness_of, witness_encoding, next_encoding, after_next, after_witness, HasNext}

module _ {D P : Type 0} (encoding : D → List ℕ) (is_value : D → Type 0) (size : ℕ)
    (sized : (d : D) → is_value d → length (encoding d) ≡ size)
    (held : P → Option (List ℕ)) (is_held : P → Type 0) (IsPending : Option (List ℕ) → Type 0)
    (holds : (p : P) → is_held p → IsPending (held p))
    (digest after : List ℕ → Outcome)
    (pending : Option (List ℕ) → List ℕ) (grammar : Grammar digest after IsPending pending size) where
  digest_again : (d : D) (more : List ℕ) → is_value d → digest (encoding d ++ more) ≡ Ok more
  digest_again d more value = grammar.any (encoding d ++ more) ∙ fixed_again size (encoding d) more (sized d value)

  partial_again : (p : Option (ℕ × D)) (rest : List ℕ) → HasNext is_value p
      → after_option (after_next digest) (option_encoding next_encoding (option_map (λ x. (x.0, encoding x.1)) p)
      ++ rest) ≡ Ok rest
  partial_again None rest value = refl
  partial_again (Some x) rest value =
      let number : after_varint (varint x.0 ++ (encoding x.1 ++ rest)) ≡ Ok (encoding x.1 ++ rest) =
      after_varint_again x.0 (encoding x.1 ++ rest) value.0 in
      rw (append_assoc (varint x.0) (encoding x.1) rest, number) (digest_again x.1 rest value.1)

  pub witness_again : {F : Type 0} (w : OpsRootWitness F D P) (rest : List ℕ)
      → is_value w.grafted_root × is_held w.pending_chunk_digest × HasNext is_value w.partial_chunk
      → after_witness digest after (witness_encoding pending (witness_of encoding held w) ++ rest) ≡ Ok rest
  witness_again w rest value =
      let last : List ℕ = option_encoding next_encoding (option_map (λ x. (x.0, encoding x.1)) w.partial_chunk)
      ++ rest in
      let whole : witness_encoding pending (witness_of encoding held w) ++ rest
      ≡ encoding w.grafted_root ++ (pending (held w.pending_chunk_digest) ++ last) = simp append_assoc in
      rw (
        whole,
        digest_again w.grafted_root (pending (held w.pending_chunk_digest) ++ last) value.0,
        grammar.again (held w.pending_chunk_digest) last (holds w.pending_chunk_digest value.1),
      )
      (partial_again w.partial_chunk rest value.2)
