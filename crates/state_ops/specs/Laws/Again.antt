-- What is encoded is read again.
use Rattle.std.proofs.Common.{◌≡◌, ◌+◌, ℕ, List, ◌++◌, append_assoc, None, Some, Ok, refl, ◌∙◌, ap, arith}
use Rattle.std.proofs.lemmas.List.{length-append}
use Rattle.merkle_forest.specs.Codec.{Outcome, ◌>>=◌}
use Rattle.state_ops_parts.specs.Grammar.{Ends, HasFields, HasSizes, item_at, told}
use Rattle.state_ops_parts.specs.Laws.Found.{item_is}
use Rattle.state_ops_parts.specs.Laws.Again.{fixed_again, fixed_once}
use Rattle.state_ops.specs.Operation.{ordered, Operation, delete, update, commit_floor, spelled, fixed_encoding}
use Rattle.state_ops.specs.Reading.{ordered_at, operation_at, HasEncoding}

module _ (key value : List ℕ → Outcome) (ks vs : ℕ) where
  found : (grammar : List ℕ → Outcome) (bytes rest : List ℕ) → Ends grammar bytes
      → item_at grammar (bytes ++ rest) ≡ Ok (bytes, rest)
  found grammar bytes rest ends = item_is grammar (bytes ++ rest) bytes rest (ends rest) refl

  update_again : (k v n rest : List ℕ) → Ends key k → Ends value v → Ends key n
      → ordered_at key value (spelled (ordered k v n) ++ rest) ≡ Ok (ordered k v n, rest)
  update_again k v n rest key_ends value_ends next_ends =
      let parts : (k ++ (v ++ n)) ++ rest ≡ k ++ (v ++ (n ++ rest)) = append_assoc k (v ++ n) rest
      ∙ ap (λ s. k ++ s) (append_assoc v n rest) in
      ap (ordered_at key value) parts
      ∙ (ap (λ x. x >>= λ a. item_at value a.1 >>= λ b. told (ordered a.0 b.0) (item_at key b.1)) (found key k (v
      ++ (n ++ rest)) key_ends)
      ∙ (ap (λ x. x >>= λ b. told (ordered k b.0) (item_at key b.1)) (found value v (n ++ rest) value_ends)
      ∙ ap (told (ordered k v)) (found key n rest next_ends)))

  fields : (operation : Operation) → HasEncoding key value ks vs operation
      → HasFields key value (ordered_at key value) spelled operation
  fields (delete k) has = has.1
  fields (update (ordered k v n)) has = λ rest. update_again k v n rest has.0.1 has.1.0.1 has.1.1.1
  fields (commit_floor None floor) has = (tt, has.1)
  fields (commit_floor (Some bytes) floor) has = (has.0.1, has.1)

  pub sizes : (operation : Operation) → HasEncoding key value ks vs operation
      → HasSizes spelled ks vs (ks + vs + ks) operation
  sizes (delete k) has = has.0
  sizes (update (ordered k v n)) has =
      omega (arith, length-append k (v ++ n), length-append v n, has.0.0, has.1.0.0, has.1.1.0)
  sizes (commit_floor None floor) has = tt
  sizes (commit_floor (Some bytes) floor) has = has.0.0

  pub read_again : (operation : Operation) (rest : List ℕ) → HasEncoding key value ks vs operation
      → operation_at key value ks vs (fixed_encoding ks vs operation ++ rest) ≡ Ok (operation, rest)
  read_again operation rest has =
      fixed_again key value (ordered_at key value) spelled ks vs (ks + vs
      + ks) operation rest (fields operation has) (sizes operation has)

  pub read_once : (one other : Operation) (rest more : List ℕ) → HasEncoding key value ks vs one
      → HasEncoding key value ks vs other
      → fixed_encoding ks vs one ++ rest ≡ fixed_encoding ks vs other ++ more → (one ≡ other) × (rest ≡ more)
  read_once one other rest more has has_other same =
      fixed_once key value (ordered_at key value) spelled ks vs (ks + vs + ks) one other rest more
      (fields one has) (sizes one has) (fields other has_other) (sizes other has_other) same
