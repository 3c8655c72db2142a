use Rattle.std.proofs.Common.{◌≡◌, ℕ, length, List, [], ◌∷◌, ◌++◌, Ok, sym, ap, ◌∙◌, append-nil}
use Rattle.std.specs.List.{AllByRecursion}
use Rattle.merkle_forest.specs.Codec.{Outcome}
use Rattle.state_ops.specs.Operation.{Operation, fixed_encoding}
use Rattle.state_ops.specs.Reading.{HasEncoding, IsField, operation_at}
use Rattle.auth_store_parts.specs.History.{History, log_of}
use Rattle.auth_store_client.specs.Fields.{HasEntries, HasFields}
use Rattle.auth_store_client.specs.Laws.Fields.{HasOwn, own_log}
use Rattle.auth_store_client.specs.Soundness.{AreReadAgain, HasSizes}
use Rattle.auth_store_client.proofs.Alone.{encoded, is_alone}
use Rattle.auth_store_client.proofs.laws.sound_histories_are_read_again.Goals as goal

module _ (key value : List ℕ → Outcome) (key_size value_size : ℕ) where
  abbrev Again : Type 0
  Again = (operation : Operation) (rest : List ℕ) → HasEncoding key value key_size value_size operation
      → operation_at key value key_size value_size (fixed_encoding key_size value_size operation ++ rest) ≡ Ok (operation, rest)

  all_again : Again → (log : List Operation) → AllByRecursion (HasOwn (IsField key key_size) (IsField value value_size)) log
      → AreReadAgain key value key_size value_size log
  all_again again [] own = tt
  all_again again (op ∷ log) own = (one op own.0, all_again again log own.1)
    where
      one : (op : Operation) → HasOwn (IsField key key_size) (IsField value value_size) op
          → operation_at key value key_size value_size (fixed_encoding key_size value_size op) ≡ Ok (op, [])
      one op has =
          ap (operation_at key value key_size value_size) (sym (append-nil (fixed_encoding key_size value_size op))) ∙ again op []
          (encoded key value key_size value_size op has)

  sized_entries : (s : List (List ℕ × List ℕ)) → HasEntries (IsField key key_size) (IsField value value_size) s
      → AllByRecursion (λ (entry : List ℕ × List ℕ). (length entry.0 ≡ key_size) × (length entry.1 ≡ value_size)) s
  sized_entries [] all = tt
  sized_entries (e ∷ s) all = ((all.0.0.0, all.0.1.0), sized_entries s all.1)

  sized : (h : History) → HasFields (IsField key key_size) (IsField value value_size) h → HasSizes key_size value_size h
  sized [] all = tt
  sized (c ∷ h) all = (sized_entries c.map all.0.0, sized h all.1)

pub returns-clause-read : goal.returns-clause-read
returns-clause-read g c history sound =
    let key : List ℕ → Outcome = g.K.Read.after tt in
    let value : List ℕ → Outcome = g.V.Read.after tt in
    all_again key value g.K.FixedSize.SIZE g.V.FixedSize.SIZE
    (λ operation rest has. c.encoded_is_read_again.ensures key value g.K.FixedSize.SIZE g.V.FixedSize.SIZE operation rest has)
    (log_of history)
    (own_log (IsField key g.K.FixedSize.SIZE) (IsField value g.V.FixedSize.SIZE) history sound.fields sound.few)

pub returns-clause-sized : goal.returns-clause-sized
returns-clause-sized g c history sound =
    sized (g.K.Read.after tt) (g.V.Read.after tt) g.K.FixedSize.SIZE g.V.FixedSize.SIZE history sound.fields

pub returns-clause-alone : goal.returns-clause-alone
returns-clause-alone g c history operation sound names =
    let key : List ℕ → Outcome = g.K.Read.after tt in
    let value : List ℕ → Outcome = g.V.Read.after tt in
    is_alone key value g.K.FixedSize.SIZE g.V.FixedSize.SIZE (log_of history)
    (own_log (IsField key g.K.FixedSize.SIZE) (IsField value g.V.FixedSize.SIZE) history sound.fields sound.few) operation names
