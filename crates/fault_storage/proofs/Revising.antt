-- A mutation that is issued and then put otherwise is issued as it is then; one that is taken back was never issued.
use Rattle.std.proofs.Common.{◌≡◌, ◌∷◌, ◌++◌, ◌-◌, [], ℕ, List, length, take, refl, ap, ◌∙◌, inl, inr, arith}
use Rattle.std.specs.List.{list_any}
use Rattle.std.proofs.lemmas.Bool.{cases_Bool}
use Rattle.std.proofs.lemmas.List.{length-append}
use Rattle.std.proofs.Math.Seq.{take-append_seam}
use Rattle.fault_storage_parts.specs.Files.{Mutation, File}
use Rattle.fault_storage_parts.specs.Revisions.{file_recast, file_without_last, without_last}
use Rattle.fault_storage_parts.proofs.LastMutations.{recast-snoc}
use Rattle.fault_storage.specs.declared.stored.StoredFile.{StoredFile}
use Rattle.fault_storage.specs.Stores.{Store, has_number, changed, is_there, with_issued, issued, revised, withdrawn}
use Rattle.fault_storage.proofs.Places.{changed-none}

-- changed twice
pub changed-changed : (number : ℕ) (then first : File → File) (files : List StoredFile)
    → changed (has_number number) then (changed (has_number number) first files) ≡ changed (has_number number) (λ file. then (first file)) files
changed-changed number then first [] = refl
changed-changed number then first (stored ∷ later) =
    elim (cases_Bool (has_number number stored)) [
      | inl is_it ↦ simp is_it
      | inr is_not ↦ simp (is_not, changed-changed number then first later)
    ]

-- changed by the same
pub changed-same : (number : ℕ) (one other : File → File) → ((file : File) → one file ≡ other file) → (files : List StoredFile)
    → changed (has_number number) one files ≡ changed (has_number number) other files
changed-same number one other same [] = refl
changed-same number one other same (stored ∷ later) =
    elim (cases_Bool (has_number number stored)) [
      | inl is_it ↦ simp (is_it, same)
      | inr is_not ↦ simp (is_not, changed-same number one other same later)
    ]

pub changed-not : (number : ℕ) (files : List StoredFile) → changed (has_number number) (λ file. file) files ≡ files
changed-not number [] = refl
changed-not number (stored ∷ later) =
    elim (cases_Bool (has_number number stored)) [
      | inl is_it ↦ simp is_it
      | inr is_not ↦ simp (is_not, changed-not number later)
    ]

-- a change of files leaves their numbers
pub any-changed : (number : ℕ) (change : File → File) (files : List StoredFile)
    → list_any (has_number number) (changed (has_number number) change files) ≡ list_any (has_number number) files
any-changed number change [] = refl
any-changed number change (stored ∷ later) =
    elim (cases_Bool (has_number number stored)) [
      | inl is_it ↦ simp is_it
      | inr is_not ↦ simp (is_not, any-changed number change later)
    ]

without_last-snoc : {X : Type 0} (items : List X) (item : X) → without_last (items ++ item ∷ []) ≡ items
without_last-snoc items item =
    let shorter : length (items ++ item ∷ []) - 1 ≡ length items = omega (arith, length-append items (item ∷ [])) in
    ap (λ n. take n (items ++ item ∷ [])) shorter ∙ take-append_seam items (item ∷ [])

pub revised-issued : (number : ℕ) (change : Mutation → Mutation) (mutation : Mutation) (store : Store)
    → revised number change (issued number mutation store) ≡ issued number (change mutation) store
revised-issued number change mutation store =
    elim (cases_Bool (is_there number store)) [
      | inl is_it ↦ simp is_it (
          ap (λ f. record store { files = f; order = store.order ++ number ∷ [] })
          (changed-changed number (file_recast change) (with_issued mutation) store.files
          ∙ changed-same number (λ file. file_recast change (with_issued mutation file)) (with_issued (change mutation))
          (λ file. ap (λ l. record { base = file.base; log = l }) (recast-snoc change file.log mutation)) store.files))
      | inr is_not ↦ simp is_not (ap (λ f. record store { files = f }) (changed-none (has_number number) (file_recast change) store.files is_not))
    ]

pub withdrawn-issued : (number : ℕ) (mutation : Mutation) (store : Store) → withdrawn number (issued number mutation store) ≡ store
withdrawn-issued number mutation store =
    elim (cases_Bool (is_there number store)) [
      | inl is_it ↦ simp (is_it, any-changed) (
          ap (λ f. record store { files = f; order = without_last (store.order ++ number ∷ []) })
          (changed-changed number file_without_last (with_issued mutation) store.files
          ∙ changed-same number (λ file. file_without_last (with_issued mutation file)) (λ file. file)
          (λ file. ap (λ l. record { base = file.base; log = l }) (without_last-snoc file.log mutation)) store.files
          ∙ changed-not number store.files)
          ∙ ap (λ o. record store { order = o }) (without_last-snoc store.order number))
      | inr is_not ↦ simp is_not
    ]
