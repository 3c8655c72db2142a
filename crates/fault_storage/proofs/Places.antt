-- The first file that passes, by its place.
use Rattle.std.proofs.Common.{
  ◌≡◌,
  ◌<◌,
  ◌∷◌,
  ◌++◌,
  [],
  ℕ,
  suc,
  Bool,
  true,
  false,
  cond,
  ◌||◌,
  List,
  length,
  take,
  drop,
  set,
  get_or,
  drop-cons,
  ap,
  sym,
  refl,
  subst,
  ◌∙◌,
}
use Rattle.std.specs.List.{list_any}
use Rattle.std.proofs.lemmas.Bool.{false≢true}
use Rattle.std.proofs.lemmas.List.{get_or_read, set_split, set-get_or}
use Rattle.fault_storage.specs.declared.stored.StoredFile.{StoredFile}
use Rattle.fault_storage_parts.specs.Files.{File}
use Rattle.fault_storage.specs.Stores.{IsPlace, file_with, number_with, changed}

pub place-found : (test : StoredFile → Bool) (files : List StoredFile) (place : ℕ) (stored : StoredFile) → place < length files
    → stored ≡ get_or files place stored → test stored ≡ true
    → list_any test (drop place files) ≡ list_any test files → file_with test (drop place files) ≡ file_with test files
    → number_with test (drop place files) ≡ number_with test files
    → ((change : File → File) → take place files ++ changed test change (drop place files) ≡ changed test change files) → IsPlace test files place
place-found test files place stored lt is passes some same counted changes =
    let first : drop place files ≡ stored ∷ drop (suc place) files = drop-cons files place stored lt ∙ ap (λ s. s ∷ drop (suc place) files) (sym is) in
    record {
      within = lt;
      some = sym some ∙ ap (list_any test) first ∙ ap (λ b. b || list_any test (drop (suc place) files)) passes;
      is = λ d. sym same ∙ ap (file_with test) first ∙ ap (λ b. cond b stored.file (file_with test (drop (suc place) files))) passes
          ∙ ap (λ s. s.file) (get_or_read files place stored lt is d);
      number = λ d. sym counted ∙ ap (number_with test) first ∙ ap (λ b. cond b stored.number (number_with test (drop (suc place) files))) passes
          ∙ ap (λ s. s.number) (get_or_read files place stored lt is d);
      change = λ change d. sym (changes change) ∙ ap (λ l. take place files ++ changed test change l) first
          ∙ ap (λ b. take place files ++ cond b (record stored { file = change stored.file } ∷ drop (suc place) files)
          (stored ∷ changed test change (drop (suc place) files))) passes
          ∙ sym (set_split files place (record stored { file = change stored.file }) lt)
          ∙ ap (λ s. set files place (record s { file = change s.file })) (get_or_read files place stored lt is d);
    }

neither : (b c : Bool) → (b || c) ≡ false → (b ≡ false) × (c ≡ false)
neither true c e = absurd (false≢true (sym e))
neither false c e = (refl, e)

-- where none passes, nothing is changed
pub changed-none : (test : StoredFile → Bool) (change : File → File) (files : List StoredFile) → list_any test files ≡ false
    → changed test change files ≡ files
changed-none test change [] none = refl
changed-none test change (stored ∷ later) none =
    let both : (test stored ≡ false) × (list_any test later ≡ false) = neither (test stored) (list_any test later) none in
    ap (λ b. cond b (record stored { file = change stored.file } ∷ later) (stored ∷ changed test change later)) both.0
    ∙ ap (λ l. stored ∷ l) (changed-none test change later both.1)

-- a file that is written at the place
pub written-at : (test : StoredFile → Bool) (shown files : List StoredFile) (place : ℕ) (stored : StoredFile) (change : File → File) (file : File)
    → shown ≡ files → IsPlace test shown place → stored ≡ get_or files place stored → file ≡ change stored.file
    → set files place (record stored { file = file }) ≡ changed test change files
written-at test shown files place stored change file same at is made =
    let there : IsPlace test files place = subst (λ (l : List StoredFile). IsPlace test l place) same at in
    ap (λ f. set files place (record stored { file = f })) made
    ∙ sym (there.change change stored ∙ ap (λ s. set files place (record s { file = change s.file })) (sym is))

-- a file that is written back as it was
pub written-back : (files : List StoredFile) (place : ℕ) (stored : StoredFile) (file : File) → stored ≡ get_or files place stored → file ≡ stored.file
    → set files place (record stored { file = file }) ≡ files
written-back files place stored file is same =
    ap (λ f. set files place (record stored { file = f })) same ∙ ap (set files place) is ∙ set-get_or files place stored
