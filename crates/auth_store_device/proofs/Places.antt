-- The log among the files of a store, found by its name or by its number.
use Rattle.std.proofs.Common.{◌≡◌, ℕ, ◌==◌, Bool, true, false, cond, not, ◌&&◌, ◌||◌, nat_lt, List, [], ◌∷◌}
use Rattle.std.proofs.Common.{sym, ◌∙◌, ap, inl, inr, ⊎_elim, refl}
use Rattle.std.specs.List.{list_any}
use Rattle.std.proofs.lemmas.Bool.{cases_Bool, both_ways, or_parts}
use Rattle.fault_storage.specs.declared.stored.StoredFile.{StoredFile}
use Rattle.fault_storage_parts.specs.Files as files
use Rattle.fault_storage_parts.specs.Files.{IsLeftOf}
use Rattle.fault_storage.specs.Stores.{has_number, file_with, changed, AreLeftOf}
use Rattle.fault_storage.specs.Opens.{is_name}
use Rattle.fault_storage_parts.proofs.Left.{left-same}
use Rattle.auth_store_device.specs.Logs.{log_partition, log_name, is_log, are_numbered, IsFirst}

-- a change of the log, found by either test
pub changed-first : (test other : StoredFile → Bool) (change : files.File → files.File) (all : List StoredFile) → IsFirst test other all
    → changed test change all ≡ changed other change all
changed-first test other change [] first = refl
changed-first test other change (stored ∷ later) first =
    ap (λ b. cond b (record stored { file = change stored.file } ∷ later) (stored ∷ changed test change later)) first.0
    ∙ ⊎_elim
    (λ is. ap (λ b. cond b (record stored { file = change stored.file } ∷ later) (stored ∷ changed test change later)) is
    ∙ sym (ap (λ b. cond b (record stored { file = change stored.file } ∷ later) (stored ∷ changed other change later)) is))
    (λ is_not. ap (λ l. cond (other stored) (record stored { file = change stored.file } ∷ later) (stored ∷ l)) (changed-first test other change later
    (first.1 is_not)))
    (cases_Bool (other stored))

pub any-first : (test other : StoredFile → Bool) (all : List StoredFile) → IsFirst test other all → list_any test all ≡ list_any other all
any-first test other [] first = refl
any-first test other (stored ∷ later) first =
    ap (λ b. b || list_any test later) first.0
    ∙ ⊎_elim
    (λ is. ap (λ b. b || list_any test later) is ∙ sym (ap (λ b. b || list_any other later) is))
    (λ is_not. ap (λ b. other stored || b) (any-first test other later (first.1 is_not)))
    (cases_Bool (other stored))

module _ (change : files.File → files.File) where
  -- what a change of the log leaves
  pub file-changed : (all : List StoredFile) → list_any is_log all ≡ true → file_with is_log (changed is_log change all) ≡ change (file_with is_log all)
  file-changed [] there = absurd (both_ways false refl there)
  file-changed (stored ∷ later) there = elim (cases_Bool (is_log stored)) [
    | inl is ↦ simp is
    | inr is_not ↦ simp is_not (file-changed later (sym (ap (λ b. b || list_any is_log later) is_not) ∙ there))
  ]

  pub has-changed : (all : List StoredFile) → list_any is_log (changed is_log change all) ≡ list_any is_log all
  has-changed [] = refl
  has-changed (stored ∷ later) = elim (cases_Bool (is_log stored)) [
    | inl is ↦ simp is
    | inr is_not ↦ simp is_not (has-changed later)
  ]

  number-changed : (number : ℕ) (all : List StoredFile) → list_any (has_number number) (changed is_log change all) ≡ list_any (has_number number) all
  number-changed number [] = refl
  number-changed number (stored ∷ later) = elim (cases_Bool (is_log stored)) [
    | inl is ↦ simp is
    | inr is_not ↦ simp is_not (ap (λ b. has_number number stored || b) (number-changed number later))
  ]

  pub numbered-changed : (all : List StoredFile) (next : ℕ) → are_numbered next (changed is_log change all) ≡ are_numbered next all
  numbered-changed [] next = refl
  numbered-changed (stored ∷ later) next = elim (cases_Bool (is_log stored)) [
    | inl is ↦ simp is
    | inr is_not ↦ simp is_not
        (ap (λ b. nat_lt stored.number next && (not b && are_numbered next (changed is_log change later))) (number-changed stored.number later)
        ∙ ap (λ b. nat_lt stored.number next && (not (list_any (has_number stored.number) later) && b)) (numbered-changed later next))
  ]

  pub first-changed : (number : ℕ) (all : List StoredFile) → IsFirst (has_number number) is_log all
      → IsFirst (has_number number) is_log (changed is_log change all)
  first-changed number [] first = first
  first-changed number (stored ∷ later) first = at (is_log stored) refl (λ is_not. first-changed number later (first.1 is_not))
    where
      at : (b : Bool) → is_log stored ≡ b → (is_log stored ≡ false → IsFirst (has_number number) is_log (changed is_log change later))
          → IsFirst (has_number number) is_log
          (cond b (record stored { file = change stored.file } ∷ later) (stored ∷ changed is_log change later))
      at true is rest = (first.0, λ is_not. absurd (both_ways (is_log stored) is_not is))
      at false is rest = (first.0, rest)

-- the log is what choices left of it
pub file-left : (all lefts : List StoredFile) → AreLeftOf all lefts
    → IsLeftOf (file_with is_log all).base (file_with is_log all).log (file_with is_log lefts).base (file_with is_log lefts).log
file-left [] [] by = left-same [] []
file-left [] (left ∷ others) by = absurd by
file-left (stored ∷ later) [] by = absurd by
file-left (stored ∷ later) (left ∷ others) by = at (is_log stored) (is_log left) (ap (λ name. is_name log_partition log_name name) by.0) by.2
    (file-left later others by.3)
  where
    at : (b c : Bool) → c ≡ b → IsLeftOf stored.file.base stored.file.log left.file.base left.file.log
        → IsLeftOf (file_with is_log later).base (file_with is_log later).log (file_with is_log others).base (file_with is_log others).log
        → IsLeftOf (cond b stored.file (file_with is_log later)).base (cond b stored.file (file_with is_log later)).log
        (cond c left.file (file_with is_log others)).base (cond c left.file (file_with is_log others)).log
    at true true same here rest = here
    at false false same here rest = rest
    at true false same here rest = absurd (both_ways false refl same)
    at false true same here rest = absurd (both_ways true same refl)

pub has-left : (all lefts : List StoredFile) → AreLeftOf all lefts → list_any is_log lefts ≡ list_any is_log all
has-left [] [] by = refl
has-left [] (left ∷ others) by = absurd by
has-left (stored ∷ later) [] by = absurd by
has-left (stored ∷ later) (left ∷ others) by =
    ap (λ b. b || list_any is_log others) (ap (λ name. is_name log_partition log_name name) by.0)
    ∙ ap (λ b. is_log stored || b) (has-left later others by.3)

number-left : (number : ℕ) (all lefts : List StoredFile) → AreLeftOf all lefts → list_any (has_number number) lefts ≡ list_any (has_number number) all
number-left number [] [] by = refl
number-left number [] (left ∷ others) by = absurd by
number-left number (stored ∷ later) [] by = absurd by
number-left number (stored ∷ later) (left ∷ others) by =
    ap (λ n. (n == number) || list_any (has_number number) others) by.1 ∙ ap (λ b. (stored.number == number) || b) (number-left number later others by.3)

pub numbered-left : (next : ℕ) (all lefts : List StoredFile) → AreLeftOf all lefts → are_numbered next lefts ≡ are_numbered next all
numbered-left next [] [] by = refl
numbered-left next [] (left ∷ others) by = absurd by
numbered-left next (stored ∷ later) [] by = absurd by
numbered-left next (stored ∷ later) (left ∷ others) by =
    ap (λ n. nat_lt n next && (not (list_any (has_number n) others) && are_numbered next others)) by.1
    ∙ ap (λ b. nat_lt stored.number next && (not b && are_numbered next others)) (number-left stored.number later others by.3)
    ∙ ap (λ b. nat_lt stored.number next && (not (list_any (has_number stored.number) later) && b)) (numbered-left next later others by.3)

-- where there is no log, it is as an empty one
pub file-none : (all : List StoredFile) → list_any is_log all ≡ false → file_with is_log all ≡ record { base = []; log = [] }
file-none [] none = refl
file-none (stored ∷ later) none =
    let both = or_parts (is_log stored) (list_any is_log later) none in
    ap (λ b. cond b stored.file (file_with is_log later)) both.0 ∙ file-none later both.1
