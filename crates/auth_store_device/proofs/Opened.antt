-- What an opening leaves: of a log that is there, its durable bytes; or a log that is made anew.
use Rattle.std.proofs.Common.{◌≡◌, ℕ, ◌+◌, ◌<◌, ◌==◌, Bool, true, false, cond, not, ◌&&◌, ◌||◌, nat_lt, List, [], ◌∷◌, filter}
use Rattle.std.proofs.Common.{sym, ◌∙◌, ap, inl, inr, refl, arith}
use Rattle.std.specs.List.{list_any}
use Rattle.std.proofs.lemmas.Bool.{cases_Bool, both_ways, and_parts, and_from, or_parts, or_right, lt-ltb, ltb-true, not_from_false, not-true}
use Rattle.std.proofs.lemmas.Bool.{eqb-true, eq-eqb, false_from_ne_true}
use Rattle.fault_storage.specs.declared.stored.StoredFile.{StoredFile}
use Rattle.fault_storage.specs.Stores.{has_number, file_with, number_with}
use Rattle.fault_storage.specs.Opens.{is_before}
use Rattle.fault_storage.specs.Directory.{in_order}
use Rattle.auth_store_device.specs.Logs.{is_log, are_numbered, IsFirst}

-- where no file is the log, all stay that are not
pub filter-none : (all : List StoredFile) → list_any is_log all ≡ false → filter (λ stored. not (is_log stored)) all ≡ all
filter-none [] none = refl
filter-none (stored ∷ later) none =
    let both = or_parts (is_log stored) (list_any is_log later) none in
    ap (λ b. cond (not b) (stored ∷ filter (λ other. not (is_log other)) later) (filter (λ other. not (is_log other)) later)) both.0
    ∙ ap (λ l. stored ∷ l) (filter-none later both.1)

-- a file that is put in its place is found there
pub file-added : (added : StoredFile) (all : List StoredFile) → is_log added ≡ true → list_any is_log all ≡ false
    → file_with is_log (in_order added all) ≡ added.file
file-added added [] is none = ap (λ b. cond b added.file (record { base = []; log = [] })) is
file-added added (stored ∷ later) is none =
    let both = or_parts (is_log stored) (list_any is_log later) none in
    elim (cases_Bool (is_before added.name stored.name)) [
      | inl before ↦ simp (before, is)
      | inr after ↦ simp (after, both.0) (file-added added later is both.1)
    ]

pub has-added : (added : StoredFile) (all : List StoredFile) → is_log added ≡ true → list_any is_log (in_order added all) ≡ true
has-added added [] is = simp is
has-added added (stored ∷ later) is =
    elim (cases_Bool (is_before added.name stored.name)) [
      | inl before ↦ simp (before, is)
      | inr after ↦ simp after (or_right (is_log stored) _ (has-added added later is))
    ]

-- numbers below the next one
below-not : (next : ℕ) (all : List StoredFile) → are_numbered next all ≡ true → list_any (has_number next) all ≡ false
below-not next [] numbered = refl
below-not next (stored ∷ later) numbered =
    let parts = and_parts _ _ numbered in
    let rest = and_parts _ _ parts.1 in
    let small : stored.number < next = ltb-true _ _ parts.0 in
    ap (λ b. b || list_any (has_number next) later)
    (false_from_ne_true (stored.number == next) (λ is. let same : stored.number ≡ next = eqb-true _ _ is in absurd (omega (arith, small, same))))
    ∙ below-not next later rest.1

further : (next : ℕ) (all : List StoredFile) → are_numbered next all ≡ true → are_numbered (next + 1) all ≡ true
further next [] numbered = refl
further next (stored ∷ later) numbered =
    let parts = and_parts _ _ numbered in
    let rest = and_parts _ _ parts.1 in
    let small : stored.number < next = ltb-true _ _ parts.0 in
    and_from _ _ (lt-ltb stored.number (next + 1) (omega (arith, small))) (and_from _ _ rest.0 (further next later rest.1))

any-added : (number : ℕ) (added : StoredFile) (all : List StoredFile) → has_number number added ≡ false
    → list_any (has_number number) (in_order added all) ≡ list_any (has_number number) all
any-added number added [] other = ap (λ b. b || false) other
any-added number added (stored ∷ later) other =
    elim (cases_Bool (is_before added.name stored.name)) [
      | inl before ↦ simp (before, other)
      | inr after ↦ simp after (ap (λ b. has_number number stored || b) (any-added number added later other))
    ]

pub numbered-added : (next : ℕ) (added : StoredFile) (all : List StoredFile) → added.number ≡ next → are_numbered next all ≡ true
    → are_numbered (next + 1) (in_order added all) ≡ true
numbered-added next added [] is numbered = and_from _ _ (lt-ltb added.number (next + 1) (omega (arith, is))) refl
numbered-added next added (stored ∷ later) is numbered =
    let parts = and_parts _ _ numbered in
    let rest = and_parts _ _ parts.1 in
    let small : stored.number < next = ltb-true _ _ parts.0 in
    let other : has_number stored.number added ≡ false =
    false_from_ne_true (added.number == stored.number) (λ e. let same : added.number ≡ stored.number = eqb-true _ _ e in absurd (omega
    (arith, small, is, same))) in
    elim (cases_Bool (is_before added.name stored.name)) [
      | inl before ↦ simp before (and_from _ _ (lt-ltb added.number (next + 1) (omega (arith, is)))
          (and_from _ _ (not_from_false _ (ap (λ n. list_any (has_number n) (stored ∷ later)) is ∙ below-not next (stored ∷ later) numbered))
          (further next (stored ∷ later) numbered)))
      | inr after ↦ simp after (and_from _ _ (lt-ltb stored.number (next + 1) (omega (arith, small)))
          (and_from _ _ (ap not (any-added stored.number added later other) ∙ rest.0) (numbered-added next added later is rest.1)))
    ]

-- the number of a new file leads to it
pub first-added : (next : ℕ) (added : StoredFile) (all : List StoredFile) → added.number ≡ next → is_log added ≡ true
    → are_numbered next all ≡ true
    → list_any is_log all ≡ false → IsFirst (has_number next) is_log (in_order added all)
first-added next added [] is log numbered none = (eqb-from added.number next is ∙ sym log, λ is_not. tt)
  where
    eqb-from : (a b : ℕ) → a ≡ b → (a == b) ≡ true
    eqb-from a b same = eq-eqb a b same
first-added next added (stored ∷ later) is log numbered none = at (is_before added.name stored.name) (first-added next added later is log rest.1 both.1)
  where
    parts : (nat_lt stored.number next ≡ true) × ((not (list_any (has_number stored.number) later) && are_numbered next later) ≡ true)
    parts = and_parts _ _ numbered

    rest : (not (list_any (has_number stored.number) later) ≡ true) × (are_numbered next later ≡ true)
    rest = and_parts _ _ parts.1

    both : (is_log stored ≡ false) × (list_any is_log later ≡ false)
    both = or_parts (is_log stored) (list_any is_log later) none

    at : (b : Bool) → IsFirst (has_number next) is_log (in_order added later)
        → IsFirst (has_number next) is_log (cond b (added ∷ stored ∷ later) (stored ∷ in_order added later))
    at true deeper = (eq-eqb added.number next is ∙ sym log, λ is_not. absurd (both_ways (is_log added) is_not log))
    at false deeper = (
      false_from_ne_true (stored.number == next) (λ same. absurd (omega (arith, ltb-true _ _ parts.0, eqb-true _ _ same))) ∙ sym both.0,
      λ is_not. deeper,
    )

found : (all : List StoredFile) → list_any is_log all ≡ true → list_any (has_number (number_with is_log all)) all ≡ true
found [] there = absurd (both_ways false refl there)
found (stored ∷ later) there = at (is_log stored) refl (λ is_not. found later (sym (ap (λ b. b || list_any is_log later) is_not) ∙ there))
  where
    at : (b : Bool) → is_log stored ≡ b → (is_log stored ≡ false → list_any (has_number (number_with is_log later)) later ≡ true)
        → list_any (has_number (cond b stored.number (number_with is_log later))) (stored ∷ later) ≡ true
    at true is deeper = ap (λ b. b || list_any (has_number stored.number) later) (eq-eqb stored.number stored.number refl)
    at false is deeper = or_right (stored.number == number_with is_log later) _ (deeper is)

-- the number of the log leads to it
pub first-found : (next : ℕ) (all : List StoredFile) → are_numbered next all ≡ true → list_any is_log all ≡ true
    → IsFirst (has_number (number_with is_log all)) is_log all
first-found next [] numbered there = absurd (both_ways false refl there)
first-found next (stored ∷ later) numbered there = at (is_log stored) refl
    (λ is_not. first-found next later rest.1 (sym (ap (λ b. b || list_any is_log later) is_not) ∙ there))
  where
    parts : (nat_lt stored.number next ≡ true) × ((not (list_any (has_number stored.number) later) && are_numbered next later) ≡ true)
    parts = and_parts _ _ numbered

    rest : (not (list_any (has_number stored.number) later) ≡ true) × (are_numbered next later ≡ true)
    rest = and_parts _ _ parts.1

    at : (b : Bool) → is_log stored ≡ b → (is_log stored ≡ false → IsFirst (has_number (number_with is_log later)) is_log later)
        → IsFirst (has_number (cond b stored.number (number_with is_log later))) is_log (stored ∷ later)
    at true is deeper = (eq-eqb stored.number stored.number refl ∙ sym is, λ is_not. absurd (both_ways (is_log stored) is_not is))
    at false is deeper = (
      false_from_ne_true (stored.number == number_with is_log later) (λ same. both_ways _ (not-true _ rest.0)
          (ap (λ n. list_any (has_number n) later) (eqb-true _ _ same) ∙ found later (sym (ap (λ b. b || list_any is_log later) is) ∙ there))) ∙ sym is,
      deeper,
    )
