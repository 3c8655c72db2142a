-- The order of a store's files: by their names, each before all behind it. And their numbers.
use Rattle.std.specs.Prelude.{◌≡◌, ◌<◌, ⊤, true, ℕ, List, [], ◌∷◌}
use Rattle.fault_storage.specs.declared.stored.StoredFile.{StoredFile}
use Rattle.fault_storage.specs.Opens.{Name, is_before}
use Rattle.fault_storage.specs.Stores.{Store}

abbrev pub IsBeforeAll : Name → List StoredFile → Type 0
IsBeforeAll name [] = ⊤
IsBeforeAll name (stored ∷ later) = (is_before name stored.name ≡ true) × IsBeforeAll name later

abbrev pub AreInOrder : List StoredFile → Type 0
AreInOrder [] = ⊤
AreInOrder (stored ∷ later) = IsBeforeAll stored.name later × AreInOrder later

abbrev pub AreNumberedBelow : ℕ → List StoredFile → Type 0
AreNumberedBelow next [] = ⊤
AreNumberedBelow next (stored ∷ later) = (stored.number < next) × AreNumberedBelow next later

-- the numbers of a store's files are below its next one
abbrev pub AreNumbered : Store → Type 0
AreNumbered store = AreNumberedBelow store.next store.files

-- What is below the next number of a store is below that of another: the numbers of the files, and, whichever they are,
-- those of the handles that were opened.
pub record KeepsNumbers (old new : Store) : Type 0 where
  pub files : AreNumbered old → AreNumbered new
  pub handles : (number : ℕ) → number < old.next → number < new.next
