-- The numbers of a store's files stay below its next one.
use Rattle.std.proofs.Common.{◌≡◌, ◌<◌, ◌≤◌, ◌+◌, ◌∷◌, [], ℕ, Bool}
use Rattle.std.proofs.Common.{true, false, cond, ◌||◌, List, length, filter, Ok, ap, inl, inr, arith}
use Rattle.std.specs.List.{list_any}
use Rattle.std.proofs.lemmas.Bool.{false≢true}
use Rattle.rand_core.specs.Stream.{Stream}
use Rattle.fault_storage_parts.specs.Files.{File, settled}
use Rattle.fault_storage_parts.specs.declared.header.Versions.{Versions}
use Rattle.fault_storage.specs.declared.storage.Opened.{Opened}
use Rattle.fault_storage.specs.declared.stored.StoredFile.{StoredFile}
use Rattle.fault_storage.specs.Opens.{is_before}
use Rattle.fault_storage.specs.Orders.{AreNumberedBelow, AreNumbered}
use Rattle.fault_storage.specs.Stores.{Store, Handle, changed, has_number, number_with, settled_in, crashed_files}
use Rattle.fault_storage.specs.Directory.{MemoryOpens, has_name, in_order}
use Rattle.fault_storage.specs.Snapshots.{Durable, numbered}

pub below_more : (next further : ℕ) (files : List StoredFile) → next ≤ further → AreNumberedBelow next files → AreNumberedBelow further files
below_more next further [] more below = tt
below_more next further (stored ∷ later) more below = (omega (arith, below.0), below_more next further later more below.1)

pub below_filtered : (test : StoredFile → Bool) (next : ℕ) (files : List StoredFile) → AreNumberedBelow next files
    → AreNumberedBelow next (filter test files)
below_filtered test next [] below = tt
below_filtered test next (stored ∷ later) below = by (test stored) (below_filtered test next later below.1)
  where
    by : (b : Bool) → AreNumberedBelow next (filter test later) → AreNumberedBelow next (cond b (stored ∷ filter test later) (filter test later))
    by true rest = (below.0, rest)
    by false rest = rest

pub below_changed : (test : StoredFile → Bool) (change : File → File) (next : ℕ) (files : List StoredFile) → AreNumberedBelow next files
    → AreNumberedBelow next (changed test change files)
below_changed test change next [] below = tt
below_changed test change next (stored ∷ later) below = by (test stored) (below_changed test change next later below.1)
  where
    by : (b : Bool) → AreNumberedBelow next (changed test change later)
        → AreNumberedBelow next (cond b (record stored { file = change stored.file } ∷ later) (stored ∷ changed test change later))
    by true rest = (below.0, below.1)
    by false rest = (below.0, rest)

pub below_put : (added : StoredFile) (next : ℕ) (files : List StoredFile) → added.number < next → AreNumberedBelow next files
    → AreNumberedBelow next (in_order added files)
below_put added next [] here below = (here, tt)
below_put added next (stored ∷ later) here below = by (is_before added.name stored.name) (below_put added next later here below.1)
  where
    by : (b : Bool) → AreNumberedBelow next (in_order added later)
        → AreNumberedBelow next (cond b (added ∷ stored ∷ later) (stored ∷ in_order added later))
    by true rest = (here, below)
    by false rest = (below.0, rest)

pub below_crashed : (next : ℕ) (files : List StoredFile) (order : List ℕ) (words : Stream) → AreNumberedBelow next files
    → AreNumberedBelow next (crashed_files files order words).0
unfolding crashed_files
below_crashed next files [] words below = below
below_crashed next files (number ∷ later) words below =
    below_crashed next (settled_in number files words).0 later (settled_in number files words).1 (by (list_any (has_number number) files) _)
  where
    by : (b : Bool) (after : Stream) → AreNumberedBelow next
        (cond {A = List StoredFile × Stream} b (changed (has_number number) (λ file. (settled file words).0) files, after) (files, words)).0
    by true after = below_changed (has_number number) (λ file. (settled file words).0) next files below
    by false after = below

-- files that are numbered from a number on
pub below_numbered : (number next : ℕ) (kept : List Durable) → number + length kept ≤ next → AreNumberedBelow next (numbered number kept)
below_numbered number next [] fits = tt
below_numbered number next (durable ∷ later) fits = (omega (arith, fits), below_numbered (number + 1) next later (omega (arith, fits)))

-- the number of a file that is there
pub below_found : (test : StoredFile → Bool) (next : ℕ) (files : List StoredFile) → AreNumberedBelow next files → list_any test files ≡ true
    → number_with test files < next
below_found test next [] below there = absurd (false≢true there)
below_found test next (stored ∷ later) below there = by (test stored) there (below_found test next later below.1)
  where
    by : (b : Bool) → (b || list_any test later) ≡ true → (list_any test later ≡ true → number_with test later < next)
        → cond b stored.number (number_with test later) < next
    by true there rest = below.0
    by false there rest = rest there

pub opened_below : (old new : Store) (partition name : List ℕ) (versions : Versions) (opened : Opened Handle) → AreNumbered old
    → MemoryOpens old partition name versions (Ok opened) new → opened.blob.number < new.next
opened_below old new partition name versions opened below (valid, inl (made, sound, is, same)) =
    let there : number_with (has_name partition name) old.files < old.next = below_found (has_name partition name) old.next old.files below made.0 in
    omega (arith, there, ap (λ o. o.blob.number) is, ap (λ s. s.next) same)
opened_below old new partition name versions opened below (valid, inr (missing, is, same)) =
    omega (arith, ap (λ o. o.blob.number) is, ap (λ s. s.next) same)
