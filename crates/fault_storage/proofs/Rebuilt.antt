-- A store that is made of a snapshot.
use Rattle.std.proofs.Common.{◌≡◌, ◌<◌, ◌+◌, ◌∷◌, ◌++◌, [], ℕ, false, ◌==◌, List, ap, refl, arith}
use Rattle.std.specs.List.{list_any}
use Rattle.std.proofs.lemmas.Bool.{ne_eqb, or_from}
use Rattle.fault_storage.specs.declared.stored.StoredFile.{StoredFile}
use Rattle.fault_storage.specs.Audits.{file_told, files_told}
use Rattle.fault_storage.specs.Snapshots.{Durable, durable_map, numbered}
use Rattle.fault_storage.specs.Stores.{has_number}

-- what is durable of it is what was
pub durable_again : (number : ℕ) (kept : List Durable) → durable_map (numbered number kept) ≡ kept
durable_again number [] = refl
durable_again number (durable ∷ later) = ap (λ l. durable ∷ l) (durable_again (number + 1) later)

-- so is what is told of it
pub told_again : (number : ℕ) (files : List StoredFile) → files_told (numbered number (durable_map files)) ≡ files_told files
unfolding file_told
told_again number [] = refl
told_again number (stored ∷ later) = ap (λ l. file_told stored ++ l) (told_again (number + 1) later)

-- a number that was given before is that of none of its files
pub numbered_anew : (before number : ℕ) (kept : List Durable) → before < number → list_any (has_number before) (numbered number kept) ≡ false
numbered_anew before number [] below = refl
numbered_anew before number (durable ∷ later) below =
    or_from (number == before) (list_any (has_number before) (numbered (number + 1) later)) (ne_eqb number before (λ e. omega arith))
    (numbered_anew before (number + 1) later (omega arith))
