use Rattle.std.proofs.Common.{◌≡◌, ◌++◌, take, drop}
use Rattle.fault_storage.specs.declared.stored.StoredFile.{StoredFile}
use Rattle.fault_storage.specs.Directory.{in_order}
use Rattle.fault_storage.proofs.directory.place_for.Given as goal

-- those before stand before the file that is added
abbrev pub invariant-loop-place : goal.invariant-loop-place
invariant-loop-place l =
    (added : StoredFile) → added.name ≡ l.name → in_order added l.files ≡ take l.place l.files ++ in_order added (drop l.place l.files)
