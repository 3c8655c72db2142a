use Rattle.std.proofs.Common.{◌≡◌, ◌++◌, take, drop}
use Rattle.std.specs.List.{list_any}
use Rattle.fault_storage_parts.specs.Files.{File}
use Rattle.fault_storage.specs.Stores.{has_number, file_with, number_with, changed}
use Rattle.fault_storage.proofs.memory.files.place_of.Given as goal

abbrev pub invariant-loop-place : goal.invariant-loop-place
invariant-loop-place l = record {
  some : list_any (has_number l.number) (drop l.place l.files) ≡ list_any (has_number l.number) l.files;
  is : file_with (has_number l.number) (drop l.place l.files) ≡ file_with (has_number l.number) l.files;
  number : number_with (has_number l.number) (drop l.place l.files) ≡ number_with (has_number l.number) l.files;
  change : (change : File → File) → take l.place l.files ++ changed (has_number l.number) change (drop l.place l.files) ≡ changed
      (has_number l.number) change l.files;
}
