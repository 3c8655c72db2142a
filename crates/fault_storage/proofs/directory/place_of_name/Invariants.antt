use Rattle.std.proofs.Common.{◌≡◌, ◌++◌, take, drop}
use Rattle.std.specs.List.{list_any}
use Rattle.fault_storage_parts.specs.Files.{File}
use Rattle.fault_storage.specs.Stores.{file_with, number_with, changed}
use Rattle.fault_storage.specs.Directory.{has_name}
use Rattle.fault_storage.proofs.directory.place_of_name.Given as goal

abbrev pub invariant-loop-place : goal.invariant-loop-place
invariant-loop-place l = record {
  some : list_any (has_name l.partition l.name) (drop l.place l.files) ≡ list_any (has_name l.partition l.name) l.files;
  is : file_with (has_name l.partition l.name) (drop l.place l.files) ≡ file_with (has_name l.partition l.name) l.files;
  number : number_with (has_name l.partition l.name) (drop l.place l.files) ≡ number_with (has_name l.partition l.name) l.files;
  change : (change : File → File) → take l.place l.files ++ changed (has_name l.partition l.name) change (drop l.place l.files) ≡ changed
      (has_name l.partition l.name) change l.files;
}
