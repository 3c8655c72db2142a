use Rattle.std.proofs.Common.{◌≡◌, ◌++◌, map, drop}
use Rattle.fault_storage.specs.Directory.{names_in}
use Rattle.fault_storage.proofs.directory.names_in.Given as goal

-- the names so far, and then those of the files that are left
abbrev pub invariant-loop-stored : goal.invariant-loop-stored
invariant-loop-stored l =
    map (λ name. name.items) l.names.items ++ names_in l.partition (drop l.stored-index l.files) ≡ names_in l.partition l.files
