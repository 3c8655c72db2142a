-- The calls of a blob in memory of which a sync is refused by a fault.
use Rattle.std.specs.Prelude.{ℕ, Bool, true, false, List, [], ◌∷◌}
use Rattle.paged_blob_parts.specs.Calls.{Call, synced}

-- these calls, and then, if it has failed, a sync that did
abbrev pub calls_then : Bool → List Call → List Call
calls_then true calls = synced [] false ∷ calls
calls_then false calls = calls

-- how many faults that is
abbrev pub faults : Bool → ℕ
faults true = 1
faults false = 0
