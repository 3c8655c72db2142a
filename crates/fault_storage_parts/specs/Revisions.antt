-- A mutation that was issued, put otherwise once it is drawn what became of its call: so a call finds all its room
-- before its draw.
use Rattle.std.specs.Prelude.{ℕ, ◌-◌, min, Bool, List, [], ◌∷◌, length, take}
use Rattle.fault_storage_parts.specs.Files.{Mutation, written, fixed, resized_to, File}

-- a write of which these bytes are durable at once
abbrev pub kept_of : List Bool → Mutation → Mutation
kept_of kept (written offset bytes mode rate) = fixed offset bytes kept
kept_of kept (fixed offset bytes others) = fixed offset bytes kept
kept_of kept (resized_to size rate) = resized_to size rate

-- a resize to a length, where it went further
abbrev pub shortened : ℕ → Mutation → Mutation
shortened size (written offset bytes mode rate) = written offset bytes mode rate
shortened size (fixed offset bytes kept) = fixed offset bytes kept
shortened size (resized_to asked rate) = resized_to (min asked size) rate

-- a log with its last mutation changed
abbrev pub recast : (Mutation → Mutation) → List Mutation → List Mutation
recast change [] = []
recast change (mutation ∷ []) = change mutation ∷ []
recast change (mutation ∷ next ∷ later) = mutation ∷ recast change (next ∷ later)

-- all but the last
abbrev pub without_last : {X : Type 0} → List X → List X
without_last items = take (length items - 1) items

-- a file of which the last mutation is changed, or gone
abbrev pub file_recast : (Mutation → Mutation) → File → File
file_recast change file = record { base = file.base; log = recast change file.log }

abbrev pub file_without_last : File → File
file_without_last file = record { base = file.base; log = without_last file.log }
