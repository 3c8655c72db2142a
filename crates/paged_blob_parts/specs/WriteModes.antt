-- Whether a write is to be durable at once, and where it counts as laid.
use Rattle.std.specs.Prelude.{ℕ, Bool, true, false, List, [], ◌∷◌}
use Rattle.paged_blob_parts.specs.declared.blob.WriteMode.{WriteMode}
use Rattle.paged_blob_parts.specs.declared.blob.WriteMode.TheVariants.{Plain, Sync}

abbrev pub is_sync : WriteMode → Bool
is_sync Plain = false
is_sync Sync = true

-- where a write counts as laid: one of no bytes that is durable at once makes no gap before it, so that the file does
-- not grow
abbrev pub place_of : WriteMode → ℕ → List ℕ → ℕ
place_of Plain offset bytes = offset
place_of Sync offset [] = 0
place_of Sync offset (byte ∷ bytes) = offset
