-- What is asked of a chunk that is shown beside a proof.
use Rattle.std.specs.Prelude.{◌≡◌, ℕ, List, Option, None, Some}
use Rattle.merkle_forest.specs.Hashing.{Hash}

-- a digest is held exactly where there is such a chunk, and it is that of this chunk where this is the one
abbrev pub FitsChunk : Hash → List ℕ → Type 0 → Type 0 → Option (List ℕ) → Type 0
FitsChunk hash chunk IsThere IsCovered None = IsThere → ⊥
FitsChunk hash chunk IsThere IsCovered (Some digest) = IsThere × (IsCovered → digest ≡ hash chunk)
