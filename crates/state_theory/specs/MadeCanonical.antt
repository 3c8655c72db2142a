-- The canonical root as it is made.
use Rattle.std.specs.Prelude.{ℕ, List, [], Option, None, Some}
use Rattle.merkle_forest.specs.Hashing.{number}
use Rattle.merkle_forest.specs.Made.{Site, at_canonical, Made, bytes, both, hashed}

-- both roots, the pending chunk's digest if any, and the next bit and the partial chunk's digest if any
pub record CanonicalParts : Type 0 where
  pub operations : Made
  pub grafted : Made
  pub pending_chunk : Option Made
  pub partial_chunk : Option (ℕ × Made)

-- the bytes that may be there
abbrev pub if_made : Option Made → Made
if_made None = bytes []
if_made (Some made) = made

-- the next bit and the digest that may be there
abbrev pub next_made : Option (ℕ × Made) → Made
next_made None = bytes []
next_made (Some (next, made)) = both (bytes (number next)) made

-- the canonical root of these parts
abbrev pub canonical_made : CanonicalParts → Made
canonical_made parts =
    hashed at_canonical []
    (both parts.operations (both parts.grafted (both (if_made parts.pending_chunk) (next_made parts.partial_chunk))))

-- the digest of a chunk that is at hand
abbrev pub chunk_made : Site → List ℕ → Made
chunk_made site chunk = hashed site [] (bytes chunk)
