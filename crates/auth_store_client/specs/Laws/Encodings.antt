-- Encodings of a log's operations, one by one.
use Rattle.std.proofs.Common.{◌≡◌, ℕ, zero, suc, List, [], ◌∷◌, map, Some, ap}
use Rattle.std.specs.Prelude.{slice_get, slice_index_or}
use Rattle.state_ops.specs.Operation.{Operation}

-- the encoding of the operation at a location
pub encoding_at : (f : Operation → List ℕ) (log : List Operation) (location : ℕ) (operation : Operation)
    → slice_get log location ≡ Some operation → slice_index_or (map f log) location [] ≡ f operation
encoding_at f [] location operation is = absurd cc
encoding_at f (o ∷ log) zero operation is = let same : o ≡ operation = cc in ap f same
encoding_at f (o ∷ log) (suc location) operation is = encoding_at f log location operation is
