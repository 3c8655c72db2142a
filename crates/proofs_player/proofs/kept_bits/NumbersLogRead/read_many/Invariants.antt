use Rattle.std.proofs.Common.{map, ◌≡◌, ◌++◌, ◌<◌, ℕ, List, length}
use Rattle.std.specs.Int.{to_be_bytes, w64}
use Rattle.std.specs.List.{AllByRecursion}
use Rattle.state_proofs.specs.Requests.{at_places}
use Rattle.proofs_player.proofs.kept_bits.NumbersLogRead.read_many.Given as goal

-- what was found, with what stands at the places that are left, is all; and all places are in the log where these are
abbrev pub invariant-loop-rest : goal.invariant-loop-rest
invariant-loop-rest g l =
    let log : List (List ℕ) = map (to_be_bytes w64) l.fn.self.numbers.now in
    (map (to_be_bytes w64) l.found.items ++ at_places log l.rest ≡ at_places log l.places)
    × (AllByRecursion (λ place. place < length log) l.rest → AllByRecursion (λ place. place < length log) l.places)

abbrev pub decreases-loop-rest : goal.decreases-loop-rest
decreases-loop-rest g l = length l.rest
