use Rattle.std.proofs.Common.{◌≡◌, ◌∷◌, []}
use Rattle.auth_store_parts.specs.Map.{state_of}
use Rattle.auth_store_parts.proofs.Ranks.{entries_of}
use Rattle.auth_store_parts.proofs.history.ranked.located_places.Given as goal

abbrev pub invariant-loop-key : goal.invariant-loop-key
invariant-loop-key g l =
    let key = g.K.Write.encoding in
    state_of key (λ place. place ∷ []) l.located.items ≡ entries_of key l.yielded
