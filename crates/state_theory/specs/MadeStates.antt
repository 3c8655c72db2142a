-- The canonical root of a state as it is made, and as a proof of one operation leads to it.
--
-- Both terms have their strings at the same sites. Of eight operations, and of a proof of operation 2 that holds the
-- digests x, y and z, were chunks of four bits (none has fewer than eight):
--
--                  at_canonical                                     at_canonical
--         /             |            \                      /            |            \
--   at_operations_root  |       at_pending ..         a digest           |       a digest, or the chunk
--         ..     at_grafted_root                                  at_grafted_root
--                       |                                                |
--                  at_joined 14                                     at_joined 14
--                  /          \                                     /          \
--           at_joined 6    at_joined 13                      at_joined 6        z
--            /       \         ..                             /       \
--        chunk 0   at_plain 6                         the chunk   at_plain 6
--                  /        \                                     /        \
--            at_plain 2   at_plain 5                             x      at_plain 5
--               ..         /      \                                      /      \
--                    at_plain 3  at_plain 4                        at_plain 3    y
--
-- A chunk without a set bit is not joined in: there the string of at_plain 6 stands at at_joined 6 too.
use Rattle.std.specs.Prelude.{◌==◌, nat_lt, if◌then◌else◌, length, Option, None, Some, option_map}
use Rattle.merkle_forest.specs.declared.bagging.Bagging.TheVariants.{BackwardFold}
use Rattle.merkle_forest.specs.Made.{at_operations_root, at_fold, at_pending, at_partial, Made, Strings, strings}
use Rattle.merkle_forest.specs.Nodes.{nodes_of_height}
use Rattle.merkle_forest.specs.Trees.{inactive_peaks}
use Rattle.merkle_theory.specs.MadeTrees.{Elements, whole, plain_over}
use Rattle.merkle_theory.specs.MadeRoots.{Naming, made_root}
use Rattle.state_theory.specs.Canonical.{Setting, State, chunk_bits, full_chunks, next_bit, chunks, chunk, forest}
use Rattle.state_theory.specs.Canonical.{peaks, grafted_inactive}
use Rattle.state_theory.specs.MadeCanonical.{canonical_made, chunk_made}
use Rattle.state_theory.specs.MadeGrafted.{chunk_at, grafted_over, grafted_names}

-- the sites of the operations' tree
abbrev pub operations_names : Naming
operations_names = record { root_site = at_operations_root; fold_site = at_fold }

-- the root of the operations' tree
abbrev pub made_operations : Setting → State → Made
made_operations setting state =
    made_root operations_names plain_over (whole state.operations) BackwardFold setting.rule (length state.operations)
    (inactive_peaks state.floor (peaks setting state))

-- the chunk that begins at a location
abbrev pub made_chunk : Setting → State → Elements
made_chunk setting state = chunk_at setting.width (chunk_bits setting) (chunks setting state)

-- the root of the grafted tree
abbrev pub made_grafted : Setting → State → Made
made_grafted setting state =
    made_root grafted_names (grafted_over setting.grafting_height (made_chunk setting state)) (whole state.operations)
    BackwardFold setting.rule (length state.operations) (grafted_inactive setting state)

-- the digest of the full chunk that isn't graftable yet, if there is one
abbrev pub made_pending : Setting → State → Option Made
made_pending setting state =
    let graftable = nodes_of_height setting.grafting_height (forest setting state) in
    if nat_lt graftable (full_chunks setting state) then Some (chunk_made at_pending (chunk setting state graftable))
    else None

-- the digest of the partial chunk, if there is one
abbrev pub made_partial : Setting → State → Option Made
made_partial setting state =
    if next_bit setting state == 0 then None
    else Some (chunk_made at_partial (chunk setting state (full_chunks setting state)))

-- the canonical root of the state
abbrev pub made_state : Setting → State → Made
made_state setting state = canonical_made (record {
  operations = made_operations setting state;
  grafted = made_grafted setting state;
  pending_chunk = made_pending setting state;
  partial_chunk = option_map (λ made. (next_bit setting state, made)) (made_partial setting state);
})

-- the strings that are hashed for the state
abbrev pub hashed_strings : Setting → State → Strings
hashed_strings setting state = strings setting.hash (made_state setting state)
