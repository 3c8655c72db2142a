-- The floors in the log of a history are below its length.
use Rattle.std.proofs.Common.{ℕ, ◌+◌, ◌^◌, ◌≤◌, Bool, true, false, cond, List, [], ◌∷◌, ◌++◌, length, arith}
use Rattle.std.specs.Prelude.{is_some}
use Rattle.std.proofs.lemmas.List.{length-append}
use Rattle.state_ops.specs.Operation.{Operation, delete, update, ordered, commit_floor}
use Rattle.auth_store_parts.specs.Map.{Map, value_at, next_key}
use Rattle.auth_store_parts.specs.History.{History, latest_map, log_of, deletes, updates, is_kept, batch_operations}
use Rattle.auth_store_parts.specs.History.{is_active_update, inactivity_floor}
use Rattle.auth_store_log.specs.Records.{FloorsFit}

pub floors_together : (one other : List Operation) → FloorsFit one → FloorsFit other → FloorsFit (one ++ other)
floors_together [] other ones others = others
floors_together (operation ∷ one) other ones others = (ones.0, floors_together one other ones.1 others)

pub floors_apart : (one other : List Operation) → FloorsFit (one ++ other) → FloorsFit one × FloorsFit other
floors_apart [] other all = (tt, all)
floors_apart (operation ∷ one) other all = let later = floors_apart one other all.1 in ((all.0, later.0), later.1)

-- the operations of a batch have none
deletes_fit : (es new : Map) → FloorsFit (deletes es new)
deletes_fit [] new = tt
deletes_fit (e ∷ es) new =
    elim (is_some (value_at new e.0)) as (λ b. FloorsFit (cond b [] (delete e.0 ∷ []) ++ deletes es new)) [
      | true ↦ deletes_fit es new
      | false ↦ (tt, deletes_fit es new)
    ]

updates_fit : (es old new : Map) → FloorsFit (updates es old new)
updates_fit [] old new = tt
updates_fit (e ∷ es) old new = elim (is_kept old new e.0 e.1) as
    (λ b. FloorsFit (cond b [] (update (ordered e.0 e.1 (next_key new e.0)) ∷ []) ++ updates es old new)) [
      | true ↦ updates_fit es old new
      | false ↦ (tt, updates_fit es old new)
    ]

-- the floor of operations is at most their number
floor_within : (log : List Operation) → inactivity_floor log ≤ length log
floor_within [] = omega arith
floor_within (operation ∷ later) = by (is_active_update operation later) (floor_within later)
  where
    by : (b : Bool) → inactivity_floor later ≤ length later
        → cond b 0 (inactivity_floor later + 1) ≤ length (operation ∷ later)
    by true earlier = omega arith
    by false earlier = omega (arith, earlier)

pub floors_of_log : (history : History) → length (log_of history) ≤ 2 ^ 62 → FloorsFit (log_of history)
floors_of_log [] few = (omega arith, tt)
floors_of_log (commit ∷ history) few =
    let log = log_of history in
    let old = latest_map history in
    let changes = batch_operations old commit.map in
    let floor : ℕ = inactivity_floor (log ++ changes) in
    let last : List Operation = commit_floor commit.metadata floor ∷ [] in
    let parts = length-append log (changes ++ last) in
    let more = length-append changes last in
    let within = floor_within (log ++ changes) in
    let here : floor ≤ 2 ^ 62 = omega (arith, few, parts, more, within, length-append log changes) in
    floors_together log (changes ++ last) (floors_of_log history (omega (arith, few, parts)))
    (floors_together changes last
    (floors_together (deletes old commit.map) (updates commit.map old commit.map) (deletes_fit old commit.map)
    (updates_fit commit.map old commit.map))
    (here, tt))
