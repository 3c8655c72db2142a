-- What the changes of a batch lead to in a log, with the commit behind them.
use Rattle.std.specs.Prelude.{◌≡◌, ◌<◌, ◌≤◌, ◌+◌, ◌-◌, ◌*◌, ◌^◌, ◌++◌, [], ◌∷◌, ℕ, Bool, true, List, Option}
use Rattle.std.specs.Prelude.{drop, length, map}
use Rattle.std.specs.List.{AllByRecursion}
use Rattle.state_ops.specs.Operation.{Operation, commit_floor}
use Rattle.auth_store_parts.specs.Map.{Map}
use Rattle.auth_store_index.specs.Growth.{cleared, first_set, taken}
use Rattle.auth_store_index.specs.Touched.{is_no_delete}
use Rattle.auth_store_log.specs.Records.{Format}
use Rattle.auth_store_ledger.specs.Batch.{Word, map_after}
use Rattle.auth_store_ledger.specs.History.{batch_operations, replayed}
use Rattle.auth_store_ledger.specs.Store.{IsLedgerOf, LedgerState}
use Rattle.state_current.specs.Kept.{Kept}
use Rattle.state_theory.specs.Canonical.{Setting}

-- A bit for each of the changes and for the commit; the locations whose operations they take out of a log with these
-- places and its last commit here; the floor, which is the first location from `start` on whose bit is set then, where
-- the log has the bits `before`; and the operations that are appended.
pub record AreFound (index : Map) (last : ℕ) (changes : List Operation) (metadata : Option (List ℕ))
    (before : List Bool) (start : ℕ) (appended : List Operation) (bits : List Bool) (places : List ℕ) (floor : ℕ)
    : Type 0 where
  pub set : bits ≡ map is_no_delete changes ++ true ∷ []
  pub taken_out : places ≡ taken index last changes ++ last ∷ []
  pub first : floor ≡ start + first_set (drop start (cleared (before ++ bits) places))
  pub whole : appended ≡ changes ++ commit_floor metadata floor ∷ []

-- so many operations can come to what is kept in chunks of so many bytes: there is one of these bits for each, and the
-- locations to clear are in chunks that are kept
pub record CanGrow (width : ℕ) (kept : Kept) (count : ℕ) (bits : List Bool) (places : List ℕ) : Type 0 where
  pub few : kept.operations.leaves + count ≤ 2 ^ 62
  pub paired : length bits ≡ count
  pub there : AllByRecursion (λ at. (8 * width * kept.bits.pruned ≤ at) × (at < kept.operations.leaves + count)) places

-- what the words of a batch change in the state that a log leads to
abbrev pub changes_of : List Word → List Operation → List Operation
changes_of words log = batch_operations (replayed [] log) (map_after words (replayed [] log))

-- they are what the words of some batch change in a log of which a ledger keeps this
pub record AreChanges (setting : Setting) (format : Format) (ledger : LedgerState) (changes : List Operation)
    : Type 0 where
  pub log : List Operation
  pub words : List Word
  pub of : IsLedgerOf setting format log ledger
  pub are : changes ≡ changes_of words log
