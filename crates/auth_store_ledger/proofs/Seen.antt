-- What a ledger is seen as.
use Rattle.std.proofs.Common.{◌≡◌, ℕ, List, sym, subst}
use Rattle.state_ops.specs.Operation.{Operation}
use Rattle.state_theory.specs.Canonical.{Setting}
use Rattle.state_current.specs.Kept.{Kept}
use Rattle.auth_store_ledger.specs.Map.{Map}
use Rattle.auth_store_log.specs.Records.{Format}
use Rattle.auth_store_ledger.specs.Store.{LedgerState, IsLedgerOf}

-- what a ledger of these parts is seen as
abbrev pub seen_as : Map → ℕ → Kept → LedgerState
seen_as places commits kept = record { places = places; commits = commits; kept = kept }

-- what is kept of a log stands in the ledger that is seen so
pub inside : (setting : Setting) (format : Format) (log : List Operation) (places : Map) (commits : ℕ) (kept : Kept) (seen : LedgerState)
    → seen_as places commits kept ≡ seen → IsLedgerOf setting format log seen
    → IsLedgerOf setting format log (seen_as places commits kept)
inside setting format log places commits kept seen is of = subst (λ (s : LedgerState). IsLedgerOf setting format log s) (sym is) of
