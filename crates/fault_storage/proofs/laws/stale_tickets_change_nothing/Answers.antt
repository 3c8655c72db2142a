use Rattle.std.proofs.Common.{◌≡◌, ℕ, true, Option, Some, None, refl, ap, ◌∙◌}
use Rattle.fault_storage.specs.Pending.{is_of, settled, cleared, failed, has_debt, has_settled}
use Rattle.fault_storage.proofs.Standings.{changed-none}
use Rattle.fault_storage.proofs.laws.stale_tickets_change_nothing.Goals as goal

-- where nothing stands of a ticket's name there is nothing to wait for
waits : (before : Option ℕ) → has_settled before None ≡ true
waits None = refl
waits (Some number) = refl

pub returns-clause-settling : goal.returns-clause-settling
returns-clause-settling c ticket registry stale =
    ap (λ l. record registry { entries = l }) (changed-none (is_of ticket) (settled ticket.number) registry.entries stale)

pub returns-clause-clearing : goal.returns-clause-clearing
returns-clause-clearing c ticket registry stale =
    ap (λ l. record registry { entries = l }) (changed-none (is_of ticket) (cleared ticket.number) registry.entries stale)

pub returns-clause-failing : goal.returns-clause-failing
returns-clause-failing c ticket registry failure stale =
    ap (λ l. record registry { entries = l }) (changed-none (is_of ticket) (failed failure) registry.entries stale)

pub returns-clause-debt : goal.returns-clause-debt
returns-clause-debt c ticket registry stale = ap has_debt stale

pub returns-clause-waiting : goal.returns-clause-waiting
returns-clause-waiting c ticket registry stale = ap (has_settled ticket.before) stale ∙ waits ticket.before
