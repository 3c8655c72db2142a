use Rattle.std.proofs.Common.{refl}
use Rattle.fault_storage.specs.Pending.{settled, cleared, failed}
use Rattle.fault_storage.proofs.Begun.{orderly_admitted, orderly_changed, orderly_forgotten}
use Rattle.fault_storage.proofs.laws.tickets_are_of_generations_that_began.Goals as goal

pub returns-clause-admitting : goal.returns-clause-admitting
returns-clause-admitting c = orderly_admitted

pub returns-clause-settling : goal.returns-clause-settling
returns-clause-settling c ticket registry = orderly_changed ticket registry (settled ticket.number) (λ _. refl)

pub returns-clause-clearing : goal.returns-clause-clearing
returns-clause-clearing c ticket registry = orderly_changed ticket registry (cleared ticket.number) (λ _. refl)

pub returns-clause-failing : goal.returns-clause-failing
returns-clause-failing c ticket registry failure = orderly_changed ticket registry (failed failure) (λ _. refl)

pub returns-clause-forgetting : goal.returns-clause-forgetting
returns-clause-forgetting c = orderly_forgotten
