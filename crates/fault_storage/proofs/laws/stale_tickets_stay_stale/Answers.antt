use Rattle.std.proofs.Common.{refl}
use Rattle.fault_storage.specs.Pending.{settled, cleared, failed}
use Rattle.fault_storage.proofs.Stale.{past_begun, past_forgotten, past_admitting, past_changed, past_forgetting}
use Rattle.fault_storage.proofs.laws.stale_tickets_stay_stale.Goals as goal

pub returns-clause-begun : goal.returns-clause-begun
returns-clause-begun c = past_begun

pub returns-clause-forgotten : goal.returns-clause-forgotten
returns-clause-forgotten c = past_forgotten

pub returns-clause-admitting : goal.returns-clause-admitting
returns-clause-admitting c = past_admitting

pub returns-clause-settling : goal.returns-clause-settling
returns-clause-settling c ticket other registry = past_changed ticket registry other (settled other.number) (λ _. refl)

pub returns-clause-clearing : goal.returns-clause-clearing
returns-clause-clearing c ticket other registry = past_changed ticket registry other (cleared other.number) (λ _. refl)

pub returns-clause-failing : goal.returns-clause-failing
returns-clause-failing c ticket other registry failure = past_changed ticket registry other (failed failure) (λ _. refl)

pub returns-clause-forgetting : goal.returns-clause-forgetting
returns-clause-forgetting c = past_forgetting
