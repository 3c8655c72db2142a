use Rattle.fault_storage_parts.proofs.Fronts.{crash-keeps}
use Rattle.fault_storage_parts.proofs.laws.crash_keeps_the_header.Goals as goal

pub returns : goal.returns
returns c = crash-keeps
