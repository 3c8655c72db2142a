use Rattle.fault_storage_parts.proofs.Left.{left-keeps}
use Rattle.fault_storage_parts.proofs.laws.left_has_the_header.Goals as goal

pub returns : goal.returns
returns c = left-keeps
