use Rattle.std.proofs.Common.{refl}
use Rattle.fault_storage.specs.Stores.{crashed_files}
use Rattle.fault_storage.proofs.laws.second_crash_changes_nothing.Goals as goal

pub returns : goal.returns
unfolding crashed_files
returns c store words later = refl
