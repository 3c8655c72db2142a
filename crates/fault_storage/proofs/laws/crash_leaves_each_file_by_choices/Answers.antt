use Rattle.fault_storage.proofs.Leaving.{crash-leaves}
use Rattle.fault_storage.proofs.laws.crash_leaves_each_file_by_choices.Goals as goal

pub returns : goal.returns
returns c store words = crash-leaves store.files store.order words
