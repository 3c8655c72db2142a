use Rattle.std.proofs.Common.{rules, not}
use Rattle.std.proofs.lemmas.Fn.{filter_same}
use Rattle.fault_storage.specs.Directory.{is_in}
use Rattle.fault_storage.proofs.directory.remove_files.Goals as goal

pub returns : goal.returns
returns c = filter_same _ (λ it. not (is_in c.args.partition.now it)) _ (λ x b g h. search rules) _ _ c.retain.ensures.filtered
