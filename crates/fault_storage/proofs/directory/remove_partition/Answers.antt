use Rattle.std.proofs.Common.{rules, not}
use Rattle.std.proofs.lemmas.Fn.{filter_same}
use Rattle.std.specs.Str.{bytes_eq}
use Rattle.fault_storage.proofs.directory.remove_partition.Goals as goal

pub returns : goal.returns
returns c = filter_same _ (λ it. not (bytes_eq it c.args.partition.now)) _ (λ x b g h. search rules) _ _ c.retain.ensures.filtered
