use Rattle.std.proofs.Common.{rules}
use Rattle.std.proofs.lemmas.Fn.{filter_same}
use Rattle.std.specs.List.{list_any}
use Rattle.fault_storage.specs.Stores.{has_number}
use Rattle.fault_storage.proofs.memory.files.keep_turns.Goals as goal

pub returns : goal.returns
returns c = filter_same _ (λ number. list_any (has_number number) c.args.files.now) _ (λ x b g h. search rules) _ _ c.retain.ensures.filtered
