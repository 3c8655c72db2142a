use Rattle.std.proofs.Common.{rules, not}
use Rattle.std.proofs.lemmas.Fn.{filter_same}
use Rattle.fault_storage.specs.Pending.{has_name}
use Rattle.fault_storage.proofs.pending.forget_name.Goals as goal

pub returns-clause-names : goal.returns-clause-names
returns-clause-names c = filter_same _ (λ it. not (has_name c.args.partition.now c.args.name.now it)) _ (λ x b g h. search rules) _ _
    c.retain.ensures.filtered
