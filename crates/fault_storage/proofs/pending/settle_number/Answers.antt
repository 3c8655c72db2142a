use Rattle.std.proofs.Common.{rules, not, ◌==◌}
use Rattle.std.proofs.lemmas.Fn.{filter_same}
use Rattle.fault_storage.proofs.pending.settle_number.Goals as goal

pub returns : goal.returns
returns c = filter_same _ (λ other. not (other == c.args.number)) _ (λ x b g h. search rules) _ _ c.retain.ensures.filtered
