use Rattle.std.proofs.Common.{rules, not, ap, ◌∙◌}
use Rattle.std.proofs.lemmas.Fn.{filter_same}
use Rattle.fault_storage.specs.Opens.{is_name, closed}
use Rattle.fault_storage.proofs.opens.Opens.forget.Goals as goal

pub returns : goal.returns
returns c =
    filter_same _ (λ other. not (is_name c.args.name.now.0 c.args.name.now.1 other)) _ (λ x b g h. search rules) _ _ c.retain.ensures.filtered
    ∙ ap (closed c.args.name.now) c.self.view_is
