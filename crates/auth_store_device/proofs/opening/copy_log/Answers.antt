use Rattle.std.proofs.Common.{rules, ◌≡◌, [], ◌∙◌}
use Rattle.auth_store_device.proofs.Steps.{nothing_behind}
use Rattle.auth_store_device.proofs.opening.copy_log.Goals as goal

pub returns-in-None : goal.returns-in-None
returns-in-None c =
    let none : c.new.result.items ≡ [] = search rules in
    none ∙ nothing_behind c.args.storage.now (search rules)
