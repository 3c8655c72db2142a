use Rattle.std.proofs.Common.{◌∙◌, ap, arith}
use Rattle.state_theory.specs.Canonical.{Setting}
use Rattle.state_theory.specs.Honest.{honest_parts}
use Rattle.auth_store_ledger.specs.Store.{grafting_height, setting_of_width, state_of_log}
use Rattle.auth_store_proving.proofs.key.operation_proof.Goals as goal

pub returns-in-Ok : goal.returns-in-Ok
returns-in-Ok g c key value log kept =
    let setting : Setting = setting_of_width g.F.Family.merge_rule g.H.HashFunction.hash_of g.row.N in
    c.in-Ok.ensures.honest (grafting_height g.row.N) (state_of_log key value log) kept.stands
    ∙ ap (honest_parts setting (state_of_log key value log)) c.new.ensures

pub out_of_memory-requires : goal.out_of_memory-requires
out_of_memory-requires g c =
    c.in-Err.ensures.there (omega (arith, c.new.ensures, c.requires.behind)) (omega (arith, c.new.ensures, c.requires.within))
