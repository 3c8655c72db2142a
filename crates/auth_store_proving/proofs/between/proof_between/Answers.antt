use Rattle.std.proofs.Common.{ℕ, ◌∙◌, ◌*◌, List, ap, ap₂, arith}
use Rattle.state_ops.specs.Operation.{Operation}
use Rattle.state_theory.specs.Canonical.{Setting}
use Rattle.state_theory.specs.Honest.{honest_range}
use Rattle.state_current.specs.Kept.{Kept}
use Rattle.auth_store_ledger.specs.Store.{grafting_height, setting_of_width, state_of_log}
use Rattle.auth_store_proving.proofs.between.proof_between.Goals as goal

pub out_of_memory-requires : goal.out_of_memory-requires
out_of_memory-requires g c =
    let pruned = ap (λ (k : Kept). 8 * g.row.N * k.bits.pruned) c.parts.ensures.kept in
    let leaves = ap (λ (k : Kept). k.operations.leaves) c.parts.ensures.kept in
    c.in-Err.ensures.there (omega (arith, pruned, c.requires.kept, c.new.ensures))
    (omega (arith, c.requires.some, c.new.ensures, c.new-2.ensures))
    (omega (arith, leaves, c.requires.within, c.new-2.ensures))

pub returns-in-Ok : goal.returns-in-Ok
returns-in-Ok g c log of =
    let key = g.K.FixedSize.SIZE in
    let value = g.V.FixedSize.SIZE in
    let setting : Setting = setting_of_width g.F.Family.merge_rule g.H.HashFunction.hash_of g.row.N in
    let keeps = c.parts.ensures.placed log of in
    c.in-Ok.ensures.honest (grafting_height g.row.N) (state_of_log key value log) keeps.current.stands
    ∙ (ap₂ (λ (a b : ℕ). honest_range setting (state_of_log key value log) a b) c.new.ensures c.new-2.ensures
    ∙ ap (λ (l : List Operation). honest_range setting (state_of_log key value l) c.args.start c.args.stop) keeps.whole)
