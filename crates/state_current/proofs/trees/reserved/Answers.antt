use Rattle.std.proofs.lemmas.Result.{IfErr-weaker, IfOk-weaker}
use Rattle.merkle_core_parts.specs.Mem.{base_of}
use Rattle.state_theory.specs.Laws.Refusals.{onto_memory}
use Rattle.state_current.proofs.TreeLemmas.{applied_alone}
use Rattle.state_current.proofs.trees.reserved.Goals as goal

pub returns-clause-after : goal.returns-clause-after
returns-clause-after g c =
    let rule = g.F.Family.merge_rule in
    IfOk-weaker c.reserve_for.result _ _
    (λ waiting it. applied_alone rule c.args.tree waiting.after c.args.batch it.0 c.requires it.1 it.2)
    c.reserve_for.ensures.after

pub returns-clause-refused : goal.returns-clause-refused
returns-clause-refused g c =
    IfErr-weaker c.reserve_for.result _ _
    (λ back is. onto_memory c.args.batch (base_of g.F.Family.merge_rule c.args.tree) back.error c.requires is)
    c.reserve_for.ensures.refused
