use Rattle.std.proofs.Common.{ap, length, arith, ◌*◌}
use Rattle.auth_store_ledger.specs.History.{history_of}
use Rattle.std.proofs.lemmas.Bool.{le-ltb, lt-ltb}
use Rattle.state_theory.specs.Canonical.{Setting}
use Rattle.auth_store_ledger.specs.Store.{setting_of_width}
use Rattle.auth_store_proving.proofs.Answered.{not_refused, refused_empty, refused_past, refused_pruned}
use Rattle.auth_store_proving.proofs.ranges.range_refusal.Goals as goal

pub returns-then-stop-start-clause-refusal : goal.returns-then-stop-start-clause-refusal
returns-then-stop-start-clause-refusal g c log of =
    let setting : Setting = setting_of_width g.F.Family.merge_rule g.H.HashFunction.hash_of g.row.N in
    refused_empty setting (history_of log) c.args.ledger.now.kept.bits.pruned c.args.start c.args.stop (omega arith)

pub returns-then-len-stop-clause-refusal : goal.returns-then-len-stop-clause-refusal
returns-then-len-stop-clause-refusal g c log of =
    let setting : Setting = setting_of_width g.F.Family.merge_rule g.H.HashFunction.hash_of g.row.N in
    refused_past setting (history_of log) c.args.ledger.now.kept.bits.pruned c.args.start c.args.stop (omega arith)
    (omega (arith, c.len.ensures.len log of, ap length of.keeps.whole))

pub returns-then-start-kept_from-clause-refusal : goal.returns-then-start-kept_from-clause-refusal
returns-then-start-kept_from-clause-refusal g c log of =
    let setting : Setting = setting_of_width g.F.Family.merge_rule g.H.HashFunction.hash_of g.row.N in
    refused_pruned setting (history_of log) c.args.ledger.now.kept.bits.pruned c.args.start c.args.stop (omega arith)
    (omega (arith, c.len.ensures.len log of, ap length of.keeps.whole))
    (lt-ltb c.args.start (8 * g.row.N * c.args.ledger.now.kept.bits.pruned) (omega (arith, c.kept_from.ensures)))

pub returns-clause-refusal : goal.returns-clause-refusal
returns-clause-refusal g c log of =
    let setting : Setting = setting_of_width g.F.Family.merge_rule g.H.HashFunction.hash_of g.row.N in
    not_refused setting (history_of log) c.args.ledger.now.kept.bits.pruned c.args.start c.args.stop (omega arith)
    (omega (arith, c.len.ensures.len log of, ap length of.keeps.whole))
    (le-ltb c.args.start (8 * g.row.N * c.args.ledger.now.kept.bits.pruned) (omega (arith, c.kept_from.ensures)))
