use Rattle.std.proofs.Common.{rules, ◌≡◌, ◌≤◌, ◌^◌, ◌∙◌, ℕ, List, None, Ok, length, ap, sym, subst, arith}
use Rattle.state_ops.specs.Operation.{Operation}
use Rattle.state_theory.specs.Canonical.{Setting}
use Rattle.auth_store_client.specs.Claims.{Terms, terms}
use Rattle.auth_store_ledger.specs.History.{History, history_of, log_of}
use Rattle.auth_store_proving.specs.Proving.{IsAcceptedSlice, SliceAnswer, slice_answer, range_refusal, unless_refused}
use Rattle.auth_store_ledger.specs.Store.{root_of_history, setting_of_width}
use Rattle.auth_store_proving.proofs.Answered.{unless_none, unless_some}
use Rattle.auth_store_proving.proofs.Refused.{unproved_read}
use Rattle.auth_store_proving.proofs.ranges.prove_log.Goals as goal

pub returns-in-Some-clause-err : goal.returns-in-Some-clause-err
returns-in-Some-clause-err g c =
    let log : List Operation = g.L.LoggedValues.log c.args.log.now in
    let setting : Setting = setting_of_width g.F.Family.merge_rule g.H.HashFunction.hash_of g.row.N in
    let key_size : ℕ = g.K.FixedSize.SIZE in
    let value_size : ℕ = g.V.FixedSize.SIZE in
    let history : History = history_of log in
    let refusal = range_refusal setting history c.args.ledger.now.kept.bits.pruned c.args.start c.args.stop in
    (g.L.LoggedValues.none_leads c.args.log.now, unless_some refusal _ _ (sym c.in-Some.is ∙ c.range_refusal.ensures.refusal log c.requires.of))

pub returns-in_err-slice_between-clause-err : goal.returns-in_err-slice_between-clause-err
returns-in_err-slice_between-clause-err g c =
    let log : List Operation = g.L.LoggedValues.log c.args.log.now in
    let setting : Setting = setting_of_width g.F.Family.merge_rule g.H.HashFunction.hash_of g.row.N in
    let key_size : ℕ = g.K.FixedSize.SIZE in
    let value_size : ℕ = g.V.FixedSize.SIZE in
    let history : History = history_of log in
    let refusal = range_refusal setting history c.args.ledger.now.kept.bits.pruned c.args.start c.args.stop in
    let answer : SliceAnswer = slice_answer g.F.PendingOf.pending_encoding setting key_size value_size history c.args.start c.args.stop in
    unproved_read c.from_residual.result _ _ (unless_refused refusal answer) c.in_err-slice_between.field-0.0 c.from_residual.ensures.1
    c.in_err-slice_between.ensures.refused

pub returns-clause-ok : goal.returns-clause-ok
returns-clause-ok g c =
    let log : List Operation = g.L.LoggedValues.log c.args.log.now in
    let setting : Setting = setting_of_width g.F.Family.merge_rule g.H.HashFunction.hash_of g.row.N in
    let key_size : ℕ = g.K.FixedSize.SIZE in
    let value_size : ℕ = g.V.FixedSize.SIZE in
    let history : History = history_of log in
    let refusal = range_refusal setting history c.args.ledger.now.kept.bits.pruned c.args.start c.args.stop in
    let answer : SliceAnswer = slice_answer g.F.PendingOf.pending_encoding setting key_size value_size history c.args.start c.args.stop in
    let none : c.range_refusal.result ≡ None = search rules in
    ap (λ (a : SliceAnswer). Ok a) c.in_ok-slice_between.ensures.slice
    ∙ unless_none refusal answer (sym none ∙ c.range_refusal.ensures.refusal log c.requires.of)

pub returns-clause-shown : goal.returns-clause-shown
returns-clause-shown g c =
    let log : List Operation = g.L.LoggedValues.log c.args.log.now in
    let setting : Setting = setting_of_width g.F.Family.merge_rule g.H.HashFunction.hash_of g.row.N in
    let key_size : ℕ = g.K.FixedSize.SIZE in
    let value_size : ℕ = g.V.FixedSize.SIZE in
    let history : History = history_of log in
    let refusal = range_refusal setting history c.args.ledger.now.kept.bits.pruned c.args.start c.args.stop in
    let none : c.range_refusal.result ≡ None = search rules in
    let those : Terms = terms g.F.Family.merge_rule g.H.HashFunction.hash_of g.row.N g.H.Digest.FixedSize.SIZE g.F.PendingOf.is_pending
    g.F.PendingOf.pending_encoding (g.K.Read.after tt) (g.V.Read.after tt) key_size value_size in
    let root : List ℕ = root_of_history setting key_size value_size history in
    let keeps = c.requires.of.keeps in
    let few : length (log_of history) ≤ 2 ^ 62 = omega (arith, ap length keeps.whole, keeps.few) in
    let within : c.args.stop ≤ length (log_of history) =
    omega (arith, ap length keeps.whole, keeps.current.leaves, c.range_refusal.ensures.within none) in
    subst (λ (answer : SliceAnswer). IsAcceptedSlice those root c.args.start answer) (sym c.in_ok-slice_between.ensures.slice)
    (c.honest_slices_are_shown.ensures history c.args.start c.args.stop c.holds_a_history.ensures.width few
    (c.range_refusal.ensures.some none) within)
