use Rattle.std.proofs.Common.{rules, ◌≡◌, ◌≤◌, ◌^◌, ◌*◌, ◌∙◌, ℕ}
use Rattle.std.proofs.Common.{List, Option, None, Some, Err, length, slice_get, ap, sym, subst, arith}
use Rattle.std.specs.Prelude.{IfSome}
use Rattle.std.proofs.lemmas.Bool.{le-ltb}
use Rattle.state_ops.specs.Operation.{Operation, meaning_of}
use Rattle.state_theory.specs.Canonical.{Setting}
use Rattle.auth_store_client.specs.Claims.{Shows, Terms, is_active, terms}
use Rattle.auth_store_proving.specs.declared.error.Unprovable.{Unprovable}
use Rattle.auth_store_ledger.specs.History.{History, activity_bits, history_of, log_of}
use Rattle.auth_store_proving.specs.Proving.{answer_of_operation}
use Rattle.auth_store_ledger.specs.Store.{root_of_history, setting_of_width}
use Rattle.auth_store_proving.proofs.Answered.{operation_answered}
use Rattle.auth_store_proving.proofs.Refused.{unproved_read}
use Rattle.auth_store_proving.proofs.ranges.prove_operation.Goals as goal

pub returns-in-Some-clause-err : goal.returns-in-Some-clause-err
returns-in-Some-clause-err g c =
    let log : List Operation = g.L.LoggedValues.log c.args.log.now in
    let setting : Setting = setting_of_width g.F.Family.merge_rule g.H.HashFunction.hash_of g.row.N in
    let answer = answer_of_operation g.F.PendingOf.pending_encoding setting g.K.FixedSize.SIZE g.V.FixedSize.SIZE (history_of log)
    c.args.ledger.now.kept.bits.pruned c.args.location in (
      g.L.LoggedValues.none_leads c.args.log.now,
      subst (λ (r : Option Unprovable). IfSome r (λ why. answer ≡ Err why)) c.in-Some.is
          (c.operation_refusal.ensures.refusal log c.requires.of),
    )

pub returns-in_err-operation_with_proof-clause-err : goal.returns-in_err-operation_with_proof-clause-err
returns-in_err-operation_with_proof-clause-err g c =
    let log : List Operation = g.L.LoggedValues.log c.args.log.now in
    let setting : Setting = setting_of_width g.F.Family.merge_rule g.H.HashFunction.hash_of g.row.N in
    unproved_read c.from_residual.result _ _
    (answer_of_operation g.F.PendingOf.pending_encoding setting g.K.FixedSize.SIZE g.V.FixedSize.SIZE (history_of log)
    c.args.ledger.now.kept.bits.pruned c.args.location)
    c.in_err-operation_with_proof.field-0.0 c.from_residual.ensures.1 c.in_err-operation_with_proof.ensures.refused

pub returns-clause-ok : goal.returns-clause-ok
returns-clause-ok g c =
    let log : List Operation = g.L.LoggedValues.log c.args.log.now in
    let setting : Setting = setting_of_width g.F.Family.merge_rule g.H.HashFunction.hash_of g.row.N in
    let history : History = history_of log in
    let keeps = c.requires.of.keeps in
    let pruned : ℕ = c.args.ledger.now.kept.bits.pruned in
    let none : c.operation_refusal.result ≡ None = search rules in
    let proved = c.in_ok-operation_with_proof.field-0 in
    let operation : Operation = meaning_of g.K.Write.encoding g.V.Write.encoding proved.operation in
    let found : slice_get (log_of history) c.args.location ≡ Some operation =
    ap (λ (l : List Operation). slice_get l c.args.location) (sym keeps.whole) ∙ c.in_ok-operation_with_proof.ensures.operation in
    let bit = ap (λ (l : List Operation). slice_get (activity_bits l) c.args.location) (sym keeps.whole)
    ∙ c.operation_refusal.ensures.active log c.requires.of none in
    operation_answered g.F.PendingOf.pending_encoding setting g.K.FixedSize.SIZE g.V.FixedSize.SIZE history pruned c.args.location operation found
    proved.bytes.items (le-ltb c.args.location (8 * g.row.N * pruned) (c.operation_refusal.ensures.kept none)) bit
    c.in_ok-operation_with_proof.ensures.bytes

pub returns-clause-shown : goal.returns-clause-shown
returns-clause-shown g c =
    let log : List Operation = g.L.LoggedValues.log c.args.log.now in
    let setting : Setting = setting_of_width g.F.Family.merge_rule g.H.HashFunction.hash_of g.row.N in
    let key_size : ℕ = g.K.FixedSize.SIZE in
    let value_size : ℕ = g.V.FixedSize.SIZE in
    let history : History = history_of log in
    let keeps = c.requires.of.keeps in
    let none : c.operation_refusal.result ≡ None = search rules in
    let operation : Operation = meaning_of g.K.Write.encoding g.V.Write.encoding c.in_ok-operation_with_proof.field-0.operation in
    let found : slice_get (log_of history) c.args.location ≡ Some operation =
    ap (λ (l : List Operation). slice_get l c.args.location) (sym keeps.whole) ∙ c.in_ok-operation_with_proof.ensures.operation in
    let bit = ap (λ (l : List Operation). slice_get (activity_bits l) c.args.location) (sym keeps.whole)
    ∙ c.operation_refusal.ensures.active log c.requires.of none in
    let those : Terms = terms g.F.Family.merge_rule g.H.HashFunction.hash_of g.row.N g.H.Digest.FixedSize.SIZE g.F.PendingOf.is_pending
    g.F.PendingOf.pending_encoding (g.K.Read.after tt) (g.V.Read.after tt) key_size value_size in
    let root : List ℕ = root_of_history setting key_size value_size history in
    let few : length (log_of history) ≤ 2 ^ 62 = omega (arith, ap length keeps.whole, keeps.few) in
    subst (λ (b : List ℕ). Shows those (is_active c.args.location operation) root b) (sym c.in_ok-operation_with_proof.ensures.bytes)
    (c.honest_operations_are_shown.ensures history c.args.location operation c.holds_a_history.ensures.width few found bit)
