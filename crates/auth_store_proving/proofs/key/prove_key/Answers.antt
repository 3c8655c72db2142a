use Rattle.std.proofs.Common.{◌≡◌, ◌≤◌, ◌^◌, ap, sym, subst, List, ℕ, length, arith}
use Rattle.std.proofs.lemmas.Result.{IfOk-weaker}
use Rattle.state_ops.specs.Operation.{Operation}
use Rattle.state_ops.specs.Reading.{IsField}
use Rattle.state_theory.specs.Canonical.{Setting}
use Rattle.auth_store_client.specs.Claims.{Terms, terms}
use Rattle.auth_store_ledger.specs.Map.{value_at}
use Rattle.auth_store_ledger.specs.History.{History, history_of, latest_map, log_of}
use Rattle.auth_store_proving.specs.Proving.{IsAccepted, IsHonestAnswer, KeyAnswer, honest_answer}
use Rattle.auth_store_proving.specs.ProvingCode.{key_answer_of}
use Rattle.auth_store_ledger.specs.Store.{root_of_history, setting_of_width}
use Rattle.auth_store_proving.proofs.Proofs.{honest_accepted}
use Rattle.auth_store_proving.proofs.key.prove_key.Goals as goal

pub returns-clause-ok : goal.returns-clause-ok
returns-clause-ok g c =
    let key_size : ℕ = g.K.FixedSize.SIZE in
    let value_size : ℕ = g.V.FixedSize.SIZE in
    let setting : Setting = setting_of_width g.F.Family.merge_rule g.H.HashFunction.hash_of g.row.N in
    let pending = g.F.PendingOf.pending_encoding in
    let key : List ℕ = g.K.Write.encoding c.args.key.now in
    let log : List Operation = g.L.LoggedValues.log c.args.log.now in
    let history : History = history_of log in
    let IsKey : List ℕ → Type 0 = IsField (g.K.Read.after tt) key_size in
    let IsValue : List ℕ → Type 0 = IsField (g.V.Read.after tt) value_size in
    IfOk-weaker c.key_proof.result
    (λ found. IsHonestAnswer IsKey IsValue pending setting key_size value_size history key (key_answer_of g.V.Write.encoding found))
    (λ found. key_answer_of g.V.Write.encoding found ≡ honest_answer pending setting key_size value_size history key)
    (λ found it. it.is) c.key_proof.ensures.ok

pub returns-clause-shown : goal.returns-clause-shown
returns-clause-shown g c =
    let key_size : ℕ = g.K.FixedSize.SIZE in
    let value_size : ℕ = g.V.FixedSize.SIZE in
    let setting : Setting = setting_of_width g.F.Family.merge_rule g.H.HashFunction.hash_of g.row.N in
    let pending = g.F.PendingOf.pending_encoding in
    let key : List ℕ = g.K.Write.encoding c.args.key.now in
    let log : List Operation = g.L.LoggedValues.log c.args.log.now in
    let history : History = history_of log in
    let those : Terms = terms g.F.Family.merge_rule g.H.HashFunction.hash_of g.row.N g.H.Digest.FixedSize.SIZE g.F.PendingOf.is_pending pending
    (g.K.Read.after tt) (g.V.Read.after tt) key_size value_size in
    let root : List ℕ = root_of_history setting key_size value_size history in
    let keeps = c.requires.of.keeps in
    let few : length (log_of history) ≤ 2 ^ 62 = omega (arith, ap length keeps.whole, keeps.few) in
    let width = c.holds_a_history.ensures.width in
    let IsKey : List ℕ → Type 0 = IsField (g.K.Read.after tt) key_size in
    let IsValue : List ℕ → Type 0 = IsField (g.V.Read.after tt) value_size in
    IfOk-weaker c.key_proof.result
    (λ found. IsHonestAnswer IsKey IsValue pending setting key_size value_size history key (key_answer_of g.V.Write.encoding found))
    (λ found. IsAccepted those root key (key_answer_of g.V.Write.encoding found))
    (λ found it. subst (λ (answer : KeyAnswer). IsAccepted those root key answer) (sym it.is)
    (honest_accepted those root pending setting key_size value_size history key IsKey IsValue (value_at (latest_map history) key)
    (λ value is next. c.honest_proofs_show_true_values.ensures history key value width keeps.states few is next)
    (λ is fields. c.honest_proofs_show_absence.ensures history key width keeps.states few is fields) it.names))
    c.key_proof.ensures.ok
