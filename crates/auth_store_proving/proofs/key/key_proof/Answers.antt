use Rattle.std.proofs.Common.{subst, List, ℕ}
use Rattle.state_ops.specs.Operation.{Operation}
use Rattle.state_ops.specs.Reading.{IsField}
use Rattle.state_theory.specs.Canonical.{Setting}
use Rattle.auth_store_ledger.specs.History.{history_of}
use Rattle.auth_store_proving.specs.Proving.{IsHonestAbsence, IsHonestUpdate}
use Rattle.auth_store_proving.specs.ProvingCode.{found_of}
use Rattle.auth_store_ledger.specs.Store.{setting_of_width}
use Rattle.auth_store_proving.proofs.Proofs.{found_answer, missing_answer}
use Rattle.auth_store_ledger.specs.Laws.Reads.{passed_on, refused_behind}
use Rattle.auth_store_proving.proofs.key.key_proof.Goals as goal

pub returns-in-Some-clause-ok : goal.returns-in-Some-clause-ok
returns-in-Some-clause-ok g c =
    let key_size : ℕ = g.K.FixedSize.SIZE in
    let value_size : ℕ = g.V.FixedSize.SIZE in
    let setting : Setting = setting_of_width g.F.Family.merge_rule g.H.HashFunction.hash_of g.row.N in
    let log : List Operation = g.L.LoggedValues.log c.args.log.now in
    let key : List ℕ = g.K.Write.encoding c.args.key.now in
    let pending = g.F.PendingOf.pending_encoding in
    let IsKey : List ℕ → Type 0 = IsField (g.K.Read.after tt) key_size in
    let IsValue : List ℕ → Type 0 = IsField (g.V.Read.after tt) value_size in
    found_answer IsKey IsValue pending setting key_size value_size log key (g.V.Write.encoding c.in-Some.value) c.in-Some.bytes.items
    c.requires.placed.states c.requires.placed.whole
    (subst (λ f. IsHonestUpdate IsKey pending setting key_size value_size log key (found_of g.V.Write.encoding f)) c.in-Some.is
    c.in_ok-found.ensures.found)

pub returns-in_ok-bytes-in-None-clause-ok : goal.returns-in_ok-bytes-in-None-clause-ok
returns-in_ok-bytes-in-None-clause-ok g c =
    let key_size : ℕ = g.K.FixedSize.SIZE in
    let value_size : ℕ = g.V.FixedSize.SIZE in
    let setting : Setting = setting_of_width g.F.Family.merge_rule g.H.HashFunction.hash_of g.row.N in
    let log : List Operation = g.L.LoggedValues.log c.args.log.now in
    let key : List ℕ = g.K.Write.encoding c.args.key.now in
    let pending = g.F.PendingOf.pending_encoding in
    let IsKey : List ℕ → Type 0 = IsField (g.K.Read.after tt) key_size in
    let IsValue : List ℕ → Type 0 = IsField (g.V.Read.after tt) value_size in
    let bytes : List ℕ = c.in_ok-bytes-in-None.bytes.items in
    missing_answer IsKey IsValue pending setting key_size value_size log key bytes c.requires.placed.states c.requires.placed.whole
    (subst (λ f. IsHonestUpdate IsKey pending setting key_size value_size log key (found_of g.V.Write.encoding f)) c.in-None.is
    c.in_ok-found.ensures.found)
    (subst (λ (l : List Operation). IsHonestAbsence IsKey IsValue pending setting key_size value_size (history_of l) key bytes)
    c.prove_value.ensures.same c.in_ok-bytes-in-None.ensures.bytes)

pub returns-in_ok-bytes-in-None-clause-leads : goal.returns-in_ok-bytes-in-None-clause-leads
returns-in_ok-bytes-in-None-clause-leads g c = g.L.LoggedValues.more_leads c.args.log.now c.prove_value.new.log c.prove_absence.new.log
    c.in_ok-found.ensures.leads c.in_ok-bytes-in-None.ensures.leads

pub returns-in_err-bytes-in-None-clause-refused : goal.returns-in_err-bytes-in-None-clause-refused
returns-in_err-bytes-in-None-clause-refused g c =
    passed_on c.from_residual-in_err-bytes-in-None.result _ c.in_err-bytes-in-None.field-0.0 c.from_residual-in_err-bytes-in-None.ensures.1
    (refused_behind g.L.LoggedValues.leads g.L.LoggedValues.refuses g.L.LoggedValues.more_leads g.L.LoggedValues.more_refuses
    c.args.log.now c.prove_value.new.log c.prove_absence.new.log c.in_err-bytes-in-None.field-0.0 c.in_ok-found.ensures.leads
    c.in_err-bytes-in-None.ensures.refused)
