use Rattle.std.proofs.Common.{ℕ, List, Option, map, option_map, arith}
use Rattle.std.proofs.lemmas.List.{length-map}
use Rattle.state_theory.specs.Canonical.{Setting}
use Rattle.state_ops.specs.Operation.{Operation, meaning_of}
use Rattle.auth_store_ledger.specs.Batch as words
use Rattle.auth_store_ledger.specs.Store.{setting_of_width}
use Rattle.auth_store_ledger.proofs.Refused.{uncommitted_read, uncommitted_refused}
use Rattle.auth_store_ledger.proofs.Stores.{next_length}
use Rattle.auth_store_ledger.proofs.ledger.Ledger.commit.Goals as goal

pub returns-in_err-changes-clause-refused : goal.returns-in_err-changes-clause-refused
returns-in_err-changes-clause-refused g c =
    uncommitted_read c.from_residual.result _ _ _ c.in_err-changes.field-0.0 c.from_residual.ensures.1
    c.in_err-changes.ensures.refused

pub returns-in_err-bytes-clause-refused : goal.returns-in_err-bytes-clause-refused
returns-in_err-bytes-clause-refused g c =
    let key_size : ℕ = g.K.FixedSize.SIZE in
    let value_size : ℕ = g.V.FixedSize.SIZE in
    let setting : Setting = setting_of_width g.F.Family.merge_rule g.H.HashFunction.hash_of g.row.N in
    let log : List Operation = g.L.LoggedValues.log c.args.log.now in
    let means = meaning_of g.K.Write.encoding g.V.Write.encoding in
    let said = words.meanings g.K.Write.encoding g.V.Write.encoding c.args.batch.words.items in
    let noted : Option (List ℕ) = option_map g.V.Write.encoding c.args.metadata in
    let changes : List Operation = map means c.in_ok-changes.changes.items in
    let keeps = c.requires.of.keeps in
    let long = next_length setting key_size value_size said noted log changes _ _ keeps c.in_ok-changes.ensures.what in
    uncommitted_refused c.from_residual-in_err-bytes.result _ _ _ c.in_err-bytes.field-0.0 _ c.from_residual-in_err-bytes.ensures.1
    c.in_ok-changes.ensures.leads (omega (arith, long, keeps.current.leaves, length-map c.in_ok-changes.changes.items means))
    c.in_err-bytes.ensures.refused

pub returns-clause-ok : goal.returns-clause-ok
returns-clause-ok g c =
    c.in_ok-bytes.ensures.ok (g.L.LoggedValues.log c.args.log.now)
    (words.meanings g.K.Write.encoding g.V.Write.encoding c.args.batch.words.items) c.requires.of c.in_ok-changes.ensures.what

pub returns-clause-bytes : goal.returns-clause-bytes
returns-clause-bytes g c =
    c.in_ok-bytes.ensures.bytes (g.L.LoggedValues.log c.args.log.now)
    (words.meanings g.K.Write.encoding g.V.Write.encoding c.args.batch.words.items) c.requires.of c.in_ok-changes.ensures.what
