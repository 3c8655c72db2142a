use Rattle.std.proofs.Common.{ℕ, List}
use Rattle.std.proofs.lemmas.Result.{IfOk-weaker}
use Rattle.state_theory.specs.Canonical.{Setting}
use Rattle.state_ops.specs.Operation.{Operation}
use Rattle.auth_store_log.specs.Records.{Format, format_of}
use Rattle.auth_store_ledger.specs.Batch as words
use Rattle.auth_store_ledger.specs.Store.{setting_of_width}
use Rattle.auth_store_ledger.proofs.Seen.{inside}
use Rattle.auth_store_ledger.proofs.ledger.Ledger.changes_in.Goals as goal

pub changes_near-requires : goal.changes_near-requires
changes_near-requires g c =
    let key_size : ℕ = g.K.FixedSize.SIZE in
    let value_size : ℕ = g.V.FixedSize.SIZE in
    let setting : Setting = setting_of_width g.F.Family.merge_rule g.H.HashFunction.hash_of g.row.N in
    let format : Format = format_of (g.K.Read.after tt) (g.V.Read.after tt) key_size value_size in
    let log : List Operation = g.L.LoggedValues.log c.args.log.now in
    let here = inside setting format log c.self.inside.places c.self.inside.commits c.self.inside.current c.args.self.now c.self.view_is c.requires.of in
    record { may = c.requires.may; places = here.places }

pub returns-clause-are : goal.returns-clause-are
returns-clause-are g c =
    IfOk-weaker c.changes_near.result _ _
    (λ changes are. record {
      log = g.L.LoggedValues.log c.args.log.now;
      words = words.meanings g.K.Write.encoding g.V.Write.encoding c.args.batch.now.words.items;
      of = c.requires.of;
      are = are;
    })
    c.changes_near.ensures.what
