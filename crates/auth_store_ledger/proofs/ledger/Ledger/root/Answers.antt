use Rattle.std.proofs.Common.{ℕ, ◌∙◌, ap, List}
use Rattle.state_ops.specs.Operation.{Operation}
use Rattle.state_theory.specs.Canonical.{Setting, canonical_root}
use Rattle.auth_store_log.specs.Records.{Format, format_of}
use Rattle.auth_store_ledger.specs.Store.{grafting_height, setting_of_width, state_of_log}
use Rattle.auth_store_ledger.proofs.Seen.{inside}
use Rattle.auth_store_ledger.proofs.ledger.Ledger.root.Goals as goal

pub returns : goal.returns
returns g c log of =
    let key : ℕ = g.K.FixedSize.SIZE in
    let value : ℕ = g.V.FixedSize.SIZE in
    let setting : Setting = setting_of_width g.F.Family.merge_rule g.H.HashFunction.hash_of g.row.N in
    let format : Format = format_of (g.K.Read.after tt) (g.V.Read.after tt) key value in
    let keeps = (inside setting format log c.self.inside.places c.self.inside.commits c.self.inside.current c.args.self.now c.self.view_is of).keeps in
    c.root.ensures (grafting_height g.row.N) (state_of_log key value log) keeps.current.stands
    ∙ ap (λ (l : List Operation). canonical_root setting (state_of_log key value l)) keeps.whole
