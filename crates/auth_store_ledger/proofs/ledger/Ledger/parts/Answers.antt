use Rattle.std.proofs.Common.{ap}
use Rattle.state_theory.specs.Canonical.{Setting}
use Rattle.auth_store_log.specs.Records.{Format, format_of}
use Rattle.auth_store_ledger.specs.Store.{LedgerState, setting_of_width}
use Rattle.auth_store_ledger.proofs.Seen.{inside}
use Rattle.auth_store_ledger.proofs.ledger.Ledger.parts.Goals as goal

pub returns-clause-placed : goal.returns-clause-placed
returns-clause-placed g c log of =
    let setting : Setting = setting_of_width g.F.Family.merge_rule g.H.HashFunction.hash_of g.row.N in
    let format : Format = format_of (g.K.Read.after tt) (g.V.Read.after tt) g.K.FixedSize.SIZE g.V.FixedSize.SIZE in
    let here = inside setting format log c.self.inside.places c.self.inside.commits c.self.inside.current c.args.self.now c.self.view_is of in
    record {
      states = here.keeps.states;
      whole = here.keeps.whole;
      stand = here.places;
      current = here.keeps.current;
    }

pub returns-clause-places : goal.returns-clause-places
returns-clause-places g c = ap (λ (s : LedgerState). s.places) c.self.view_is

pub returns-clause-kept : goal.returns-clause-kept
returns-clause-kept g c = ap (λ (s : LedgerState). s.kept) c.self.view_is
