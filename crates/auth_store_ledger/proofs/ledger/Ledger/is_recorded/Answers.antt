use Rattle.std.proofs.Common.{ap, sym, subst, length, arith}
use Rattle.auth_store_ledger.specs.History.{history_of}
use Rattle.auth_store_log.specs.Records.{FloorsFit, format_of}
use Rattle.auth_store_ledger.proofs.Written.{all_recorded}
use Rattle.auth_store_ledger.proofs.ledger.Ledger.is_recorded.Goals as goal

pub returns : goal.returns
returns g c log of =
    let keeps = of.keeps in
    all_recorded (format_of (g.K.Read.after tt) (g.V.Read.after tt) g.K.FixedSize.SIZE g.V.FixedSize.SIZE) log of.written
    (subst FloorsFit (sym keeps.whole)
    (c.a_log_has_floors_within.ensures (history_of log) (omega (arith, keeps.few, ap length keeps.whole))))
