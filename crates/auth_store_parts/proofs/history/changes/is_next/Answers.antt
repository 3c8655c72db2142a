use Rattle.std.proofs.Common.{refl}
use Rattle.auth_store_parts.specs.Laws.Entries.{bytes_eq-cmp}
use Rattle.auth_store_parts.proofs.history.changes.is_next.Goals as goal

pub returns : goal.returns
returns g c = bytes_eq-cmp g.K.Write.encoding g.K.Ord.cmp g.met.K.FixedKey.in_order c.next_of.result.now c.args.next.now _ _
    c.cmp.result c.is_eq.result c.next_of.ensures refl c.cmp.ensures c.is_eq.ensures
