use Rattle.std.proofs.Common.{arith}
use Rattle.auth_store_ledger.specs.Store.{grafting_height}
use Rattle.auth_store_ledger.proofs.ledger.kept.grow_by.Goals as goal

pub grow-requires : goal.grow-requires
grow-requires g c = (omega arith, (c.requires.few, (c.requires.paired, c.requires.there)))

pub returns-in-Ok-clause-stands : goal.returns-in-Ok-clause-stands
returns-in-Ok-clause-stands g c state stands = c.in-Ok.ensures.stands (grafting_height g.row.N) state stands
