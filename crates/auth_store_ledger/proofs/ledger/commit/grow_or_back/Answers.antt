use Rattle.std.proofs.Common.{arith}
use Rattle.auth_store_ledger.proofs.ledger.commit.grow_or_back.Goals as goal

pub grow_by-requires : goal.grow_by-requires
grow_by-requires g c = (omega arith, (c.requires.room.few, (c.requires.room.paired, c.requires.room.there)))

pub returns-in-Ok-clause-stands : goal.returns-in-Ok-clause-stands
returns-in-Ok-clause-stands g c state stands = c.in-Ok.ensures.stands state stands
