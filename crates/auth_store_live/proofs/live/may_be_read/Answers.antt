use Rattle.auth_store_log.specs.Records.{Format, format_of}
use Rattle.auth_store_machine.proofs.Logs.{readable}
use Rattle.auth_store_live.proofs.live.may_be_read.Goals as goal

pub returns-clause-may : goal.returns-clause-may
returns-clause-may g c =
    let format : Format = format_of (g.K.Read.after tt) (g.V.Read.after tt) g.K.FixedSize.SIZE g.V.FixedSize.SIZE in
    readable format _ _ (record { ledger = c.args.ledger.now; writer = c.args.writer.now }) c.requires.live.live _ _ c.requires.opened
    c.requires.cache

pub returns-clause-of : goal.returns-clause-of
returns-clause-of g c = c.requires.live.ledger
