use Rattle.std.proofs.Common.{ap, sym, [], get_or}
use Rattle.paged_blob_parts.specs.Calls.{content}
use Rattle.auth_store_device.specs.RecordsCode.{call_in}
use Rattle.auth_store_device.proofs.kept.entry_of.Goals as goal

pub returns-in-SyncedWhole-clause-call : goal.returns-in-SyncedWhole-clause-call
returns-in-SyncedWhole-clause-call c = λ past. (content past, ap (call_in c.args.blocks.now past) (sym c.in-SyncedWhole.is))

pub returns-in-SyncedAs-clause-call : goal.returns-in-SyncedAs-clause-call
returns-in-SyncedAs-clause-call c = λ past.
    (get_or c.args.blocks.now.images c.in-SyncedAs.field-0 [], ap (call_in c.args.blocks.now past) (sym c.in-SyncedAs.is))
