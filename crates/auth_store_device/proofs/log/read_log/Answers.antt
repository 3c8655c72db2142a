use Rattle.std.proofs.Common.{rules, subst, sym}
use Rattle.paged_blob_parts.specs.Answers.{IsReadCause}
use Rattle.auth_store_device.proofs.Changes.{read_slice, read_cause}
use Rattle.auth_store_device.proofs.log.read_log.Goals as goal

pub returns-in-Ok-clause-slice : goal.returns-in-Ok-clause-slice
returns-in-Ok-clause-slice g c = λ file o.
    read_slice g.R.Rng.stream c.args.storage.now.config.read c.args.log.now.inner c.args.offset c.args.len c.args.storage.now c.read_at.new.storage
    c.in-Ok.bytes file
    (search rules) o

pub returns-in-Err-clause-cause : goal.returns-in-Err-clause-cause
returns-in-Err-clause-cause g c = λ file failures o.
    subst (IsReadCause failures file c.args.offset c.args.len) (sym c.refusal_of.ensures)
    (read_cause g.R.Rng.stream c.args.storage.now.config.read c.args.log.now.inner c.args.offset c.args.len c.args.storage.now c.read_at.new.storage
    c.in-Err.e file
    failures c.requires.room (search rules) o)
