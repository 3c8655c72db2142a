use Rattle.std.proofs.Common.{rules, ◌≡◌, ◌∷◌, ◌∙◌, true}
use Rattle.fault_storage.specs.Stores.{has_number, is_there}
use Rattle.paged_blob_parts.specs.Calls.{synced}
use Rattle.auth_store_device.specs.Records.{calls_of}
use Rattle.auth_store_device.proofs.Numbers.{sync_next}
use Rattle.auth_store_device.specs.declared.log.Told.TheVariants.{Made}
use Rattle.auth_store_device.specs.Devices.{told_of}
use Rattle.auth_store_device.specs.Logs.{behind_header, is_log}
use Rattle.auth_store_device.proofs.Places.{any-first}
use Rattle.auth_store_device.proofs.Changes.{sync_made}
use Rattle.auth_store_device.proofs.log.sync_log.Goals as goal

pub returns-in-Made-clause-stands : goal.returns-in-Made-clause-stands
returns-in-Made-clause-stands g c =
    let told : told_of c.sync.result ≡ Made = search rules in
    let recorded : calls_of c.note_sync.new.self ≡ synced (behind_header c.args.log.now.inner.live) true ∷ calls_of c.args.record_kept.now =
    search rules in
    sync_made g.R.Rng.stream c.args.storage.now.config.sync c.args.log.now.inner c.args.storage.now c.sync.new.storage c.sync.result
    (calls_of c.args.record_kept.now) (calls_of c.note_sync.new.self) c.sync.ensures told recorded c.requires.stands

pub returns-in-Unmade-clause-passes : goal.returns-in-Unmade-clause-passes
returns-in-Unmade-clause-passes g c =
    let opened = c.requires.stands.opened in
    let there : is_there c.args.log.now.inner.number c.args.storage.now.inner ≡ true =
    any-first (has_number c.args.log.now.inner.number) is_log c.args.storage.now.inner.files opened.first ∙ opened.there in
    search rules

pub returns-in-Made-clause-count : goal.returns-in-Made-clause-count
returns-in-Made-clause-count g c =
    let same : c.sync.new.storage.inner.next ≡ c.args.storage.now.inner.next =
    sync_next g.R.Rng.stream c.args.storage.now.config.sync c.args.log.now.inner c.args.storage.now c.sync.new.storage
    c.sync.result c.sync.ensures
    in search (rules, same)

pub returns-in-Failed-clause-count : goal.returns-in-Failed-clause-count
returns-in-Failed-clause-count g c =
    let same : c.sync.new.storage.inner.next ≡ c.args.storage.now.inner.next =
    sync_next g.R.Rng.stream c.args.storage.now.config.sync c.args.log.now.inner c.args.storage.now c.sync.new.storage
    c.sync.result c.sync.ensures
    in search (rules, same)

pub returns-in-Ended-clause-count : goal.returns-in-Ended-clause-count
returns-in-Ended-clause-count g c =
    let same : c.sync.new.storage.inner.next ≡ c.args.storage.now.inner.next =
    sync_next g.R.Rng.stream c.args.storage.now.config.sync c.args.log.now.inner c.args.storage.now c.sync.new.storage
    c.sync.result c.sync.ensures
    in search (rules, same)

pub returns-in-Unmade-clause-count : goal.returns-in-Unmade-clause-count
returns-in-Unmade-clause-count g c =
    let same : c.sync.new.storage.inner.next ≡ c.args.storage.now.inner.next =
    sync_next g.R.Rng.stream c.args.storage.now.config.sync c.args.log.now.inner c.args.storage.now c.sync.new.storage
    c.sync.result c.sync.ensures
    in search (rules, same)
