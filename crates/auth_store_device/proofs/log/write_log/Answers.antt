use Rattle.std.proofs.Common.{rules, ◌≡◌, ◌∷◌, true, false}
use Rattle.paged_blob_parts.specs.Calls.{wrote}
use Rattle.auth_store_device.specs.Records.{calls_of}
use Rattle.paged_blob_parts.specs.WriteModes.{is_sync, place_of}
use Rattle.auth_store_device.specs.Devices.{told_of, mode_below}
use Rattle.auth_store_device.proofs.Changes.{write_made, write_failed}
use Rattle.auth_store_device.proofs.Numbers.{write_next}
use Rattle.auth_store_device.specs.declared.log.Told.TheVariants.{Made, Failed}
use Rattle.auth_store_device.proofs.log.write_log.Goals as goal

pub returns-in-Made-clause-stands : goal.returns-in-Made-clause-stands
returns-in-Made-clause-stands g c =
    let told : told_of c.write_at.result ≡ Made = search rules in
    let recorded : calls_of c.note_write.new.self ≡ wrote (place_of c.args.mode c.args.offset c.args.bytes.now) c.args.bytes.now
    (is_sync c.args.mode) true ∷ calls_of c.args.record_kept.now =
    search rules in
    write_made g.R.Rng.stream c.args.log.now c.write_at.new.self c.args.offset c.args.bytes.now c.args.mode c.args.storage.now c.write_at.new.storage
    c.write_at.result
    (calls_of c.args.record_kept.now) (calls_of c.note_write.new.self) (search rules) told recorded c.requires.stands

pub returns-in-Failed-clause-stands : goal.returns-in-Failed-clause-stands
returns-in-Failed-clause-stands g c =
    let told : told_of c.write_at.result ≡ Failed = search rules in
    let recorded : calls_of c.note_write-in-Failed.new.self ≡ wrote (place_of c.args.mode c.args.offset c.args.bytes.now) c.args.bytes.now
    (is_sync c.args.mode) false ∷ calls_of c.args.record_kept.now =
    search rules in
    write_failed g.R.Rng.stream c.args.log.now c.write_at.new.self c.args.offset c.args.bytes.now c.args.mode c.args.storage.now
    c.write_at.new.storage c.write_at.result
    (calls_of c.args.record_kept.now) (calls_of c.note_write-in-Failed.new.self) (search rules) told recorded c.requires.stands

pub returns-in-Made-clause-count : goal.returns-in-Made-clause-count
returns-in-Made-clause-count g c =
    let same : c.write_at.new.storage.inner.next ≡ c.args.storage.now.inner.next =
    write_next g.R.Rng.stream c.args.log.now c.write_at.new.self c.args.offset c.args.bytes.now (mode_below c.args.mode)
    c.args.storage.now c.write_at.new.storage c.write_at.result (search rules)
    in search (rules, same)

pub returns-in-Failed-clause-count : goal.returns-in-Failed-clause-count
returns-in-Failed-clause-count g c =
    let same : c.write_at.new.storage.inner.next ≡ c.args.storage.now.inner.next =
    write_next g.R.Rng.stream c.args.log.now c.write_at.new.self c.args.offset c.args.bytes.now (mode_below c.args.mode)
    c.args.storage.now c.write_at.new.storage c.write_at.result (search rules)
    in search (rules, same)

pub returns-in-Ended-clause-count : goal.returns-in-Ended-clause-count
returns-in-Ended-clause-count g c =
    let same : c.write_at.new.storage.inner.next ≡ c.args.storage.now.inner.next =
    write_next g.R.Rng.stream c.args.log.now c.write_at.new.self c.args.offset c.args.bytes.now (mode_below c.args.mode)
    c.args.storage.now c.write_at.new.storage c.write_at.result (search rules)
    in search (rules, same)

pub returns-in-Unmade-clause-count : goal.returns-in-Unmade-clause-count
returns-in-Unmade-clause-count g c =
    let same : c.write_at.new.storage.inner.next ≡ c.args.storage.now.inner.next =
    write_next g.R.Rng.stream c.args.log.now c.write_at.new.self c.args.offset c.args.bytes.now (mode_below c.args.mode)
    c.args.storage.now c.write_at.new.storage c.write_at.result (search rules)
    in search (rules, same)
