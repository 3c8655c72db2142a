use Rattle.std.proofs.Common.{rules, ◌≡◌, ◌∷◌, true, false}
use Rattle.paged_blob_parts.specs.Calls.{resized_to}
use Rattle.auth_store_device.specs.Records.{calls_of}
use Rattle.auth_store_device.specs.Devices.{told_of}
use Rattle.auth_store_device.proofs.Changes.{resize_made, resize_failed}
use Rattle.auth_store_device.proofs.Numbers.{resize_next}
use Rattle.auth_store_device.specs.declared.log.Told.TheVariants.{Made, Failed}
use Rattle.auth_store_device.proofs.log.resize_log.Goals as goal

pub returns-in-Made-clause-stands : goal.returns-in-Made-clause-stands
returns-in-Made-clause-stands g c =
    let told : told_of c.resize.result ≡ Made = search rules in
    let recorded : calls_of c.note_resize.new.self ≡ resized_to c.args.len true ∷ calls_of c.args.record_kept.now =
    search rules in
    resize_made g.R.Rng.stream c.args.log.now c.resize.new.self c.args.len c.args.storage.now c.resize.new.storage c.resize.result
    (calls_of c.args.record_kept.now) (calls_of c.note_resize.new.self) (search rules) told recorded c.requires.stands

pub returns-in-Failed-clause-stands : goal.returns-in-Failed-clause-stands
returns-in-Failed-clause-stands g c =
    let told : told_of c.resize.result ≡ Failed = search rules in
    let recorded : calls_of c.note_resize-in-Failed.new.self ≡ resized_to c.args.len false ∷ calls_of c.args.record_kept.now =
    search rules in
    resize_failed g.R.Rng.stream c.args.log.now c.resize.new.self c.args.len c.args.storage.now c.resize.new.storage c.resize.result
    (calls_of c.args.record_kept.now) (calls_of c.note_resize-in-Failed.new.self) (search rules) told recorded c.requires.stands

pub returns-in-Made-clause-count : goal.returns-in-Made-clause-count
returns-in-Made-clause-count g c =
    let same : c.resize.new.storage.inner.next ≡ c.args.storage.now.inner.next =
    resize_next g.R.Rng.stream c.args.log.now c.resize.new.self c.args.len c.args.storage.now c.resize.new.storage
    c.resize.result (search rules)
    in search (rules, same)

pub returns-in-Failed-clause-count : goal.returns-in-Failed-clause-count
returns-in-Failed-clause-count g c =
    let same : c.resize.new.storage.inner.next ≡ c.args.storage.now.inner.next =
    resize_next g.R.Rng.stream c.args.log.now c.resize.new.self c.args.len c.args.storage.now c.resize.new.storage
    c.resize.result (search rules)
    in search (rules, same)

pub returns-in-Ended-clause-count : goal.returns-in-Ended-clause-count
returns-in-Ended-clause-count g c =
    let same : c.resize.new.storage.inner.next ≡ c.args.storage.now.inner.next =
    resize_next g.R.Rng.stream c.args.log.now c.resize.new.self c.args.len c.args.storage.now c.resize.new.storage
    c.resize.result (search rules)
    in search (rules, same)

pub returns-in-Unmade-clause-count : goal.returns-in-Unmade-clause-count
returns-in-Unmade-clause-count g c =
    let same : c.resize.new.storage.inner.next ≡ c.args.storage.now.inner.next =
    resize_next g.R.Rng.stream c.args.log.now c.resize.new.self c.args.len c.args.storage.now c.resize.new.storage
    c.resize.result (search rules)
    in search (rules, same)
