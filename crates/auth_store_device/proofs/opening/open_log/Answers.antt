use Rattle.std.proofs.Common.{rules, ◌≡◌, true, false, cond, Ok, refl, sym, ap, ◌∙◌}
use Rattle.fault_storage.specs.Stores.{published}
use Rattle.fault_storage.specs.Directory.{admitted}
use Rattle.auth_store_device.specs.Devices.{after_admission}
use Rattle.auth_store_device.specs.Logs.{log_partition, log_name, has_log, durable_log}
use Rattle.auth_store_device.proofs.Shown.{found_admitted, found_fine, found_shows, made_shows, refused_header, refused_number}
use Rattle.auth_store_device.proofs.opening.open_log.Goals as goal

pub returns-in-Some-clause-opens : goal.returns-in-Some-clause-opens
returns-in-Some-clause-opens g c =
    let has : has_log c.args.storage.now.inner ≡ true = search rules in
    let copied : c.in-Some.bytes.items ≡ durable_log c.args.storage.now.inner = search rules in
    let left = c.open_versioned.new.self in
    let same : published c.in-Ok.opened.blob.inner.number c.in-Some.bytes.items left.inner
    ≡ after_admission c.args.storage.now.inner (Ok c.in-Ok.opened) left.inner =
    found_admitted g.R.Rng.stream c.args.storage.now.config.open c.args.storage.now left c.in-Ok.opened
    (published c.in-Ok.opened.blob.inner.number c.in-Some.bytes.items left.inner) c.in-Some.bytes.items (search rules) c.requires.orderly has copied refl in
    let is : c.admit_shown.new.self ≡ record left { inner = published c.in-Ok.opened.blob.inner.number c.in-Some.bytes.items left.inner } =
    search rules in
    (Ok c.in-Ok.opened, left, search rules, refl, is ∙ ap (λ s. record left { inner = s }) same)

pub returns-in-None-clause-opens : goal.returns-in-None-clause-opens
returns-in-None-clause-opens g c =
    let none : has_log c.args.storage.now.inner ≡ false = search rules in
    let left = c.open_versioned.new.self in (
      Ok c.in-Ok.opened,
      left,
      search rules,
      refl,
      sym (ap (λ b. record left { inner = cond b (admitted log_partition log_name left.inner) left.inner }) none),
    )

pub returns-in-Some-clause-shows : goal.returns-in-Some-clause-shows
returns-in-Some-clause-shows g c =
    let has : has_log c.args.storage.now.inner ≡ true = search rules in
    let copied : c.in-Some.bytes.items ≡ durable_log c.args.storage.now.inner = search rules in
    let is : c.admit_shown.new.self.inner ≡ published c.in-Ok.opened.blob.inner.number c.in-Some.bytes.items c.open_versioned.new.self.inner = search rules in
    (found_shows g.R.Rng.stream c.args.storage.now.config.open c.args.storage.now c.open_versioned.new.self c.in-Ok.opened c.admit_shown.new.self.inner
    c.in-Some.bytes.items (search rules) c.requires.orderly has copied is).0

pub returns-in-Some-clause-admitted : goal.returns-in-Some-clause-admitted
returns-in-Some-clause-admitted g c =
    let has : has_log c.args.storage.now.inner ≡ true = search rules in
    let copied : c.in-Some.bytes.items ≡ durable_log c.args.storage.now.inner = search rules in
    let is : c.admit_shown.new.self.inner ≡ published c.in-Ok.opened.blob.inner.number c.in-Some.bytes.items c.open_versioned.new.self.inner = search rules in
    (found_shows g.R.Rng.stream c.args.storage.now.config.open c.args.storage.now c.open_versioned.new.self c.in-Ok.opened c.admit_shown.new.self.inner
    c.in-Some.bytes.items (search rules) c.requires.orderly has copied is).1

pub returns-in-None-clause-shows : goal.returns-in-None-clause-shows
returns-in-None-clause-shows g c =
    let none : has_log c.args.storage.now.inner ≡ false = search rules in
    (made_shows g.R.Rng.stream c.args.storage.now.config.open c.args.storage.now c.open_versioned.new.self c.in-Ok.opened
    (search rules) c.requires.orderly none).0

pub returns-in-None-clause-admitted : goal.returns-in-None-clause-admitted
returns-in-None-clause-admitted g c =
    let none : has_log c.args.storage.now.inner ≡ false = search rules in
    (made_shows g.R.Rng.stream c.args.storage.now.config.open c.args.storage.now c.open_versioned.new.self c.in-Ok.opened
    (search rules) c.requires.orderly none).1

pub returns-in-Some-clause-fine : goal.returns-in-Some-clause-fine
returns-in-Some-clause-fine g c =
    let has : has_log c.args.storage.now.inner ≡ true = search rules in
    λ _. found_fine g.R.Rng.stream c.args.storage.now.config.open c.args.storage.now c.open_versioned.new.self c.in-Ok.opened
    (search rules) c.requires.orderly has

pub returns-in-Err-clause-header : goal.returns-in-Err-clause-header
returns-in-Err-clause-header g c = λ fault is.
    refused_header g.R.Rng.stream c.args.storage.now.config.open c.args.storage.now c.open_versioned.new.self c.in-Err.e fault (search rules) (search rules)

pub returns-in-Err-clause-numbers : goal.returns-in-Err-clause-numbers
returns-in-Err-clause-numbers g c = λ is.
    refused_number g.R.Rng.stream c.args.storage.now.config.open c.args.storage.now c.open_versioned.new.self c.in-Err.e (search rules) (search rules)
    c.requires.room
