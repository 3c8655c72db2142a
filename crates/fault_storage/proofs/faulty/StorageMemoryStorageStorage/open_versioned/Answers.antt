use Rattle.std.proofs.Common.{rules}
use Rattle.fault_storage.proofs.Opening.{call_opened, call_refused}
use Rattle.fault_storage.proofs.faulty.StorageMemoryStorageStorage.open_versioned.Goals as goal

pub returns-in-Ok : goal.returns-in-Ok
returns-in-Ok g c =
    call_opened g.R.Rng.stream c.args.self.now.config.open c.args.partition.now c.args.name.now c.args.versions c.args.self.now
    c.open_unless-opened.new.self c.open_unless-opened.new.rng c.open_unless-opened.result (search rules) c.open_unless-opened.ensures c.in-Ok.opened
    c.wrap.result c.in-Ok.is c.wrap.ensures

pub returns-in-Err : goal.returns-in-Err
returns-in-Err g c =
    call_refused g.R.Rng.stream c.args.self.now.config.open c.args.partition.now c.args.name.now c.args.versions c.args.self.now
    c.open_unless-opened.new.self c.open_unless-opened.new.rng c.open_unless-opened.result (search rules) c.open_unless-opened.ensures c.in-Err.e
    c.in-Err.is (λ injected is. search (rules, is))
