use Rattle.std.proofs.Common.{rules, sym}
use Rattle.fault_storage_parts.specs.Revisions.{shortened, file_recast}
use Rattle.fault_storage.specs.Stores.{has_number}
use Rattle.fault_storage.proofs.Places.{written-at, changed-none}
use Rattle.fault_storage.proofs.memory.files.shorten_in.Goals as goal

pub returns-in-Some : goal.returns-in-Some
returns-in-Some c =
    written-at (has_number c.args.number) c.deref.result.now c.args.files.now.items c.in-Some.place c.index_mut.result.now
    (file_recast (shortened c.args.size)) c.shorten_last.new.self
    c.deref.ensures.value c.in-Some.ensures c.index_mut.ensures.value c.shorten_last.ensures

pub returns-in_default : goal.returns-in_default
returns-in_default c =
    sym (changed-none (has_number c.args.number) (file_recast (shortened c.args.size)) c.args.files.now.items (search rules))
