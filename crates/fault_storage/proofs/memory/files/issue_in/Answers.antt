use Rattle.std.proofs.Common.{rules, sym}
use Rattle.fault_storage_parts.specs.FilesCode.{mutation_of}
use Rattle.fault_storage.specs.Stores.{has_number, with_issued}
use Rattle.fault_storage.proofs.Places.{written-at, changed-none}
use Rattle.fault_storage.proofs.memory.files.issue_in.Goals as goal

pub returns-in_ok-issue-clause-ok : goal.returns-in_ok-issue-clause-ok
returns-in_ok-issue-clause-ok c =
    written-at (has_number c.args.number) c.deref.result.now c.args.files.now.items c.in-Some.place c.index_mut.result.now
    (with_issued (mutation_of c.args.mutation)) c.issue.new.self
    c.deref.ensures.value c.in-Some.ensures c.index_mut.ensures.value c.in_ok-issue.ensures.ok

pub returns-in_default-clause-ok : goal.returns-in_default-clause-ok
returns-in_default-clause-ok c =
    sym (changed-none (has_number c.args.number) (with_issued (mutation_of c.args.mutation)) c.args.files.now.items (search rules))
