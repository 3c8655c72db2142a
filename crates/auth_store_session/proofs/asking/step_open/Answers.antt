use Rattle.std.proofs.Common.{◌+◌}
use Rattle.paged_blob_parts.specs.Moments.{here}
use Rattle.auth_store_log.specs.Records.{format_of}
use Rattle.auth_store_machine.specs.Machine.{machine}
use Rattle.auth_store_session.proofs.Steps.{still_open_in}
use Rattle.auth_store_session.proofs.asking.step_open.Goals as goal

pub returns-in-Open-clause-grows : goal.returns-in-Open-clause-grows
returns-in-Open-clause-grows g c = here tt

pub returns-in-Root-clause-grows : goal.returns-in-Root-clause-grows
returns-in-Root-clause-grows g c = here tt

pub returns-in-Commits-clause-grows : goal.returns-in-Commits-clause-grows
returns-in-Commits-clause-grows g c = here tt

pub returns-in-Floor-clause-grows : goal.returns-in-Floor-clause-grows
returns-in-Floor-clause-grows g c = here tt

pub returns-in-Len-clause-grows : goal.returns-in-Len-clause-grows
returns-in-Len-clause-grows g c = here tt

pub returns-in-Commit-clause-steps : goal.returns-in-Commit-clause-steps
returns-in-Commit-clause-steps g c = rw c.in-Commit.is (λ left. c.commit.ensures.steps)

pub returns-in-Config-clause-steps : goal.returns-in-Config-clause-steps
returns-in-Config-clause-steps g c = rw (c.in-Config.is, c.configure.ensures.set) (λ left. c.configure.ensures.steps)

pub returns-in-Open-clause-steps : goal.returns-in-Open-clause-steps
returns-in-Open-clause-steps g c = λ left. still_open_in
    (machine g.F.Family.merge_rule g.H.HashFunction.hash_of g.F.PendingOf.pending_encoding g.row.N g.K.FixedSize.SIZE g.V.FixedSize.SIZE
    (c.args.store.now.cache.page_size + 12))
    (format_of (g.K.Read.after (tt {0})) (g.V.Read.after (tt {0})) g.K.FixedSize.SIZE g.V.FixedSize.SIZE) g.K.Write.encoding
    g.V.Write.encoding c.args.step c.args.store.now c.in-Open.is left

pub returns-in-Root-clause-steps : goal.returns-in-Root-clause-steps
returns-in-Root-clause-steps g c = rw c.in-Root.is (λ left. c.root.ensures.steps)

pub returns-in-Commits-clause-steps : goal.returns-in-Commits-clause-steps
returns-in-Commits-clause-steps g c = rw c.in-Commits.is (λ left. c.commits.ensures.steps)

pub returns-in-Floor-clause-steps : goal.returns-in-Floor-clause-steps
returns-in-Floor-clause-steps g c = rw c.in-Floor.is (λ left. c.floor.ensures.steps)

pub returns-in-Len-clause-steps : goal.returns-in-Len-clause-steps
returns-in-Len-clause-steps g c = rw c.in-Len.is (λ left. c.len.ensures.steps)

pub returns-in-Prune-clause-steps : goal.returns-in-Prune-clause-steps
returns-in-Prune-clause-steps g c = rw c.in-Prune.is (λ left. c.prune.ensures.steps)

pub returns-in-ProveKey-clause-steps : goal.returns-in-ProveKey-clause-steps
returns-in-ProveKey-clause-steps g c = rw c.in-ProveKey.is (λ left. c.prove.ensures.steps)

pub returns-in-ProveOperation-clause-steps : goal.returns-in-ProveOperation-clause-steps
returns-in-ProveOperation-clause-steps g c = rw c.in-ProveOperation.is (λ left. c.prove_operation.ensures.steps)

pub returns-in-ProveRange-clause-steps : goal.returns-in-ProveRange-clause-steps
returns-in-ProveRange-clause-steps g c = rw c.in-ProveRange.is (λ left. c.prove_range.ensures.steps)

pub returns-in-ProveLog-clause-steps : goal.returns-in-ProveLog-clause-steps
returns-in-ProveLog-clause-steps g c = rw c.in-ProveLog.is (λ left. c.prove_log.ensures.steps)

pub returns-in-CutAfter-clause-steps : goal.returns-in-CutAfter-clause-steps
returns-in-CutAfter-clause-steps g c = rw (c.in-CutAfter.is, c.cut.ensures.set) (λ left. c.cut.ensures.steps)
