use Rattle.std.proofs.Common.{None, ◌+◌, refl, length}
use Rattle.std.specs.Prelude.{Ok, Err}
use Rattle.auth_store_log.specs.Records.{format_of}
use Rattle.auth_store_machine.specs.Machine.{machine, ask_commits, commits_are}
use Rattle.auth_store_machine.proofs.Powers.{leaves_none, leaves_failed}
use Rattle.auth_store_session.proofs.Steps.{tells_in}
use Rattle.auth_store_session.proofs.asking.commits.Goals as goal

pub returns-in-Ok-clause-steps : goal.returns-in-Ok-clause-steps
returns-in-Ok-clause-steps g c = (
  leaves_none None c.args.store.now.device c.args.store.now.cache refl refl,
  tells_in
      (machine g.F.Family.merge_rule g.H.HashFunction.hash_of g.F.PendingOf.pending_encoding g.row.N g.K.FixedSize.SIZE g.V.FixedSize.SIZE
      (c.args.store.now.cache.page_size + 12))
      (format_of (g.K.Read.after (tt {0})) (g.V.Read.after (tt {0})) g.K.FixedSize.SIZE g.V.FixedSize.SIZE) c.args.store.now ask_commits commits_are
      length (Ok c.in-Ok.count) c.in-Ok.ensures.count c.in-Ok.ensures.failed (λ power history pruned answer is. (is, refl, refl))
      (λ power history commit answer is. (is, refl, refl)),
)

pub returns-in-Err-clause-steps : goal.returns-in-Err-clause-steps
returns-in-Err-clause-steps g c = (
  leaves_failed c.in-Err.error c.args.store.now.device c.args.store.now.cache c.in-Err.ensures.err,
  tells_in
      (machine g.F.Family.merge_rule g.H.HashFunction.hash_of g.F.PendingOf.pending_encoding g.row.N g.K.FixedSize.SIZE g.V.FixedSize.SIZE
      (c.args.store.now.cache.page_size + 12))
      (format_of (g.K.Read.after (tt {0})) (g.V.Read.after (tt {0})) g.K.FixedSize.SIZE g.V.FixedSize.SIZE) c.args.store.now ask_commits commits_are
      length (Err c.in-Err.error) c.in-Err.ensures.count c.in-Err.ensures.failed (λ power history pruned answer is. (is, refl, refl))
      (λ power history commit answer is. (is, refl, refl)),
)
