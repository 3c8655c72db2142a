use Rattle.std.proofs.Common.{◌+◌}
use Rattle.std.specs.Prelude.{Ok, Err}
use Rattle.auth_store_log.specs.Records.{format_of}
use Rattle.auth_store_machine.specs.Machine.{machine, slice_is, of_slice}
use Rattle.auth_store_proving.specs.ProvingCode.{slice_answer_of}
use Rattle.auth_store_machine.proofs.Powers.{same_grows}
use Rattle.auth_store_session.proofs.Steps.{proves_in}
use Rattle.auth_store_session.proofs.asking.prove_log.Goals as goal

pub returns-in-Ok-clause-steps : goal.returns-in-Ok-clause-steps
returns-in-Ok-clause-steps g c = (
  c.in-Ok.ensures.leaves,
  proves_in
      (machine g.F.Family.merge_rule g.H.HashFunction.hash_of g.F.PendingOf.pending_encoding g.row.N g.K.FixedSize.SIZE g.V.FixedSize.SIZE
      (c.args.store.now.cache.page_size + 12))
      (format_of (g.K.Read.after (tt {0})) (g.V.Read.after (tt {0})) g.K.FixedSize.SIZE g.V.FixedSize.SIZE)
      (λ proved. slice_is (slice_answer_of g.K.Write.encoding g.V.Write.encoding proved)) (of_slice c.args.start c.args.stop)
      c.args.store.now c.prove_log.new.self (Ok c.in-Ok.proved)
      c.in-Ok.ensures.proof c.in-Ok.ensures.stays c.in-Ok.ensures.pruned c.in-Ok.ensures.calls c.in-Ok.ensures.failed,
)

pub returns-in-Err-clause-steps : goal.returns-in-Err-clause-steps
returns-in-Err-clause-steps g c = (
  c.in-Err.ensures.leaves,
  proves_in
      (machine g.F.Family.merge_rule g.H.HashFunction.hash_of g.F.PendingOf.pending_encoding g.row.N g.K.FixedSize.SIZE g.V.FixedSize.SIZE
      (c.args.store.now.cache.page_size + 12))
      (format_of (g.K.Read.after (tt {0})) (g.V.Read.after (tt {0})) g.K.FixedSize.SIZE g.V.FixedSize.SIZE)
      (λ proved. slice_is (slice_answer_of g.K.Write.encoding g.V.Write.encoding proved)) (of_slice c.args.start c.args.stop)
      c.args.store.now c.prove_log.new.self (Err c.in-Err.error)
      c.in-Err.ensures.proof c.in-Err.ensures.stays c.in-Err.ensures.pruned c.in-Err.ensures.calls c.in-Err.ensures.failed,
)

pub returns-in-Ok-clause-grows : goal.returns-in-Ok-clause-grows
returns-in-Ok-clause-grows g c = same_grows _ _ c.in-Ok.ensures.calls

pub returns-in-Err-clause-grows : goal.returns-in-Err-clause-grows
returns-in-Err-clause-grows g c = same_grows _ _ c.in-Err.ensures.calls
