use Rattle.std.proofs.Common.{ap, sym, ◌+◌}
use Rattle.std.specs.Prelude.{Ok, Err}
use Rattle.auth_store_log.specs.Records.{format_of}
use Rattle.auth_store_machine.specs.Machine.{Machine, Question, machine, key_is, of_key, proof_of}
use Rattle.auth_store_machine.specs.Standing.{power_of}
use Rattle.auth_store_proving.specs.ProvingCode.{key_answer_of}
use Rattle.auth_store_machine.proofs.Powers.{same_grows}
use Rattle.auth_store_session.proofs.Steps.{proves_in, refused_read}
use Rattle.auth_store_session.proofs.asking.prove.Goals as goal

pub returns-in-Ok-clause-steps : goal.returns-in-Ok-clause-steps
returns-in-Ok-clause-steps g c = (
  c.in-Ok.ensures.leaves,
  proves_in
      (machine g.F.Family.merge_rule g.H.HashFunction.hash_of g.F.PendingOf.pending_encoding g.row.N g.K.FixedSize.SIZE g.V.FixedSize.SIZE
      (c.args.store.now.cache.page_size + 12))
      (format_of (g.K.Read.after (tt {0})) (g.V.Read.after (tt {0})) g.K.FixedSize.SIZE g.V.FixedSize.SIZE)
      (λ found. key_is (key_answer_of g.V.Write.encoding found)) (of_key (g.K.Write.encoding c.args.key.now))
      c.args.store.now c.prove_key.new.self (Ok c.in-Ok.found)
      (λ history live. ap (λ answer. Ok (key_is answer)) (sym (c.in-Ok.ensures.proof history live))) c.in-Ok.ensures.stays
      c.in-Ok.ensures.pruned c.in-Ok.ensures.calls c.in-Ok.ensures.failed,
)

pub returns-in-Err-clause-steps : goal.returns-in-Err-clause-steps
returns-in-Err-clause-steps g c =
    let m : Machine = machine g.F.Family.merge_rule g.H.HashFunction.hash_of g.F.PendingOf.pending_encoding g.row.N g.K.FixedSize.SIZE
    g.V.FixedSize.SIZE (c.args.store.now.cache.page_size + 12) in
    let old = c.args.store.now in
    let new = c.prove_key.new.self in
    let question : Question = of_key (g.K.Write.encoding c.args.key.now) in (
      c.in-Err.ensures.leaves,
      proves_in m (format_of (g.K.Read.after (tt {0})) (g.V.Read.after (tt {0})) g.K.FixedSize.SIZE g.V.FixedSize.SIZE)
          (λ found. key_is (key_answer_of g.V.Write.encoding found)) question old new (Err c.in-Err.error)
          (λ history live. refused_read (power_of old.device old.cache) (power_of new.device new.cache)
          (λ found. key_is (key_answer_of g.V.Write.encoding found)) (proof_of m history old.pruned question) c.in-Err.error
          (c.in-Err.ensures.refused history live)) c.in-Err.ensures.stays c.in-Err.ensures.pruned c.in-Err.ensures.calls c.in-Err.ensures.failed,
    )

pub returns-in-Ok-clause-grows : goal.returns-in-Ok-clause-grows
returns-in-Ok-clause-grows g c = same_grows _ _ c.in-Ok.ensures.calls

pub returns-in-Err-clause-grows : goal.returns-in-Err-clause-grows
returns-in-Err-clause-grows g c = same_grows _ _ c.in-Err.ensures.calls
