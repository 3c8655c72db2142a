use Rattle.std.proofs.Common.{◌+◌, sym, ap, option_map}
use Rattle.std.specs.Prelude.{Ok, Err}
use Rattle.auth_store_log.specs.Records.{format_of}
use Rattle.auth_store_machine.specs.Machine.{machine}
use Rattle.auth_store_parts.specs.Batch as words
use Rattle.auth_store_session.proofs.Steps.{commits_in}
use Rattle.auth_store_session.proofs.asking.commit.Goals as goal

pub returns-in-Ok-clause-steps : goal.returns-in-Ok-clause-steps
returns-in-Ok-clause-steps g c = (
  c.in-Ok.ensures.leaves,
  commits_in
      (machine g.F.Family.merge_rule g.H.HashFunction.hash_of g.F.PendingOf.pending_encoding g.row.N g.K.FixedSize.SIZE g.V.FixedSize.SIZE
      (c.args.store.now.cache.page_size + 12))
      (format_of (g.K.Read.after (tt {0})) (g.V.Read.after (tt {0})) g.K.FixedSize.SIZE g.V.FixedSize.SIZE) g.H.Digest.Write.encoding
      (words.meanings g.K.Write.encoding g.V.Write.encoding c.args.batch.words.items) (option_map g.V.Write.encoding c.args.metadata)
      c.args.store.now c.commit.new.self (Ok c.in-Ok.root) (ap (λ n. n + 12) (sym c.in-Ok.ensures.page_size)) c.in-Ok.ensures.pruned c.in-Ok.ensures.commits
      c.in-Ok.ensures.failed,
)

pub returns-in-Err-clause-steps : goal.returns-in-Err-clause-steps
returns-in-Err-clause-steps g c = (
  c.in-Err.ensures.leaves,
  commits_in
      (machine g.F.Family.merge_rule g.H.HashFunction.hash_of g.F.PendingOf.pending_encoding g.row.N g.K.FixedSize.SIZE g.V.FixedSize.SIZE
      (c.args.store.now.cache.page_size + 12))
      (format_of (g.K.Read.after (tt {0})) (g.V.Read.after (tt {0})) g.K.FixedSize.SIZE g.V.FixedSize.SIZE) g.H.Digest.Write.encoding
      (words.meanings g.K.Write.encoding g.V.Write.encoding c.args.batch.words.items) (option_map g.V.Write.encoding c.args.metadata)
      c.args.store.now c.commit.new.self (Err c.in-Err.error) (ap (λ n. n + 12) (sym c.in-Err.ensures.page_size)) c.in-Err.ensures.pruned
      c.in-Err.ensures.commits
      c.in-Err.ensures.failed,
)
