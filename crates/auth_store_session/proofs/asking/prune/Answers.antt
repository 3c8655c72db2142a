use Rattle.std.proofs.Common.{◌+◌, Some, ap, subst, sym}
use Rattle.std.specs.Prelude.{Ok, Err}
use Rattle.auth_store_log.specs.Records.{format_of}
use Rattle.auth_store_machine.specs.Machine.{machine, Leaves}
use Rattle.auth_store_machine.specs.Standing.{power_of}
use Rattle.auth_store_machine.specs.Stores.{StoreState}
use Rattle.auth_store_session.proofs.Steps.{prunes_in}
use Rattle.auth_store_machine.proofs.Powers.{leaves_same, leaves_unpruned, same_grows}
use Rattle.auth_store_session.proofs.asking.prune.Goals as goal

pub returns-in-Ok-clause-steps : goal.returns-in-Ok-clause-steps
returns-in-Ok-clause-steps g c = (
  leaves_same c.args.store.now.device c.prune.new.self.device c.args.store.now.cache c.prune.new.self.cache
      (ap (λ (s : StoreState g.row.R.Denot). power_of s.device s.cache) c.in-Ok.ensures.rest),
  prunes_in
      (machine g.F.Family.merge_rule g.H.HashFunction.hash_of g.F.PendingOf.pending_encoding g.row.N g.K.FixedSize.SIZE g.V.FixedSize.SIZE
      (c.args.store.now.cache.page_size + 12))
      (format_of (g.K.Read.after (tt {0})) (g.V.Read.after (tt {0})) g.K.FixedSize.SIZE g.V.FixedSize.SIZE) c.args.location
      c.args.store.now c.prune.new.self (Ok c.in-Ok.chunks) c.in-Ok.ensures.rest c.in-Ok.ensures.ok c.in-Ok.ensures.past
      c.in-Ok.ensures.kept c.in-Ok.ensures.failed,
)

pub returns-in-Err-clause-steps : goal.returns-in-Err-clause-steps
returns-in-Err-clause-steps g c = (
  subst (λ (s : StoreState g.row.R.Denot). Leaves 0 (Some c.in-Err.error) (power_of c.args.store.now.device c.args.store.now.cache)
      (power_of s.device s.cache)) (sym c.in-Err.ensures.kept)
      (leaves_unpruned c.in-Err.error c.args.store.now.device c.args.store.now.cache c.in-Err.ensures.err),
  prunes_in
      (machine g.F.Family.merge_rule g.H.HashFunction.hash_of g.F.PendingOf.pending_encoding g.row.N g.K.FixedSize.SIZE g.V.FixedSize.SIZE
      (c.args.store.now.cache.page_size + 12))
      (format_of (g.K.Read.after (tt {0})) (g.V.Read.after (tt {0})) g.K.FixedSize.SIZE g.V.FixedSize.SIZE) c.args.location
      c.args.store.now c.prune.new.self (Err c.in-Err.error) c.in-Err.ensures.rest c.in-Err.ensures.ok c.in-Err.ensures.past
      c.in-Err.ensures.kept c.in-Err.ensures.failed,
)

pub returns-in-Ok-clause-grows : goal.returns-in-Ok-clause-grows
returns-in-Ok-clause-grows g c =
    same_grows _ _ (ap (λ (s : StoreState g.row.R.Denot). s.device.calls) c.in-Ok.ensures.rest)

pub returns-in-Err-clause-grows : goal.returns-in-Err-clause-grows
returns-in-Err-clause-grows g c =
    same_grows _ _ (ap (λ (s : StoreState g.row.R.Denot). s.device.calls) c.in-Err.ensures.kept)
