use Rattle.std.proofs.Common.{◌≡◌, ◌∙◌, ◌+◌, OnErr, ap, refl, sym, subst, option_map, List}
use Rattle.paged_blob_parts.specs.Caches.{Cache}
use Rattle.paged_blob.specs.Completed.{completed_syncs}
use Rattle.auth_store_parts.specs.Batch as words
use Rattle.auth_store_parts.specs.Batch.{Word}
use Rattle.auth_store_parts.specs.History.{History}
use Rattle.auth_store_log.specs.Records.{Format, format_of}
use Rattle.auth_store_machine.specs.Machine.{Leaves, Machine, machine, refusal_of}
use Rattle.auth_store_machine.specs.Reads.{LiveParts, seen_on}
use Rattle.auth_store_machine.specs.Standing.{Commits, power_of, result_of}
use Rattle.auth_store_machine.specs.Stores.{StoreState, IsLiveAt}
use Rattle.auth_store_machine.proofs.Lives.{no_parts}
use Rattle.auth_store_machine.proofs.OnDevice.{commits_on_device, same_store, store_of}
use Rattle.auth_store_machine.proofs.Powers.{leaves_named}
use Rattle.auth_store_machine.proofs.Pruned.{grown_pruned}
use Rattle.auth_store_session.proofs.store.Store.commit.Goals as goal

pub invariant_of-self : goal.invariant_of-self
invariant_of-self g c = (
  c.self.invariant.0,
  c.commit_live-answer.ensures.open,
  c.commit_live-answer.ensures.cache,
  c.commit_live-answer.ensures.live,
  grown_pruned (λ (now : LiveParts). now.ledger.kept.bits.pruned) c.self.inside.live c.commit_live-answer.new.store
      c.self.inside.pruned c.commit_live-answer.ensures.pruned (λ none. (c.commit_live-answer.ensures.failed none).1)
      c.self.invariant.4,
)

pub returns-clause-commits : goal.returns-clause-commits
returns-clause-commits g c =
    let format : Format = format_of (g.K.Read.after tt) (g.V.Read.after tt) g.K.FixedSize.SIZE g.V.FixedSize.SIZE in
    let said : List Word = words.meanings g.K.Write.encoding g.V.Write.encoding c.args.batch.words.items in
    let noted = option_map g.V.Write.encoding c.args.metadata in
    let m : Cache → Machine = λ k. machine g.F.Family.merge_rule g.H.HashFunction.hash_of
    g.F.PendingOf.pending_encoding g.row.N
    g.K.FixedSize.SIZE g.V.FixedSize.SIZE (k.page_size + 12) in
    let new : StoreState g.row.R.Denot = store_of c.commit_live-answer.new.blob c.commit_live-answer.new.cache
    (seen_on format c.commit_live-answer.new.blob.calls c.commit_live-answer.new.store) c.self.inside.pruned in
    let old : StoreState g.row.R.Denot = store_of c.self.inside.device c.self.inside.cache
    (seen_on format c.self.inside.device.calls c.self.inside.live) c.self.inside.pruned in
    subst (λ (s : StoreState g.row.R.Denot). (history : History) → IsLiveAt s history
    → Commits (m s.cache) format said noted history s
    (result_of g.H.Digest.Write.encoding c.commit_live-answer.result) new) c.self.view_is
    (λ history live. commits_on_device (m old.cache) format refl refl said noted old new g.H.Digest.Write.encoding
    c.commit_live-answer.result
    history c.refuses_only_under_a_cut.ensures c.commit_live-answer.ensures.commits live)

pub returns-clause-failed : goal.returns-clause-failed
returns-clause-failed g c = λ none.
    let format : Format = format_of (g.K.Read.after tt) (g.V.Read.after tt) g.K.FixedSize.SIZE g.V.FixedSize.SIZE in
    let calls = c.self.inside.device.calls in
    let was = no_parts format calls c.self.inside.live
    (ap (λ (s : StoreState g.row.R.Denot). s.live) c.self.view_is ∙ none) in
    let all = c.commit_live-answer.ensures.failed was in (
      all.0,
      same_store c.commit_live-answer.new.blob c.self.inside.device c.commit_live-answer.new.cache c.self.inside.cache
          (seen_on format c.commit_live-answer.new.blob.calls c.commit_live-answer.new.store)
          (seen_on format calls c.self.inside.live)
          c.self.inside.pruned all.2 all.3
          (ap (seen_on format c.commit_live-answer.new.blob.calls) all.1 ∙ sym (ap (seen_on format calls) was))
          ∙ c.self.view_is,
    )

pub returns-clause-leaves : goal.returns-clause-leaves
returns-clause-leaves g c =
    let new = c.commit_live-answer.new.blob in
    let now = c.commit_live-answer.new.cache in
    let refusal = refusal_of c.commit_live-answer.result in
    subst (λ (s : StoreState g.row.R.Denot). Leaves 0 refusal (power_of s.device s.cache) (power_of new now))
    c.self.view_is
    (leaves_named refusal c.self.inside.device new c.self.inside.cache now c.commit_live-answer.ensures.raised
    c.commit_live-answer.ensures.left c.commit_live-answer.ensures.names c.commit_live-answer.ensures.grows)

pub returns-clause-unsynced : goal.returns-clause-unsynced
returns-clause-unsynced g c =
    subst (λ (s : StoreState g.row.R.Denot). OnErr c.commit_live-answer.result
    (completed_syncs c.commit_live-answer.new.blob.calls ≡ completed_syncs s.device.calls)) c.self.view_is
    c.commit_live-answer.ensures.unsynced
