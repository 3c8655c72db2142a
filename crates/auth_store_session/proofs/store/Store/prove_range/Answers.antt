use Rattle.std.proofs.Common.{◌∙◌, ℕ, ap, refl, subst, sym}
use Rattle.std.specs.Prelude.{IfOk, IfSome}
use Rattle.state_theory.specs.Canonical.{Setting}
use Rattle.paged_blob_parts.specs.Caches.{Cache}
use Rattle.auth_store_parts.specs.History.{History}
use Rattle.auth_store_ledger.specs.Store.{setting_of_width}
use Rattle.auth_store_log.specs.Records.{Format, format_of}
use Rattle.auth_store_machine.specs.declared.error.StoreError.TheVariants.{Failed}
use Rattle.auth_store_machine.specs.Machine.{Leaves, refusal_of}
use Rattle.auth_store_machine.specs.Reads.{IsLiveOn, live_on, seen_on}
use Rattle.auth_store_machine.specs.Standing.{power_of}
use Rattle.auth_store_machine.specs.Stores.{StoreState}
use Rattle.auth_store_machine.proofs.Lives.{answers_on_device, is_pruned, not_failed, stays_at}
use Rattle.auth_store_machine.proofs.OnDevice.{carried}
use Rattle.auth_store_machine.proofs.Powers.{leaves_failed, leaves_named, same_grows}
use Rattle.auth_store_client.specs.Claims.{Terms, terms}
use Rattle.auth_store_proving.specs.Proving.{IsAcceptedRange, answer_of_range}
use Rattle.auth_store_proving.specs.ProvingCode.{range_answer_of}
use Rattle.auth_store_ledger.specs.Store.{root_of_history}
use Rattle.auth_store_machine.specs.Machine.{as_proved, range_is}
use Rattle.auth_store_machine.specs.Standing.{AnswersProof}
use Rattle.auth_store_session.proofs.store.Store.prove_range.Goals as goal

pub invariant_of-self : goal.invariant_of-self
invariant_of-self g c = (
  c.self.invariant.0,
  c.prove_range_live-answer.ensures.reads.opened ∙ c.self.invariant.1,
  c.prove_range_live-answer.ensures.cache,
  subst (λ l. IfSome l (IsLiveOn (setting_of_width g.F.Family.merge_rule g.H.HashFunction.hash_of g.row.N)
      (format_of (g.K.Read.after tt) (g.V.Read.after tt) g.K.FixedSize.SIZE g.V.FixedSize.SIZE)
      c.prove_range_live-answer.new.blob.calls c.prove_range_live-answer.new.cache))
      (sym c.in-Some.is) c.prove_range_live-answer.ensures.live,
  c.self.invariant.4,
)

pub returns-clause-stays : goal.returns-clause-stays
returns-clause-stays g c = λ history live.
    let format : Format = format_of (g.K.Read.after tt) (g.V.Read.after tt) g.K.FixedSize.SIZE g.V.FixedSize.SIZE in
    stays_at format c.self.inside.device c.prove_range_live-answer.new.blob c.self.inside.cache c.prove_range_live-answer.new.cache c.self.inside.live
    c.self.inside.pruned c.args.self.now c.in-Some.live c.self.view_is c.in-Some.is c.prove_range_live-answer.ensures.reads.calls history live

pub returns-clause-failed : goal.returns-clause-failed
returns-clause-failed g c = λ none.
    let format : Format = format_of (g.K.Read.after tt) (g.V.Read.after tt) g.K.FixedSize.SIZE g.V.FixedSize.SIZE in
    absurd (not_failed format c.self.inside.device c.self.inside.cache c.self.inside.live c.self.inside.pruned c.args.self.now
    c.in-Some.live c.self.view_is c.in-Some.is none)

pub returns-clause-leaves : goal.returns-clause-leaves
returns-clause-leaves g c =
    let old = c.self.inside.device in
    let new = c.prove_range_live-answer.new.blob in
    let now = c.prove_range_live-answer.new.cache in
    let refusal = refusal_of c.prove_range_live-answer.result in
    subst (λ (s : StoreState g.row.R.Denot). Leaves 0 refusal (power_of s.device s.cache) (power_of new now)) c.self.view_is
    (leaves_named refusal old new c.self.inside.cache now c.prove_range_live-answer.ensures.reads.raised c.prove_range_live-answer.ensures.reads.left
    (ap (λ (k : Cache). k.next_id) c.prove_range_live-answer.ensures.reads.cache)
    (same_grows old.calls new.calls c.prove_range_live-answer.ensures.reads.calls))

pub returns-in_default-clause-leaves : goal.returns-in_default-clause-leaves
returns-in_default-clause-leaves g c = leaves_failed Failed c.args.self.now.device c.args.self.now.cache refl

pub returns-clause-proof : goal.returns-clause-proof
returns-clause-proof g c = λ history live.
    let setting : Setting = setting_of_width g.F.Family.merge_rule g.H.HashFunction.hash_of g.row.N in
    let new = c.prove_range_live-answer.new.blob in
    let now = c.prove_range_live-answer.new.cache in
    let expected = λ (h : History) (n : ℕ). answer_of_range g.F.PendingOf.pending_encoding setting g.K.FixedSize.SIZE
    g.V.FixedSize.SIZE h n c.args.start c.args.stop in
    let pruned : ℕ = c.in-Some.live.ledger.kept.bits.pruned in
    let told = answers_on_device c.self.inside.device new c.self.inside.cache now range_is (range_answer_of g.K.Write.encoding g.V.Write.encoding)
    (expected (live_on (format_of (g.K.Read.after tt) (g.V.Read.after tt) g.K.FixedSize.SIZE g.V.FixedSize.SIZE) c.self.inside.device.calls
    c.in-Some.live).history pruned) c.prove_range_live-answer.result c.refuses_only_under_a_cut.ensures
    c.prove_range_live-answer.ensures.proof c.prove_range_live-answer.ensures.refused in
    subst (λ (s : StoreState g.row.R.Denot). AnswersProof (power_of s.device s.cache) (power_of new now)
    (λ proved. range_is (range_answer_of g.K.Write.encoding g.V.Write.encoding proved))
    (as_proved range_is (expected history c.args.self.now.pruned)) c.prove_range_live-answer.result) c.self.view_is (
    let format : Format = format_of (g.K.Read.after tt) (g.V.Read.after tt) g.K.FixedSize.SIZE g.V.FixedSize.SIZE in
    let old = c.self.inside.device in
    carried (λ (h : History) (n : ℕ). AnswersProof (power_of old c.self.inside.cache) (power_of new now)
    (λ proved. range_is (range_answer_of g.K.Write.encoding g.V.Write.encoding proved)) (as_proved range_is (expected h n)) c.prove_range_live-answer.result)
    old c.self.inside.cache (seen_on format old.calls c.self.inside.live) c.self.inside.pruned c.args.self.now
    (live_on format old.calls c.in-Some.live) (live_on format old.calls c.in-Some.live) history c.self.view_is
    (ap (seen_on format old.calls) c.in-Some.is)
    (is_pruned format old.calls c.self.inside.live c.self.inside.pruned c.self.invariant.4) refl live
    told)

pub returns-clause-shown : goal.returns-clause-shown
returns-clause-shown g c = λ history live.
    let those : Terms = terms g.F.Family.merge_rule g.H.HashFunction.hash_of g.row.N g.H.Digest.FixedSize.SIZE g.F.PendingOf.is_pending
    g.F.PendingOf.pending_encoding (g.K.Read.after tt) (g.V.Read.after tt) g.K.FixedSize.SIZE g.V.FixedSize.SIZE in
    let setting : Setting = setting_of_width g.F.Family.merge_rule g.H.HashFunction.hash_of g.row.N in
    let format : Format = format_of (g.K.Read.after tt) (g.V.Read.after tt) g.K.FixedSize.SIZE g.V.FixedSize.SIZE in
    let old = c.self.inside.device in
    carried (λ (h : History) (n : ℕ). IfOk c.prove_range_live-answer.result
    (λ proved. IsAcceptedRange those (root_of_history setting g.K.FixedSize.SIZE g.V.FixedSize.SIZE h)
    c.args.start (range_answer_of g.K.Write.encoding g.V.Write.encoding proved)))
    old c.self.inside.cache (seen_on format old.calls c.self.inside.live) c.self.inside.pruned c.args.self.now
    (live_on format old.calls c.in-Some.live) (live_on format old.calls c.in-Some.live) history c.self.view_is
    (ap (seen_on format old.calls) c.in-Some.is)
    (is_pruned format old.calls c.self.inside.live c.self.inside.pruned c.self.invariant.4) refl live
    c.prove_range_live-answer.ensures.shown
