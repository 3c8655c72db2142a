use Rattle.std.proofs.Common.{rules, ◌≡◌, ℕ, ◌+◌, ◌*◌, List, [], ◌∷◌, ◌++◌, length, refl, sym, ap, subst, ⊎_elim, ◌∙◌, arith}
use Rattle.std.specs.Vec.{vec_len}
use Rattle.std.proofs.lemmas.Bool.{eqb-true}
use Rattle.paged_blob_parts.specs.Calls.{Call, content}
use Rattle.paged_blob_parts.specs.Moments.{Through}
use Rattle.paged_blob_parts.specs.Laws.Moments.{joined}
use Rattle.paged_blob_parts.specs.Writers.{WriterState, written}
use Rattle.auth_store_log.specs.Records.{Format, format_of, record_size, begun, recovered_log}
use Rattle.auth_store_log.specs.Shown.{IsKeptThrough}
use Rattle.auth_store_log.proofs.Openings.{begins}
use Rattle.std.specs.Prelude.{IfErr}
use Rattle.std.proofs.lemmas.Result.{err_from_is_err_and}
use Rattle.auth_store_parts.specs.History.{log_of}
use Rattle.paged_blob_parts.specs.Answers.{Failures}
use Rattle.paged_blob_parts.specs.CachedContent.{HoldsPagesOf}
use Rattle.paged_blob_parts.specs.Flushes.{physical_size}
use Rattle.paged_blob_parts.specs.declared.error.CallKind.TheVariants.{Write, Sync}
use Rattle.paged_blob_parts.specs.declared.error.Error.{Error}
use Rattle.auth_store_log.specs.Causes.{IsLogCause, log_reach}
use Rattle.auth_store_log.specs.Laws.Records.{log_sized}
use Rattle.auth_store_log.specs.Laws.First.{empty_recorded}
use Rattle.auth_store_log.proofs.Causes.{further, call_cause}
use Rattle.auth_store_log.proofs.opening.recover.Goals.{After-append_batch}
use Rattle.auth_store_log.proofs.opening.recover.Goals as goal

-- a list of no items
no_items : (list : List ℕ) → length list ≡ 0 → list ≡ []
no_items [] none = refl
no_items (x ∷ list) none = absurd (omega (arith, none))

-- a log of no operations is begun
module _ (g : _) (c : After-append_batch g) where
  abbrev format : Format
  format = format_of (g.K.Read.after tt) (g.V.Read.after tt) g.K.FixedSize.SIZE g.V.FixedSize.SIZE

  abbrev mid : List Call
  mid = g.B.Blob.calls c.recover_committed.new.blob

  abbrev size : ℕ
  size = c.args.cache.now.page_size + 12

  abbrev log : List ℕ
  log = recovered_log format g.C.Checksum.checksum_of size (content (g.B.Blob.calls c.args.blob.now))

  abbrev there : List ℕ
  there = written g.C.Checksum.checksum_of mid c.from-writer.result

  none : c.in_ok-recovery.bytes.items ≡ []
  none =
      let counted : vec_len c.in_ok-recovery.bytes ≡ length c.in_ok-recovery.bytes.items = search rules in
      no_items c.in_ok-recovery.bytes.items (sym counted ∙ eqb-true (vec_len c.in_ok-recovery.bytes) 0 (sym c.if-not-is_empty.ensures))

  empty : log ≡ []
  empty = sym c.in_ok-recovery.ensures.bytes ∙ none

  left : there ≡ []
  left = ap (λ w. written g.C.Checksum.checksum_of mid w) c.from-writer.ensures ∙ c.in_ok-recovery.ensures.content ∙ empty

  pages : c.from-writer.result.page_size ≡ size
  pages = ap (λ (w : WriterState). w.page_size) c.from-writer.ensures ∙ c.in_ok-recovery.ensures.page_size

  first : there ++ c.deref.result.now ≡ c.in_ok-first.first.items
  first = ap (λ l. l ++ c.deref.result.now) left ∙ c.deref.ensures.value

  kept : Through (IsKeptThrough format g.C.Checksum.checksum_of size log) (g.B.Blob.calls c.args.blob.now) (g.B.Blob.calls c.append_batch.new.blob)
  kept =
      joined {P = IsKeptThrough format g.C.Checksum.checksum_of size log} c.recover_committed.ensures.any_moment
      (begins format g.C.Checksum.checksum_of mid (g.B.Blob.calls c.append_batch.new.blob) size c.from-writer.result.page_size
      c.from-writer.result.synced (there ++ c.deref.result.now) log pages (first ∙ c.in_ok-first.ensures.exact)
      (ap (λ (w : WriterState). w.synced) c.from-writer.ensures ∙ c.in_ok-recovery.ensures.synced ∙ ap length none)
      empty c.append_batch.ensures.any_moment)

pub returns-in_err-begun-clause-any_moment : goal.returns-in_err-begun-clause-any_moment
returns-in_err-begun-clause-any_moment g c = kept g (goal.at.returns-in_err-begun-clause-any_moment g c).After-append_batch

pub returns-clause-any_moment : goal.returns-clause-any_moment
returns-clause-any_moment g c = kept g (goal.at.returns-clause-any_moment g c).After-append_batch

pub returns-clause-content : goal.returns-clause-content
returns-clause-content g c = c.in_ok-begun.ensures.content ∙ first g (goal.at.returns-clause-content g c).After-append_batch

pub returns-clause-bytes : goal.returns-clause-bytes
returns-clause-bytes g c =
    let at = (goal.at.returns-clause-bytes g c).After-append_batch in
    c.in_ok-first.ensures.exact ∙ ap (begun (format g at)) (sym (empty g at))

pub returns-in_err-begun-clause-cause : goal.returns-in_err-begun-clause-cause
returns-in_err-begun-clause-cause g c =
    let at = (goal.at.returns-in_err-begun-clause-cause g c).After-append_batch in
    let page : ℕ = c.from-writer.result.page_size in
    let failures : Failures = g.B.Blob.failures c.args.blob.now in
    let between : Failures = g.B.Blob.failures c.recover_committed.new.blob in
    let last : ℕ = c.args.cache.now.next_id + 3 in
    let reach : ℕ = log_reach (format g at) (size g at) (content (g.B.Blob.calls c.args.blob.now)) in
    let all : ℕ = length (there g at) + length c.deref.result.now in
    let one : length c.deref.result.now ≡ length (log_of []) * record_size (format g at) =
    ap length (c.deref.ensures.value ∙ c.in_ok-first.ensures.exact) ∙ log_sized (format g at) (log_of []) (empty_recorded (format g at)) in
    let bytes : all ≡ record_size (format g at) = omega (arith, ap length (left g at), one) in
    let far : physical_size page all ≡ physical_size (size g at) (record_size (format g at)) =
    ap (λ p. physical_size p all) (pages g at) ∙ ap (physical_size (size g at)) bytes in
    let e : Error = c.in_err-begun.field-0.0 in
    let why : IsLogCause between last reach e =
    ⊎_elim
    (λ write. further between last last (physical_size page all) reach e (omega arith)
    (omega (arith, far)) (call_cause between last (physical_size page all) Write e write))
    (λ sync. further between last last 0 reach e (omega arith) (omega arith) (call_cause between last 0 Sync e sync))
    c.in_err-begun.ensures.cause in
    let p = err_from_is_err_and c.from_residual-in_err-begun.result c.from_residual-in_err-begun.ensures.1 in
    subst (λ r. IfErr r (λ x. IsLogCause failures last reach x)) (sym p.1)
    (subst (λ x. IsLogCause failures last reach x) (sym p.2) (subst (λ f. IsLogCause f last reach e) c.in_ok-recovery.ensures.failures why))

pub returns-clause-cached : goal.returns-clause-cached
returns-clause-cached g c =
    let at = (goal.at.returns-clause-cached g c).After-append_batch in
    let w : WriterState = c.from-writer.result in
    let new = c.append_batch.new.cache in
    let id : w.blob_id ≡ c.in_ok-recovery.recovery.blob_id = ap (λ (v : WriterState). v.blob_id) c.from-writer.ensures in
    let P : List ℕ → ℕ → Type 0 = λ list name. HoldsPagesOf list c.recover_committed.new.cache name in
    let before : P (there g at) w.blob_id =
    subst (λ l. P l w.blob_id) (none g at ∙ sym (left g at)) (subst (P c.in_ok-recovery.bytes.items) (sym id) c.in_ok-recovery.ensures.cached) in
    subst (λ name. HoldsPagesOf c.in_ok-first.first.items new name) (sym c.in_ok-begun.ensures.same.1)
    (subst (λ l. HoldsPagesOf l new w.blob_id) (first g at) (c.append_batch.ensures.cached before))
