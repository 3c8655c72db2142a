use Rattle.std.proofs.Common.{rules, ◌≡◌, ◌<◌, ◌+◌, ◌++◌, ◌∷◌, [], ℕ}
use Rattle.std.proofs.Common.{List, length, get_or, take, map, subst, ap, ◌∙◌, add-one, arith}
use Rattle.std.proofs.lemmas.List.{map-append}
use Rattle.std.proofs.lemmas.List.Elements.{Contains-get_or}
use Rattle.std.proofs.lemmas.Result.{err_from_is_err_and}
use Rattle.std.proofs.Math.Seq.{take-suc}
use Rattle.paged_blob_parts.specs.Calls.{Call, file_of}
use Rattle.paged_blob_parts.specs.Answers.{Failures, IsSlice, IsReadCause, IsPowerOff}
use Rattle.paged_blob_parts.proofs.Many.{slices-append, many_cause, made_lasts}
use Rattle.paged_blob_parts.proofs.blob.Blob.read_many.Goals as goal

pub returns-in_err-bytes-clause-cause : goal.returns-in_err-bytes-clause-cause
returns-in_err-bytes-clause-cause g c =
    let p = err_from_is_err_and c.from_residual.result c.from_residual.ensures.1 in
    let ranges = c.args.ranges.now in
    let index = c.loop-offset.offset-index in
    let range : ℕ × ℕ = get_or ranges index (0, 0) in
    let error = c.in_err-bytes.field-0.0 in
    let now = g.Self.Blob.calls c.args.self.now in
    let past = g.Self.Blob.failures c.args.self.now in
    let P : List Call → Type 0 = λ calls. IsReadCause past (file_of calls) range.0 range.1 error in
    let Q : Failures → Type 0 = λ f. IsReadCause f (file_of (g.Self.Blob.calls c.loop-offset.self)) range.0 range.1 error in
    let cause : P now = subst P c.loop-offset.invariant.calls (subst Q c.loop-offset.invariant.failures c.in_err-bytes.ensures.cause) in
    let below : index < length ranges = search rules in
    rw (p.1, p.2) (many_cause past (file_of now) ranges range error (Contains-get_or ranges index (0, 0) below) cause)

pub loop-offset-preserved : goal.loop-offset-preserved
loop-offset-preserved g c =
    let ranges = c.args.ranges.now in
    let index = c.loop-offset.offset-index in
    let range : ℕ × ℕ = get_or ranges index (0, 0) in
    let now = g.Self.Blob.calls c.args.self.now in
    let P : List Call → Type 0 = λ calls. IsSlice (file_of calls) range.0 range.1 c.in_ok-bytes.bytes.items in
    let past = g.Self.Blob.failures c.args.self.now in
    let here : ℕ = g.Self.Blob.left c.loop-offset.self in
    let one : P now = subst P c.loop-offset.invariant.calls c.in_ok-bytes.ensures.slice in
    let before = map (λ bytes. bytes.items) c.loop-offset.all.items in
    let more = slices-append (file_of now) (take index ranges) before range c.in_ok-bytes.bytes.items c.loop-offset.invariant.slices one in
    let below : index < length ranges = search rules in
    let next : take (index + 1) ranges ≡ take index ranges ++ range ∷ [] = rw add-one (take-suc ranges index (0, 0) below) in
    let pushed : map (λ bytes. bytes.items) c.push.new.self.items ≡ before ++ c.in_ok-bytes.bytes.items ∷ [] =
    ap (map (λ bytes. bytes.items)) c.in_ok-push.ensures.items ∙ map-append (λ bytes. bytes.items) c.loop-offset.all.items (c.in_ok-bytes.bytes ∷ []) in
    record {
      slices = rw (next, pushed) more;
      calls = c.in_ok-bytes.ensures.calls ∙ c.loop-offset.invariant.calls;
      failures = c.in_ok-bytes.ensures.failures ∙ c.loop-offset.invariant.failures;
      left = omega (arith, c.in_ok-bytes.ensures.left, c.loop-offset.invariant.left);
      lasts = made_lasts past (g.Self.Blob.left c.args.self.now) index here c.loop-offset.invariant.left c.loop-offset.invariant.lasts
          (subst (λ (f : Failures). IsPowerOff f here → ⊥) c.loop-offset.invariant.failures c.in_ok-bytes.ensures.cut);
    }
