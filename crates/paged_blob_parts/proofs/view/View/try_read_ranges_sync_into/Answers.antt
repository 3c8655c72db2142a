use Rattle.std.proofs.Common.{rules, ◌≡◌, ◌<◌, ◌+◌, ◌-◌, ◌++◌, ◌∷◌, [], ℕ, List, true, false, cond, length, take}
use Rattle.std.proofs.Common.{drop, ap, sym, subst, ◌∙◌, inl, inr, ⊎_elim, arith}
use Rattle.std.proofs.lemmas.Bool.{cases_Bool, cond-true, cond-false}
use Rattle.std.proofs.lemmas.List.{length-append, length-take-le, length-drop}
use borrow.Rule.Slice.PartMut.{put_mid}
use Rattle.paged_blob_parts.specs.Served.{total, IsServed, AreServed}
use Rattle.paged_blob_parts.proofs.ServedLaws.{next, one_more_total, within_total, IsNext, served_more}
use Rattle.paged_blob_parts.proofs.view.View.try_read_ranges_sync_into.Goals as goal

pub loop-offset-preserved : goal.loop-offset-preserved
loop-offset-preserved g c =
    let pages = c.args.self.now.pages in
    let tail = c.args.self.now.tail.now in
    let cache = c.args.cache.now in
    let ranges = c.args.ranges.now in
    let index = c.loop-offset.offset-index in
    let below : index < length ranges = search rules in
    let i = c.loop-offset.invariant in
    let done = c.loop-offset.done in
    let out = c.loop-offset.out in
    let range = next ranges index below in
    let span = done + range.1 - done in
    let same_long : length out ≡ length c.args.out.now = search rules in
    let fits : length out ≡ total ranges = same_long ∙ c.requires.room in
    let piece = c.try_read_sync_into-is_served.new.out in
    let is_served = c.try_read_sync_into-is_served.result in
    let reach = within_total ranges index below in
    let asked : length (take span (drop done out)) ≡ range.1 =
    length-take-le span (drop done out) (omega (arith, length-drop done out, fits, reach, i.done)) ∙ omega arith in
    let kept_long : length piece ≡ length (take span (drop done out)) = search rules in
    let named : List ℕ = cond is_served [] (c.loop-offset.index ∷ []) in
    record {
      done = omega (arith, i.done, one_more_total ranges index below);
      index = omega (arith, i.index);
      served = λ front serves.
          let list = front ++ tail in
          let size : length list ≡ pages.len + length tail = length-append front tail ∙ ap (λ n. n + length tail) serves.long in
          let found = c.try_read_sync_into-is_served.ensures.served front serves in
          let Q : ℕ → Type 0 = λ n. IsServed cache pages n range.0 range.1 in
          let to : IsServed cache pages (pages.len + length tail) range.0 (length (take span (drop done out)))
          → IsServed cache pages (length list) range.0 range.1 =
          λ s. subst Q (sym size) (subst (λ n. IsServed cache pages (pages.len + length tail) range.0 n) asked s) in
          let back : IsServed cache pages (length list) range.0 range.1
          → IsServed cache pages (pages.len + length tail) range.0 (length (take span (drop done out))) =
          λ s. subst (λ n. IsServed cache pages (pages.len + length tail) range.0 n) (sym asked) (subst Q size s) in
          let here : IsNext cache pages list range index piece named =
          ⊎_elim
          (λ (yes : is_served ≡ true).
          inl (
            to (found.0 yes),
            c.try_read_sync_into-is_served.ensures.bytes front serves yes ∙ ap (λ n. take n (drop range.0 list)) asked,
            cond-true _ _ _ yes,
          ))
          (λ (no : is_served ≡ false).
          inr (λ s. let yes = found.1 (back s) in cc, cond-false _ _ _ no ∙ ap (λ n. n ∷ []) i.index))
          (cases_Bool is_served) in
          let more = served_more cache pages list ranges index below out piece done span i.done fits (kept_long ∙ asked) c.loop-offset.missing.items named
          (i.served front serves) here in
          subst (λ (m : List ℕ). AreServed cache pages list 0 (take (index + 1) ranges) (take (done + range.1) (put_mid done span out piece)) m)
          (sym c.in_ok-name_unless.ensures) more;
    }
