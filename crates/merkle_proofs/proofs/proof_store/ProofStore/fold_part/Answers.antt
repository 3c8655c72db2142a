use Rattle.std.proofs.Common.{rules, ◌≡◌, ◌+◌, ◌-◌, ◌≤◌, ◌++◌, length, map, filter, take, drop, sym, ◌∙◌, ap, ap₂, subst, arith}
use Rattle.std.specs.Prelude.{IfOk}
use Rattle.std.specs.Vec.{vec_len}
use Rattle.std.proofs.lemmas.List.{length-append, map-append}
use Rattle.merkle_forest.specs.Forest.{forest_of}
use Rattle.merkle_forest.specs.Laws.Peaks.{located_from-zero}
use Rattle.merkle_theory.specs.Assembled.{assembled}
use Rattle.merkle_theory.specs.MadeRoots.{peaks_of}
use Rattle.merkle_proofs.specs.ProofStores.{Kept, front_peaks, more_before, more_after}
use Rattle.merkle_theory.specs.RangeCounts.{passing}
use Rattle.merkle_theory.specs.Ranges.{is_before, is_after}
use Rattle.merkle_theory.proofs.PartPlans.{part_counts}
use Rattle.merkle_theory.proofs.PlanFolds.{if_ok}
use Rattle.merkle_theory.proofs.Places.{first_of}
use Rattle.merkle_proofs.proofs.proof_store.ProofStore.fold_part.Goals as goal

pub sides_of-folded-requires-clause-begins : goal.sides_of-folded-requires-clause-begins
sides_of-folded-requires-clause-begins g c some = first_of g.F.Family.merge_rule g.met.F.Family.merges_equals c.self.inside.leaves some

pub sides_of-asked-requires-clause-begins : goal.sides_of-asked-requires-clause-begins
sides_of-asked-requires-clause-begins g c some = first_of g.F.Family.merge_rule g.met.F.Family.merges_equals c.self.inside.leaves some

pub overflow_sub-inactive : goal.overflow_sub-inactive
overflow_sub-inactive g c =
    let s = c.self.inside in
    let rule = g.F.Family.merge_rule in
    let peaks = peaks_of rule s.leaves in
    let all = located_from-zero (forest_of rule s.leaves) in
    let begins : s.start ≤ c.args.start = subst (λ (k : Kept _). k.start ≤ c.args.start) (sym c.self.view_is) c.requires.begins in
    let ends : c.args.stop ≤ s.stop = subst (λ (k : Kept _). c.args.stop ≤ k.stop) (sym c.self.view_is) c.requires.ends in
    let count = part_counts s.start s.stop c.args.start c.args.stop s.singles peaks begins ends in
    omega (
      arith,
      count.less,
      c.sides_of-folded.ensures.before,
      c.sides_of-asked.ensures.before,
      ap (λ ps. passing (is_before s.start) (take s.singles ps)) all,
      ap (λ ps. passing (is_before c.args.start) (take s.singles ps)) all,
    )

pub assemble-requires-clause-before : goal.assemble-requires-clause-before
assemble-requires-clause-before g c =
    let s = c.self.inside in
    let rule = g.F.Family.merge_rule in
    let peaks = peaks_of rule s.leaves in
    let all = located_from-zero (forest_of rule s.leaves) in
    let begins : s.start ≤ c.args.start = subst (λ (k : Kept _). k.start ≤ c.args.start) (sym c.self.view_is) c.requires.begins in
    let ends : c.args.stop ≤ s.stop = subst (λ (k : Kept _). c.args.stop ≤ k.stop) (sym c.self.view_is) c.requires.ends in
    let given : length c.args.before.now ≡ length (drop (passing (is_before s.start) (take s.singles peaks)) (filter (is_before c.args.start) peaks)) =
    subst (λ (k : Kept _). length c.args.before.now ≡ length (more_before rule k c.args.start)) (sym c.self.view_is) c.requires.before in
    let count = part_counts s.start s.stop c.args.start c.args.stop s.singles peaks begins ends in
    let one : vec_len s.front ≡ length s.front.items = search rules in
    let whole : c.deref-3.result.now ≡ s.front.items ++ c.args.before.now =
    c.deref-3.ensures.value ∙ c.in_ok-extend_from_slice-2.ensures.items
    ∙ ap (λ old. old ++ c.args.before.now) (c.in_ok-extend_from_slice.ensures.items
    ∙ ap₂ (λ old more. old ++ more) c.new-fronts.ensures.items c.deref.ensures.value) in
    omega (
      arith,
      count.before_fits,
      given,
      one,
      c.len.ensures,
      ap length whole,
      length-append s.front.items c.args.before.now,
      c.sides_of-folded.ensures.before,
      c.sides_of-asked.ensures.before,
      ap (λ ps. passing (is_before s.start) (take s.singles ps)) all,
      ap (λ ps. passing (is_before c.args.start) (take s.singles ps)) all,
    )

pub assemble-requires-clause-after : goal.assemble-requires-clause-after
assemble-requires-clause-after g c =
    let s = c.self.inside in
    let rule = g.F.Family.merge_rule in
    let peaks = peaks_of rule s.leaves in
    let all = located_from-zero (forest_of rule s.leaves) in
    let begins : s.start ≤ c.args.start = subst (λ (k : Kept _). k.start ≤ c.args.start) (sym c.self.view_is) c.requires.begins in
    let ends : c.args.stop ≤ s.stop = subst (λ (k : Kept _). c.args.stop ≤ k.stop) (sym c.self.view_is) c.requires.ends in
    let given : length c.args.after.now
    ≡ length (take (passing (is_after c.args.stop) peaks - passing (is_after s.stop) (drop s.singles peaks)) (filter (is_after c.args.stop) peaks)) =
    subst (λ (k : Kept _). length c.args.after.now ≡ length (more_after rule k c.args.stop)) (sym c.self.view_is) c.requires.after in
    let count = part_counts s.start s.stop c.args.start c.args.stop s.singles peaks begins ends in
    let whole : c.deref-4.result.now ≡ c.args.after.now ++ s.back.items =
    c.deref-4.ensures.value ∙ c.in_ok-extend_from_slice-4.ensures.items
    ∙ ap₂ (λ old more. old ++ more) (c.in_ok-extend_from_slice-3.ensures.items
    ∙ ap (λ old. old ++ c.args.after.now) c.new-backs.ensures.items) c.deref-2.ensures.value in
    omega (
      arith,
      count.after_fits,
      given,
      ap length whole,
      length-append c.args.after.now s.back.items,
      c.sides_of-asked.ensures.after,
      ap (λ ps. passing (is_after c.args.stop) (take s.singles ps)) all,
    )

pub returns : goal.returns
returns g c =
    let s = c.self.inside in
    let rule = g.F.Family.merge_rule in
    let hash = g.H.Hasher.hash_of in
    let enc = g.D.Write.encoding in
    let bagging = g.H.Hasher.bagging_of c.args.hasher.now in
    let peaks = peaks_of rule s.leaves in
    let all = located_from-zero (forest_of rule s.leaves) in
    let start = c.args.start in
    let stop = c.args.stop in
    let inner = map enc c.args.inner.now in
    let one : vec_len s.front ≡ length s.front.items = search rules in
    let fronts : map enc c.deref-3.result.now ≡ map enc s.front.items ++ map enc c.args.before.now =
    ap (map enc) (c.deref-3.ensures.value ∙ c.in_ok-extend_from_slice-2.ensures.items
    ∙ ap (λ old. old ++ c.args.before.now) (c.in_ok-extend_from_slice.ensures.items
    ∙ ap₂ (λ old more. old ++ more) c.new-fronts.ensures.items c.deref.ensures.value))
    ∙ map-append enc s.front.items c.args.before.now in
    let backs : map enc c.deref-4.result.now ≡ map enc c.args.after.now ++ map enc s.back.items =
    ap (map enc) (c.deref-4.ensures.value ∙ c.in_ok-extend_from_slice-4.ensures.items
    ∙ ap₂ (λ old more. old ++ more) (c.in_ok-extend_from_slice-3.ensures.items
    ∙ ap (λ old. old ++ c.args.after.now) c.new-backs.ensures.items) c.deref-2.ensures.value)
    ∙ map-append enc c.args.after.now s.back.items in
    let folded : c.sides_of-folded.result.before ≡ passing (is_before s.start) (take s.singles peaks) =
    c.sides_of-folded.ensures.before ∙ ap (λ ps. passing (is_before s.start) (take s.singles ps)) all in
    let asked : c.sides_of-asked.result.before ≡ passing (is_before start) (take s.singles peaks) =
    c.sides_of-asked.ensures.before ∙ ap (λ ps. passing (is_before start) (take s.singles ps)) all in
    let later : c.sides_of-asked.result.after ≡ passing (is_after stop) (take s.singles peaks) =
    c.sides_of-asked.ensures.after ∙ ap (λ ps. passing (is_after stop) (take s.singles ps)) all in
    let n : c.len.result + (c.sides_of-asked.result.before - c.sides_of-folded.result.before)
    ≡ length s.front.items + (passing (is_before start) (take s.singles peaks) - passing (is_before s.start) (take s.singles peaks)) =
    ap₂ (λ a b. a + b) (c.len.ensures ∙ one) (ap₂ (λ a b. a - b) asked folded) in
    let same : assembled hash bagging (c.len.result + (c.sides_of-asked.result.before - c.sides_of-folded.result.before))
    (map enc c.deref-3.result.now) c.sides_of-asked.result.after (map enc c.deref-4.result.now) inner
    ≡ assembled hash bagging (length s.front.items + (passing (is_before start) (take s.singles peaks) - passing (is_before s.start) (take s.singles peaks)))
    (map enc s.front.items ++ map enc c.args.before.now) (passing (is_after stop) (take s.singles peaks))
    (map enc c.args.after.now ++ map enc s.back.items) inner =
    ap₂ (λ i ds. assembled hash bagging i ds c.sides_of-asked.result.after (map enc c.deref-4.result.now) inner) n fronts
    ∙ ap₂ (λ i ds. assembled hash bagging (length s.front.items + (passing (is_before start) (take s.singles peaks)
    - passing (is_before s.start) (take s.singles peaks))) (map enc s.front.items ++ map enc c.args.before.now) i ds inner) later backs in
    subst (λ (k : Kept _). IfOk c.assemble.result (λ found. map enc found.items ≡ assembled hash bagging
    (length k.front + (passing (is_before start) (take k.singles (peaks_of rule k.leaves)) - length (front_peaks rule k)))
    (map enc k.front ++ map enc c.args.before.now) (passing (is_after stop) (take k.singles (peaks_of rule k.leaves)))
    (map enc c.args.after.now ++ map enc k.back) inner)) c.self.view_is
    (if_ok c.assemble.result (λ found is. is ∙ same) c.assemble.ensures)
