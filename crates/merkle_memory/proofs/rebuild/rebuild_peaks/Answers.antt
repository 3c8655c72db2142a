use Rattle.std.proofs.Common.{◌≡◌, ◌≤◌, ◌+◌, ◌++◌, ◌∷◌, [], ◌^◌, ℕ, drop, sym, ◌∙◌, ap, subst, arith}
use Rattle.std.proofs.lemmas.Result.{err_from_is_err_and}
use Rattle.std.specs.Prelude.{IsSome, IfErr}
use Rattle.merkle_forest.specs.Forest.{position, forest_of}
use Rattle.merkle_forest.specs.Peaks.{is_cut}
use Rattle.merkle_forest.specs.Laws.Nodes.{peak-node}
use Rattle.merkle_forest.specs.Laws.Peaks.{cut-zero}
use Rattle.merkle_core_parts.specs.Mem.{encoded, IsKept, digest_at}
use Rattle.merkle_core_parts.specs.Laws.Enough.{IsRefusalOfKept}
use Rattle.merkle_core_parts.specs.Laws.Kept.{kept}
use Rattle.merkle_core_parts.specs.Laws.Peaks.{begins}
use Rattle.merkle_core_parts.specs.Laws.Replaced.{AreFrom}
use Rattle.merkle_core_parts.specs.Laws.PlaceCases.{encoded-push}
use Rattle.merkle_core_parts.specs.Laws.PeakSteps.{peak-step, found-step, peak-before}
use Rattle.merkle_core_parts.specs.Laws.Updated.{IsProgress, progress-start, progress-step, progress-all}
use Rattle.merkle_memory.proofs.rebuild.rebuild_peaks.Goals as goal

pub loop-first-init : goal.loop-first-init
loop-first-init g c =
    let encoding = g.H.Digest.Write.encoding in
    let rule = g.F.Family.merge_rule in
    record {
      cut = cut-zero (forest_of rule c.args.leaves);
      within = omega arith;
      found = λ f t stands lt. absurd (omega (arith, lt));
      made = λ boundary before after setting pending right.
          (subst (λ found. IsProgress rule c.args.leaves boundary before after 0
          (encoded encoding c.args.changed.now.items) (encoded encoding c.args.changed.now.items)
          (encoded encoding found) (encoded encoding c.args.updates.now)) (sym c.new-peaks.ensures.items)
          (progress-start rule c.args.leaves boundary before after (encoded encoding c.args.changed.now.items)
          (encoded encoding c.args.updates.now) right pending));
    }

pub peak_from-position-requires-clause-begins : goal.peak_from-position-requires-clause-begins
peak_from-position-requires-clause-begins g c =
    begins g.F.Family.merge_rule g.met.F.Family.merges_equals c.args.leaves c.loop-first.first
    c.loop-first.invariant.cut c.loop-first-test.true

pub rebuild-requires-clause-place : goal.rebuild-requires-clause-place
rebuild-requires-clause-place g c =
    (peak-step g.F.Family.merge_rule g.met.F.Family.merges_equals c.args.leaves c.loop-first.first
    c.peak_from-position.result.0 c.peak_from-position.result.1 c.requires c.loop-first.invariant.cut
    c.loop-first-test.true c.peak_from-position.ensures).place

pub leaf_span-first-requires : goal.leaf_span-first-requires
leaf_span-first-requires g c =
    (peak-step g.F.Family.merge_rule g.met.F.Family.merges_equals c.args.leaves c.loop-first.first
    c.peak_from-position.result.0 c.peak_from-position.result.1 c.requires c.loop-first.invariant.cut
    c.loop-first-test.true c.peak_from-position.ensures).low

pub overflow_add-first : goal.overflow_add-first
overflow_add-first g c =
    omega (
      arith,
      c.requires,
      c.leaf_span-first.ensures,
      (peak-step g.F.Family.merge_rule g.met.F.Family.merges_equals c.args.leaves c.loop-first.first
          c.peak_from-position.result.0 c.peak_from-position.result.1 c.requires c.loop-first.invariant.cut
          c.loop-first-test.true c.peak_from-position.ensures).fits,
    )

pub loop-first-smaller : goal.loop-first-smaller
loop-first-smaller g c =
    let it = peak-step g.F.Family.merge_rule g.met.F.Family.merges_equals c.args.leaves c.loop-first.first
    c.peak_from-position.result.0 c.peak_from-position.result.1 c.requires c.loop-first.invariant.cut
    c.loop-first-test.true c.peak_from-position.ensures in
    omega (arith, c.leaf_span-first.ensures, it.fits, it.further)

pub loop-first-preserved : goal.loop-first-preserved
loop-first-preserved g c =
    let encoding = g.H.Digest.Write.encoding in
    let rule = g.F.Family.merge_rule in
    let pairs = g.met.F.Family.merges_equals in
    let n = c.args.leaves in
    let first = c.loop-first.first in
    let p = c.peak_from-position.result.0 in
    let h = c.peak_from-position.result.1 in
    let digest = encoding c.in_ok-digest.digest in
    let found = encoded encoding c.loop-first.peaks.items in
    let it = peak-step rule pairs n first p h c.requires c.loop-first.invariant.cut c.loop-first-test.true
    c.peak_from-position.ensures in
    let span : first + c.leaf_span-first.result ≡ first + 2 ^ h = ap (λ k. first + k) c.leaf_span-first.ensures in
    let pushed : found ++ (p, digest) ∷ [] ≡ encoded encoding c.push.new.self.items =
    encoded-push encoding c.loop-first.peaks.items c.push.new.self.items p c.in_ok-digest.digest
    c.in_ok-push.ensures.items in
    record {
      cut = ap (λ k. is_cut k (forest_of rule n)) span ∙ it.cut;
      within = omega (arith, span, it.fits);
      found = λ f t stands lt. (subst (λ xs. IsSome (digest_at xs (position t))) pushed
          (found-step rule pairs n first p h it found digest c.loop-first.invariant.found f t stands
          (omega (arith, lt, span))));
      made = λ boundary before after setting pending right.
          (let progress = c.loop-first.invariant.made boundary before after setting pending right in
          let made = c.in_ok-digest.ensures.rebuilt boundary before after it.tree setting progress.pending progress.right
          (peak-node first it.tree (forest_of rule n) it.stands) it.at in
          subst (λ xs. IsProgress rule n boundary before after (first + c.leaf_span-first.result)
          (encoded encoding c.args.changed.now.items) (encoded encoding c.rebuild.new.changed.items) xs
          (drop c.in_ok-digest.after (encoded encoding c.args.updates.now))) pushed
          (progress-step rule pairs n boundary before after first (first + c.leaf_span-first.result) p it.tree
          (encoded encoding c.args.changed.now.items) (encoded encoding c.loop-first.changed.items)
          (encoded encoding c.rebuild.new.changed.items) found
          (drop c.loop-first.next (encoded encoding c.args.updates.now))
          (drop c.in_ok-digest.after (encoded encoding c.args.updates.now)) digest it.stands it.only it.at
          (span ∙ ap (λ k. first + k) (sym it.span)) progress made));
    }

pub returns-clause-peaks : goal.returns-clause-peaks
returns-clause-peaks g c tree peak =
    c.loop-first.invariant.found peak.0 tree peak.1
    (omega (
      arith,
      c.loop-first-test.false,
      peak-before g.F.Family.merge_rule g.met.F.Family.merges_equals c.args.leaves peak.0 tree peak.1,
    ))

pub returns-clause-rebuilt : goal.returns-clause-rebuilt
returns-clause-rebuilt g c boundary before after setting pending right =
    let encoding = g.H.Digest.Write.encoding in
    progress-all g.F.Family.merge_rule g.met.F.Family.merges_equals c.args.leaves boundary before after c.loop-first.first
    (encoded encoding c.args.changed.now.items) (encoded encoding c.loop-first.changed.items)
    (encoded encoding c.loop-first.peaks.items) (drop c.loop-first.next (encoded encoding c.args.updates.now))
    c.loop-first-test.false
    (c.loop-first.invariant.made boundary before after setting pending right)

pub returns-in_err-digest-clause-kept : goal.returns-in_err-digest-clause-kept
returns-in_err-digest-clause-kept g c =
    let rule = g.F.Family.merge_rule in
    let pairs = g.met.F.Family.merges_equals in
    let us = encoded g.H.Digest.Write.encoding c.args.updates.now in
    let it = peak-step rule pairs c.args.leaves c.loop-first.first c.peak_from-position.result.0
    c.peak_from-position.result.1 c.requires c.loop-first.invariant.cut c.loop-first-test.true
    c.peak_from-position.ensures in
    let p = err_from_is_err_and c.from_residual.result c.from_residual.ensures.1 in
    subst (λ r. IfErr r (λ e. (b : ℕ) → b ≤ c.args.leaves → AreFrom b us → IsRefusalOfKept rule b e)) (sym p.1)
    (λ b le from. subst (IsRefusalOfKept rule b) (sym p.2) (c.in_err-digest.ensures.kept b le from
    (subst (IsKept rule b) (sym it.at) ((kept rule pairs b c.args.leaves le).peak it.tree
    (c.loop-first.first, it.stands)))))
