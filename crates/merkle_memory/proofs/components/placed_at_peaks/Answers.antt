use Rattle.std.proofs.Common.{◌≡◌, ◌<◌, ◌+◌, ◌*◌, ◌%◌, ◌^◌, ◌++◌}
use Rattle.std.proofs.Common.{◌∷◌, [], ℕ, suc, List, length, map, drop, sym, ◌∙◌, ap, ap₂, arith}
use Rattle.std.proofs.Common.{append-nil, append_assoc, length-append}
use Rattle.std.proofs.lemmas.List.{length-map}
use Rattle.merkle_forest.specs.Forest.{forest_of}
use Rattle.merkle_forest.specs.Peaks.{position_and_height, positions_from, peak_positions}
use Rattle.merkle_forest.specs.Laws.ForestGrowth.{leaves-forest_of}
use Rattle.merkle_forest.specs.Laws.Peaks.{step, cut-zero, located_from-zero, located_from-end}
use Rattle.merkle_core_parts.specs.Mem.{Replacement, encoded, placed}
use Rattle.merkle_core_parts.specs.Laws.Peaks.{begins}
use Rattle.merkle_core_parts.specs.Laws.PlaceCases.{encoded-push}
use Rattle.merkle_core_parts.specs.Laws.Placed.{drop-mapped}
use Rattle.merkle_memory.proofs.components.placed_at_peaks.Goals as goal

pub loop-first-init : goal.loop-first-init
loop-first-init g c =
    let encoding = g.D.Write.encoding in
    let forest = forest_of g.F.Family.merge_rule c.args.leaves in
    let all : positions_from 0 forest ≡ peak_positions forest = ap (map position_and_height) (located_from-zero forest) in
    let digests = map encoding c.args.digests.now in
    let ps : List ℕ = map (λ (peak : ℕ × ℕ). peak.0) (positions_from 0 forest) in
    record {
      cut = cut-zero forest;
      within = omega arith;
      counted = omega (
        arith,
        ap length c.new-found.ensures.items,
        ap length all,
        c.requires.counted,
        length-map (peak_positions forest) (λ (peak : ℕ × ℕ). peak.0),
      );
      rest = ap (λ items. encoded encoding items ++ placed ps (drop (length items) digests)) c.new-found.ensures.items
          ∙ ap (λ qs. placed (map (λ (peak : ℕ × ℕ). peak.0) qs) digests) all;
    }

pub peak_from-position-requires-clause-begins : goal.peak_from-position-requires-clause-begins
peak_from-position-requires-clause-begins g c =
    begins g.F.Family.merge_rule g.met.F.Family.merges_equals c.args.leaves c.loop-first.first
    c.loop-first.invariant.cut c.loop-first-test.true

pub bounds-digests-len : goal.bounds-digests-len
bounds-digests-len g c =
    let it = step g.F.Family.merge_rule g.met.F.Family.merges_equals c.args.leaves c.loop-first.first
    c.peak_from-position.result.0 c.peak_from-position.result.1 c.requires.few c.loop-first.invariant.cut
    c.loop-first-test.true c.peak_from-position.ensures in
    omega (arith, c.len.ensures, c.loop-first.invariant.counted, ap length it.positions)

pub overflow_shl-first : goal.overflow_shl-first
overflow_shl-first g c =
    (step g.F.Family.merge_rule g.met.F.Family.merges_equals c.args.leaves c.loop-first.first
    c.peak_from-position.result.0 c.peak_from-position.result.1 c.requires.few c.loop-first.invariant.cut
    c.loop-first-test.true c.peak_from-position.ensures).low

pub overflow_add-first : goal.overflow_add-first
overflow_add-first g c =
    let it = step g.F.Family.merge_rule g.met.F.Family.merges_equals c.args.leaves c.loop-first.first
    c.peak_from-position.result.0 c.peak_from-position.result.1 c.requires.few c.loop-first.invariant.cut
    c.loop-first-test.true c.peak_from-position.ensures in
    omega (arith, it.fits, c.requires.few)

pub loop-first-smaller : goal.loop-first-smaller
loop-first-smaller g c =
    let it = step g.F.Family.merge_rule g.met.F.Family.merges_equals c.args.leaves c.loop-first.first
    c.peak_from-position.result.0 c.peak_from-position.result.1 c.requires.few c.loop-first.invariant.cut
    c.loop-first-test.true c.peak_from-position.ensures in
    omega (arith, it.fits, it.further)

pub loop-first-preserved : goal.loop-first-preserved
loop-first-preserved g c =
    let encoding = g.D.Write.encoding in
    let forest = forest_of g.F.Family.merge_rule c.args.leaves in
    let p = c.peak_from-position.result.0 in
    let h = c.peak_from-position.result.1 in
    let it = step g.F.Family.merge_rule g.met.F.Family.merges_equals c.args.leaves c.loop-first.first p h c.requires.few
    c.loop-first.invariant.cut c.loop-first-test.true c.peak_from-position.ensures in
    let items = c.loop-first.found.items in
    let after = c.push.new.self.items in
    let d = c.index-digests-len.result in
    let digests = map encoding c.args.digests.now in
    let next : List ℕ = map (λ (peak : ℕ × ℕ). peak.0)
    (positions_from (c.loop-first.first + 1 * 2 ^ h % 2 ^ 64) forest) in
    let longer : length after ≡ suc (length items) =
    ap length c.in_ok-push.ensures.items ∙ length-append items ((p, d) ∷ []) ∙ omega arith in
    let below : c.len.result < length c.args.digests.now =
    omega (arith, c.len.ensures, c.loop-first.invariant.counted, ap length it.positions) in
    let count : c.len.result ≡ length items = omega (arith, c.len.ensures) in
    let here : drop (length items) digests ≡ encoding d ∷ drop (suc (length items)) digests =
    ap (λ i. drop i digests) (sym count)
    ∙ drop-mapped encoding c.args.digests.now c.len.result d d below c.index-digests-len.is
    ∙ ap (λ i. encoding d ∷ drop (suc i) digests) count in
    record {
      cut = it.cut;
      within = it.fits;
      counted = omega (arith, longer, c.loop-first.invariant.counted, ap length it.positions);
      rest = ap₂ (λ (xs : List Replacement) (i : ℕ). xs ++ placed next (drop i digests))
          (sym (encoded-push encoding items after p d c.in_ok-push.ensures.items)) longer
          ∙ append_assoc (encoded encoding items) ((p, encoding d) ∷ []) (placed next (drop (suc (length items)) digests))
          ∙ sym (ap (λ qs. encoded encoding items ++ placed (map (λ (peak : ℕ × ℕ). peak.0) qs)
          (drop (length items) digests)) it.positions
          ∙ ap (λ ds. encoded encoding items ++ placed (p ∷ next) ds) here)
          ∙ c.loop-first.invariant.rest;
    }

pub returns : goal.returns
returns g c =
    let encoding = g.D.Write.encoding in
    let forest = forest_of g.F.Family.merge_rule c.args.leaves in
    let found = encoded encoding c.loop-first.found.items in
    let left = drop (length c.loop-first.found.items) (map encoding c.args.digests.now) in
    sym (append-nil found)
    ∙ ap (λ peaks. found ++ placed (map (λ (peak : ℕ × ℕ). peak.0) (map position_and_height peaks)) left)
    (sym (located_from-end forest c.loop-first.first
    (omega (
      arith,
      c.loop-first-test.false,
      leaves-forest_of g.F.Family.merge_rule g.met.F.Family.merges_equals c.args.leaves,
    ))))
    ∙ c.loop-first.invariant.rest
