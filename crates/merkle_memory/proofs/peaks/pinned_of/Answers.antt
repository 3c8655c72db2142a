use Rattle.std.proofs.Common.{◌≡◌, ◌+◌, ◌*◌, ◌%◌, ◌^◌, ◌++◌}
use Rattle.std.proofs.Common.{◌∷◌, [], ℕ, map, sym, ◌∙◌, ap, arith, append-nil, append_assoc}
use Rattle.std.specs.Prelude.{unwrap_or}
use Rattle.merkle_forest.specs.Forest.{forest_of}
use Rattle.merkle_forest.specs.Peaks.{position_and_height, positions_from}
use Rattle.merkle_forest.specs.Laws.ForestGrowth.{leaves-forest_of}
use Rattle.merkle_forest.specs.Laws.Peaks.{step, cut-zero, located_from-zero, located_from-end}
use Rattle.merkle_core_parts.specs.Mem.{Replacement, encoded, node_at}
use Rattle.merkle_core_parts.specs.Laws.Peaks.{begins}
use Rattle.merkle_core_parts.specs.Laws.PlaceCases.{encoded-push}
use Rattle.merkle_memory.proofs.peaks.pinned_of.Goals as goal

pub loop-first-init : goal.loop-first-init
loop-first-init g c =
    let encoding = g.D.Write.encoding in
    let rule = g.F.Family.merge_rule in
    let forest = forest_of rule c.args.leaves in
    let all : ℕ × ℕ → Replacement = λ peak. (peak.0, unwrap_or (node_at rule c.args.tree.now peak.0) []) in
    record {
      cut = cut-zero forest;
      within = omega arith;
      rest = ap (λ items. encoded encoding items ++ map all (positions_from 0 forest)) c.new-found.ensures.items
          ∙ ap (λ peaks. map all (map position_and_height peaks)) (located_from-zero forest);
    }

pub peak_from-position-requires-clause-begins : goal.peak_from-position-requires-clause-begins
peak_from-position-requires-clause-begins g c =
    begins g.F.Family.merge_rule g.met.F.Family.merges_equals c.args.leaves c.loop-first.first
    c.loop-first.invariant.cut c.loop-first-test.true

pub peak_digest-requires-clause-peak : goal.peak_digest-requires-clause-peak
peak_digest-requires-clause-peak g c =
    let found = begins g.F.Family.merge_rule g.met.F.Family.merges_equals c.args.leaves c.loop-first.first
    c.loop-first.invariant.cut c.loop-first-test.true in
    (found.0, (c.loop-first.first, found.1), sym (c.peak_from-position.ensures found.0 found.1).0)

pub overflow_shl-first : goal.overflow_shl-first
overflow_shl-first g c =
    (step g.F.Family.merge_rule g.met.F.Family.merges_equals c.args.leaves c.loop-first.first
    c.peak_from-position.result.0 c.peak_from-position.result.1 c.requires.few c.loop-first.invariant.cut
    c.loop-first-test.true c.peak_from-position.ensures).low

pub overflow_add-first : goal.overflow_add-first
overflow_add-first g c =
    let it = step g.F.Family.merge_rule g.met.F.Family.merges_equals c.args.leaves c.loop-first.first
    c.peak_from-position.result.0 c.peak_from-position.result.1 c.requires.few c.loop-first.invariant.cut
    c.loop-first-test.true c.peak_from-position.ensures in
    omega (arith, it.fits, c.requires.few)

pub loop-first-smaller : goal.loop-first-smaller
loop-first-smaller g c =
    let it = step g.F.Family.merge_rule g.met.F.Family.merges_equals c.args.leaves c.loop-first.first
    c.peak_from-position.result.0 c.peak_from-position.result.1 c.requires.few c.loop-first.invariant.cut
    c.loop-first-test.true c.peak_from-position.ensures in
    omega (arith, it.fits, it.further)

pub loop-first-preserved : goal.loop-first-preserved
loop-first-preserved g c =
    let encoding = g.D.Write.encoding in
    let rule = g.F.Family.merge_rule in
    let forest = forest_of rule c.args.leaves in
    let all : ℕ × ℕ → Replacement = λ peak. (peak.0, unwrap_or (node_at rule c.args.tree.now peak.0) []) in
    let p = c.peak_from-position.result.0 in
    let h = c.peak_from-position.result.1 in
    let it = step rule g.met.F.Family.merges_equals c.args.leaves c.loop-first.first p h c.requires.few
    c.loop-first.invariant.cut c.loop-first-test.true c.peak_from-position.ensures in
    let before = encoded encoding c.loop-first.found.items in
    let after = encoded encoding c.push.new.self.items in
    let next = map all (positions_from (c.loop-first.first + 1 * 2 ^ h % 2 ^ 64) forest) in
    let one : all (p, h) ≡ (p, encoding c.peak_digest.result) =
    ap (λ o. (p, unwrap_or o [])) c.peak_digest.ensures in
    record {
      cut = it.cut;
      within = it.fits;
      rest = ap (λ xs. xs ++ next) (sym (encoded-push encoding c.loop-first.found.items c.push.new.self.items p
          c.peak_digest.result c.in_ok-push.ensures.items))
          ∙ append_assoc before ((p, encoding c.peak_digest.result) ∷ []) next
          ∙ ap (λ (u : Replacement). before ++ u ∷ next) (sym one)
          ∙ ap (λ ps. before ++ map all ps) (sym it.positions)
          ∙ c.loop-first.invariant.rest;
    }

pub returns : goal.returns
returns g c =
    let encoding = g.D.Write.encoding in
    let rule = g.F.Family.merge_rule in
    let forest = forest_of rule c.args.leaves in
    let all : ℕ × ℕ → Replacement = λ peak. (peak.0, unwrap_or (node_at rule c.args.tree.now peak.0) []) in
    let found = encoded encoding c.loop-first.found.items in
    sym (append-nil found)
    ∙ ap (λ peaks. found ++ map all (map position_and_height peaks)) (sym (located_from-end forest c.loop-first.first
    (omega (arith, c.loop-first-test.false, leaves-forest_of rule g.met.F.Family.merges_equals c.args.leaves))))
    ∙ c.loop-first.invariant.rest
