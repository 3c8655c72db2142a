use Rattle.std.proofs.Common.{◌≡◌, ◌+◌, ◌*◌, ◌%◌, ◌^◌, ◌++◌, ◌∷◌, []}
use Rattle.std.proofs.Common.{ℕ, List, map, sym, ◌∙◌, ap, subst, arith, append-nil, append_assoc}
use Rattle.std.proofs.lemmas.List.{length-map, map-append}
use Rattle.std.specs.Prelude.{IsSome, unwrap_or}
use Rattle.merkle_forest.specs.Forest.{forest_of, position}
use Rattle.merkle_forest.specs.Peaks.{position_and_height, positions_from}
use Rattle.merkle_forest.specs.Laws.ForestGrowth.{leaves-forest_of}
use Rattle.merkle_forest.specs.Laws.Nodes.{peak-node}
use Rattle.merkle_forest.specs.Laws.NodeGrowth.{numbered}
use Rattle.merkle_forest.specs.Laws.Peaks.{step, cut-zero, located_from-end}
use Rattle.merkle_core_parts.specs.Mem.{encoded, known_over}
use Rattle.merkle_core_parts.specs.Laws.Kept.{kept}
use Rattle.merkle_core_parts.specs.Laws.Made.{known-some}
use Rattle.merkle_core_parts.specs.Laws.Peaks.{begins}
use Rattle.merkle_memory.proofs.growth.grown_peaks.Goals as goal

pub loop-first-init : goal.loop-first-init
loop-first-init g c =
    let encoding = g.D.Write.encoding in
    let rule = g.F.Family.merge_rule in
    let known = known_over c.args.base_size (encoded encoding c.args.peaks.now) (map encoding c.args.added.now) in
    let all : ℕ × ℕ → List ℕ = λ peak. unwrap_or (known peak.0) [] in
    record {
      cut = cut-zero (forest_of rule c.args.leaves);
      within = omega arith;
      rest = ap (λ items. map encoding items ++ map all (positions_from 0 (forest_of rule c.args.leaves)))
          c.new-found.ensures.items;
    }

pub peak_from-position-requires-clause-begins : goal.peak_from-position-requires-clause-begins
peak_from-position-requires-clause-begins g c =
    begins g.F.Family.merge_rule g.met.F.Family.merges_equals c.args.leaves c.loop-first.first
    c.loop-first.invariant.cut c.loop-first-test.true

pub digest_there-requires : goal.digest_there-requires
digest_there-requires g c =
    let encoding = g.D.Write.encoding in
    let rule = g.F.Family.merge_rule in
    let pairs = g.met.F.Family.merges_equals in
    let forest = forest_of rule c.args.leaves in
    let found = begins rule pairs c.args.leaves c.loop-first.first c.loop-first.invariant.cut c.loop-first-test.true in
    let at : c.peak_from-position.result.0 ≡ position found.0 = (c.peak_from-position.ensures found.0 found.1).0 in
    let below = (numbered rule pairs c.args.leaves).below c.loop-first.first found.0
    (peak-node c.loop-first.first found.0 forest found.1) in
    subst (λ p. IsSome (known_over c.args.base_size (encoded encoding c.args.peaks.now) (map encoding c.args.added.now) p))
    (sym at)
    (known-some rule c.args.base c.args.base_size (encoded encoding c.args.peaks.now) (map encoding c.args.added.now)
    (position found.0) c.requires.sized c.requires.peaks
    ((kept rule pairs c.args.base c.args.leaves c.requires.over).peak found.0 (c.loop-first.first, found.1))
    (omega (arith, below, c.requires.counted, length-map c.args.added.now encoding)))

pub overflow_shl-first : goal.overflow_shl-first
overflow_shl-first g c =
    (step g.F.Family.merge_rule g.met.F.Family.merges_equals c.args.leaves c.loop-first.first
    c.peak_from-position.result.0 c.peak_from-position.result.1 c.requires.few c.loop-first.invariant.cut
    c.loop-first-test.true c.peak_from-position.ensures).low

pub overflow_add-first : goal.overflow_add-first
overflow_add-first g c =
    let it = step g.F.Family.merge_rule g.met.F.Family.merges_equals c.args.leaves c.loop-first.first
    c.peak_from-position.result.0 c.peak_from-position.result.1 c.requires.few c.loop-first.invariant.cut
    c.loop-first-test.true c.peak_from-position.ensures in
    omega (arith, it.fits, c.requires.few)

pub loop-first-smaller : goal.loop-first-smaller
loop-first-smaller g c =
    let it = step g.F.Family.merge_rule g.met.F.Family.merges_equals c.args.leaves c.loop-first.first
    c.peak_from-position.result.0 c.peak_from-position.result.1 c.requires.few c.loop-first.invariant.cut
    c.loop-first-test.true c.peak_from-position.ensures in
    omega (arith, it.fits, it.further)

pub loop-first-preserved : goal.loop-first-preserved
loop-first-preserved g c =
    let encoding = g.D.Write.encoding in
    let rule = g.F.Family.merge_rule in
    let forest = forest_of rule c.args.leaves in
    let known = known_over c.args.base_size (encoded encoding c.args.peaks.now) (map encoding c.args.added.now) in
    let all : ℕ × ℕ → List ℕ = λ peak. unwrap_or (known peak.0) [] in
    let p = c.peak_from-position.result.0 in
    let h = c.peak_from-position.result.1 in
    let it = step rule g.met.F.Family.merges_equals c.args.leaves c.loop-first.first p h c.requires.few
    c.loop-first.invariant.cut c.loop-first-test.true c.peak_from-position.ensures in
    let before = map encoding c.loop-first.found.items in
    let next = map all (positions_from (c.loop-first.first + 1 * 2 ^ h % 2 ^ 64) forest) in
    let one : all (p, h) ≡ encoding c.digest_there.result = ap (λ o. unwrap_or o []) c.digest_there.ensures in
    let grown : map encoding c.push.new.self.items ≡ before ++ encoding c.digest_there.result ∷ [] =
    ap (map encoding) c.in_ok-push.ensures.items ∙ map-append encoding c.loop-first.found.items (c.digest_there.result ∷ []) in
    record {
      cut = it.cut;
      within = it.fits;
      rest = ap (λ xs. xs ++ next) grown
          ∙ append_assoc before (encoding c.digest_there.result ∷ []) next
          ∙ ap (λ (d : List ℕ). before ++ d ∷ next) (sym one)
          ∙ ap (λ ps. before ++ map all ps) (sym it.positions)
          ∙ c.loop-first.invariant.rest;
    }

pub returns : goal.returns
returns g c =
    let encoding = g.D.Write.encoding in
    let rule = g.F.Family.merge_rule in
    let forest = forest_of rule c.args.leaves in
    let known = known_over c.args.base_size (encoded encoding c.args.peaks.now) (map encoding c.args.added.now) in
    let all : ℕ × ℕ → List ℕ = λ peak. unwrap_or (known peak.0) [] in
    let found = map encoding c.loop-first.found.items in
    sym (append-nil found)
    ∙ ap (λ peaks. found ++ map all (map position_and_height peaks)) (sym (located_from-end forest c.loop-first.first
    (omega (arith, c.loop-first-test.false, leaves-forest_of rule g.met.F.Family.merges_equals c.args.leaves))))
    ∙ c.loop-first.invariant.rest
