use Rattle.std.proofs.Common.{◌≡◌, ◌+◌, ◌*◌, ◌%◌, ◌^◌, ◌≤◌, true, false, refl, ◌∙◌, ap, ap₂, arith}
use Rattle.std.proofs.lemmas.Nat.{le-div, one_shl, pow_pos, pow-add, mul-le}
use Rattle.merkle_forest.specs.Forest.{Rule, Tree, height, leaf_count, forest_of}
use Rattle.merkle_forest.specs.Laws.ForestGrowth.{height_fits}
use Rattle.merkle_forest.specs.Laws.Nodes.{node-leaves, peak-node}
use Rattle.merkle_forest.specs.Laws.Peaks.{IsStep, step, cut-zero}
use Rattle.merkle_forest.specs.Nodes.{HasPeak}
use Rattle.merkle_core_parts.specs.Laws.Peaks.{begins}
use Rattle.state_theory.specs.Laws.SameNodes.{born}
use Rattle.state_current.proofs.SettledLemmas.{raised, settled_next, settled_all, within_of}
use Rattle.state_current.proofs.SettledNodes.{settled_within}
use Rattle.state_current.proofs.settled.is_settled.Goals.{After-peak_from-high}
use Rattle.state_current.proofs.settled.is_settled.Goals as goal

-- the peak that begins where the loop stands
module _ (g : _) (c : After-peak_from-high g) where
  abbrev rule : Rule
  rule = g.F.Family.merge_rule

  within : c.args.chunks * 2 ^ c.args.height ≤ c.args.operations
  within = within_of c.args.chunks c.args.operations c.args.height c.if-chunks-operations.false

  few : c.args.chunks ≤ 2 ^ 62
  few = omega (
    arith,
    mul-le c.args.chunks 1 c.args.chunks (2 ^ c.args.height) (omega arith) (pow_pos c.args.height),
    within,
    c.requires.few,
  )

  found : HasPeak (forest_of rule c.args.chunks) c.loop-first.first
  found = begins rule g.met.F.Family.merges_equals c.args.chunks c.loop-first.first c.loop-first.invariant.cut c.loop-first-test.true

  abbrev own : Tree
  own = found.0

  high : c.peak_from-high.result.1 ≡ height own
  high = (c.peak_from-high.ensures own found.1).1

  it : IsStep rule c.args.chunks c.loop-first.first c.peak_from-high.result.0 c.peak_from-high.result.1
      (c.loop-first.first + 1 * 2 ^ c.peak_from-high.result.1 % 2 ^ 64)
  it =
      step rule g.met.F.Family.merges_equals c.args.chunks c.loop-first.first c.peak_from-high.result.0 c.peak_from-high.result.1 few
      c.loop-first.invariant.cut c.loop-first-test.true c.peak_from-high.ensures

  shift : 1 * 2 ^ c.args.height % 2 ^ 64 ≡ 2 ^ c.args.height
  shift = one_shl c.args.height 64 (omega (arith, c.requires.low))

pub loop-first-init : goal.loop-first-init
loop-first-init g c = record {
  cut = cut-zero (forest_of g.F.Family.merge_rule c.args.chunks);
  within = omega arith;
  settled = λ first peak stands lt. absurd (omega (arith, lt));
}

pub peak_from-high-requires-clause-begins : goal.peak_from-high-requires-clause-begins
peak_from-high-requires-clause-begins g c =
    begins g.F.Family.merge_rule g.met.F.Family.merges_equals c.args.chunks c.loop-first.first c.loop-first.invariant.cut c.loop-first-test.true

pub birth-requires-clause-low : goal.birth-requires-clause-low
birth-requires-clause-low g c =
    let at = (goal.at.birth-requires-clause-low g c).After-peak_from-high in
    let level = c.args.height in
    let n = c.args.chunks in
    let first = c.loop-first.first in
    let fits = (node-leaves (rule g at) g.met.F.Family.merges_equals n first (own g at)
    (peak-node first (own g at) (forest_of (rule g at) n) (found g at).1)).1 in
    let small = mul-le (2 ^ height (own g at)) (2 ^ level) n (2 ^ level) (omega (arith, fits)) (omega arith) in
    let power : 2 ^ (c.peak_from-high.result.1 + level) ≡ 2 ^ height (own g at) * 2 ^ level =
    ap (λ h. 2 ^ (h + level)) (high g at) ∙ pow-add 2 (height (own g at)) level in
    height_fits 62 (c.peak_from-high.result.1 + level) (omega (arith, small, power, within g at, c.requires.few))

pub overflow_add-high : goal.overflow_add-high
overflow_add-high g c = omega (arith, (it g (goal.at.overflow_add-high g c).After-peak_from-high).low, c.requires.low)

pub returns-then-birth-operations : goal.returns-then-birth-operations
returns-then-birth-operations g c =
    let at = (goal.at.returns-then-birth-operations g c).After-peak_from-high in
    let level = c.args.height in
    let first = c.loop-first.first in
    let are = born g.met.F.Graftable.births g.met.F.Graftable.births_apart g.met.F.Graftable.births_soon in
    let is : c.birth.result ≡ g.F.Graftable.birth_of (first * 2 ^ level) (height (own g at) + level) =
    ◌∙◌ {b = g.F.Graftable.birth_of (first * (1 * 2 ^ level % 2 ^ 64)) (c.peak_from-high.result.1 + level)} c.birth.ensures
    (ap₂ (λ k h. g.F.Graftable.birth_of (first * k) (h + level)) (shift g at) (high g at)) in (
      λ none. absurd (let e : false ≡ true = none in cc),
      λ settled. (let soon = (raised (rule g at) g.met.F.Family.merges_equals g.met.F.Graftable.aligned g.F.Graftable.birth_of are level
          c.args.operations c.args.chunks first (own g at) (found g at).1).0 (settled first (own g at) (found g at).1) in
          absurd (omega (arith, soon, is, c.if-birth-operations.true))),
    )

pub overflow_shl-first : goal.overflow_shl-first
overflow_shl-first g c = (it g (goal.at.overflow_shl-first g c).After-peak_from-high).low

pub overflow_add-first : goal.overflow_add-first
overflow_add-first g c =
    let at = (goal.at.overflow_add-first g c).After-peak_from-high in
    omega (arith, (it g at).fits, few g at)

pub loop-first-smaller : goal.loop-first-smaller
loop-first-smaller g c =
    let at = (goal.at.loop-first-smaller g c).After-peak_from-high in
    omega (arith, (it g at).fits, (it g at).further)

pub loop-first-preserved : goal.loop-first-preserved
loop-first-preserved g c =
    let at = (goal.at.loop-first-preserved g c).After-peak_from-high in
    let level = c.args.height in
    let n = c.args.chunks in
    let first = c.loop-first.first in
    let are = born g.met.F.Graftable.births g.met.F.Graftable.births_apart g.met.F.Graftable.births_soon in
    let is : c.birth.result ≡ g.F.Graftable.birth_of (first * 2 ^ level) (height (own g at) + level) =
    c.birth.ensures ∙ ap₂ (λ k h. g.F.Graftable.birth_of (first * k) (h + level)) (shift g at) (high g at) in
    let fits = (node-leaves (rule g at) g.met.F.Family.merges_equals n first (own g at)
    (peak-node first (own g at) (forest_of (rule g at) n) (found g at).1)).0 in
    let next : first + 1 * 2 ^ c.peak_from-high.result.1 % 2 ^ 64 ≡ first + leaf_count (own g at) =
    omega (arith, one_shl c.peak_from-high.result.1 64 (it g at).low, ap (λ h. 2 ^ h) (high g at), fits) in
    record {
      cut = (it g at).cut;
      within = (it g at).fits;
      settled = settled_next (rule g at) g.met.F.Family.merges_equals g.met.F.Graftable.aligned g.F.Graftable.birth_of are level c.args.operations
          n first (first + 1 * 2 ^ c.peak_from-high.result.1 % 2 ^ 64) (own g at) (found g at).1 next
          (omega (arith, is, c.if-birth-operations.false)) c.loop-first.invariant.settled;
    }

pub returns : goal.returns
returns g c = (
  λ yes. settled_all g.F.Family.merge_rule g.met.F.Family.merges_equals g.met.F.Graftable.aligned g.F.Graftable.birth_of
      (born g.met.F.Graftable.births g.met.F.Graftable.births_apart g.met.F.Graftable.births_soon) c.args.height c.args.operations c.args.chunks
      c.loop-first.first (omega (arith, c.loop-first-test.false)) c.loop-first.invariant.settled,
  λ settled. refl,
)

pub returns-then-chunks-operations : goal.returns-then-chunks-operations
returns-then-chunks-operations g c = (
  λ none. absurd (let e : false ≡ true = none in cc),
  λ settled. absurd (let n = c.args.chunks in
      let level = c.args.height in
      let fits = settled_within g.F.Family.merge_rule g.met.F.Family.merges_equals c.args.operations level n settled in
      let some = pow_pos level in
      let le = (le-div n c.args.operations (2 ^ level) (omega (arith, some)) fits) in
      omega (arith, le, c.if-chunks-operations.true)),
)
