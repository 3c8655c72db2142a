use Rattle.std.proofs.Common.{◌≤◌, ◌++◌, ◌∙◌, ap, Some, arith, length, length-append}
use Rattle.auth_store_index.specs.Growth.{cleared}
use Rattle.auth_store_index.specs.Laws.Clears.{length_cleared}
use Rattle.auth_store_index.specs.Laws.Walks.{goes_on, ends_here, ends_behind}
use Rattle.auth_store_index.proofs.floor.first_set_from.Goals as goal

pub returns-then-is_left : goal.returns-then-is_left
returns-then-is_left g c =
    ends_here (cleared (g.B.ReadableBits.bits c.args.bits.now ++ c.args.more.now) c.args.places.now) c.args.start c.loop-at.at
    (c.is_left.ensures c.args.places.now c.in_ok-set.ensures ∙ ap Some c.if-is_left.true) c.loop-at.invariant.1

pub loop-at-preserved : goal.loop-at-preserved
loop-at-preserved g c = (
  omega (arith, c.loop-at.invariant.0),
  goes_on (cleared (g.B.ReadableBits.bits c.args.bits.now ++ c.args.more.now) c.args.places.now) c.args.start c.loop-at.at
      (c.is_left.ensures c.args.places.now c.in_ok-set.ensures ∙ ap Some c.if-is_left.false) c.loop-at.invariant.1,
)

pub returns : goal.returns
returns g c =
    let all = g.B.ReadableBits.bits c.args.bits.now ++ c.args.more.now in
    let past : length (cleared all c.args.places.now) ≤ c.loop-at.at =
    omega (
      arith,
      length_cleared all c.args.places.now,
      length-append (g.B.ReadableBits.bits c.args.bits.now) c.args.more.now,
      c.loop-at-test.false,
      c.len.ensures,
    ) in
    ends_behind (cleared all c.args.places.now) c.args.start c.loop-at.at past c.loop-at.invariant.1
