use Rattle.std.proofs.Common.{◌<◌, ◌*◌, ◌-◌, ◌^◌, ◌%◌, arith}
use Rattle.merkle_forest.specs.Laws.MmbPositions.{leaf-size, first_leaf-leaf, after-leaf, three_shl, first_leaf-branch}
use Rattle.merkle_forest.proofs.mmb.first_leaf.Goals as goal

pub location_of-requires : goal.location_of-requires
location_of-requires c = leaf-size c.args.position c.args.height c.if-height-eq0.true c.requires

pub returns-then-height-eq0 : goal.returns-then-height-eq0
returns-then-height-eq0 c =
    first_leaf-leaf c.args.position c.args.height c.location_of.result c.if-height-eq0.true c.location_of.ensures

pub overflow_sub-position : goal.overflow_sub-position
overflow_sub-position c =
    omega (arith, (after-leaf c.args.position c.args.height (omega (arith, c.if-height-eq0.false)) c.requires).some)

pub location_of-requires-2 : goal.location_of-requires-2
location_of-requires-2 c =
    (after-leaf c.args.position c.args.height (omega (arith, c.if-height-eq0.false)) c.requires).sized

pub overflow_shl-result : goal.overflow_shl-result
overflow_shl-result c =
    omega (arith, (after-leaf c.args.position c.args.height (omega (arith, c.if-height-eq0.false)) c.requires).low)

pub overflow_sub-result-2 : goal.overflow_sub-result-2
overflow_sub-result-2 c =
    let it = after-leaf c.args.position c.args.height (omega (arith, c.if-height-eq0.false)) c.requires in
    omega (arith, it.least, three_shl c.args.height (omega (arith, it.low)))

pub overflow_sub-result-3 : goal.overflow_sub-result-3
overflow_sub-result-3 c =
    let it = after-leaf c.args.position c.args.height (omega (arith, c.if-height-eq0.false)) c.requires in
    omega (
      arith,
      it.room c.location_of-2.result c.location_of-2.ensures,
      three_shl c.args.height (omega (arith, it.low)),
    )

pub returns : goal.returns
returns c =
    let some : 0 < c.args.height = omega (arith, c.if-height-eq0.false) in
    let it = after-leaf c.args.position c.args.height some c.requires in
    first_leaf-branch c.args.position c.args.height c.location_of-2.result
    (c.location_of-2.result - (3 * 2 ^ (c.args.height - 1) % 2 ^ 64 - 2)) some
    (omega (arith, it.some, c.location_of-2.ensures))
    (omega (
      arith,
      it.room c.location_of-2.result c.location_of-2.ensures,
      three_shl c.args.height (omega (arith, it.low)),
    ))
