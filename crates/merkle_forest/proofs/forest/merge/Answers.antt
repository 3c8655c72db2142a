use Rattle.std.proofs.Common.{◌≡◌, suc, ◌<◌, length, map, ◌∙◌, ap, arith, get_or}
use Rattle.std.proofs.lemmas.List.{length-map}
use Rattle.merkle_forest.specs.Forest.{branch, merged, leaves, size}
use Rattle.merkle_forest.specs.Shape.{shape}
use Rattle.merkle_forest.proofs.ForestLemmas.{merged_in_place, leaves-merged, size-merged}
use Rattle.merkle_forest.proofs.forest.merge.Goals as goal
use Rattle.merkle_forest.proofs.forest.merge.Goals.{In_ok-insert}

is_with_parent : (c : In_ok-insert) → map shape c.insert.new.self.items
    ≡ merged c.args.position c.args.index (map shape c.args.peaks.now.items)
is_with_parent c =
    let over : branch c.args.position (shape c.in_ok-left.left.value) (shape c.in_ok-right.right.value)
    ≡ branch c.args.position (shape c.remove-left.result) (shape c.remove-right.result) =
    ap (λ a. branch c.args.position (shape a) (shape c.in_ok-right.right.value)) c.in_ok-left.ensures.ok
    ∙ ap (λ b. branch c.args.position (shape c.remove-left.result) (shape b)) c.in_ok-right.ensures.ok in
    let within : suc c.args.index < length c.args.peaks.now.items = omega arith in
    rw (c.in_ok-insert.ensures.items, c.remove-left.ensures.items, c.remove-right.ensures.items)
    (merged_in_place c.args.position c.args.index c.args.peaks.now.items c.remove-right.result c.remove-left.result _
    within c.remove-right.ensures.value (c.remove-left.ensures.value
    ∙ ap (λ xs. get_or xs c.args.index c.remove-left.result) c.remove-right.ensures.items) over)

two_stand : (c : In_ok-insert) → suc c.args.index < length (map shape c.args.peaks.now.items)
two_stand c = rw length-map (omega arith)

pub returns-clause-with_parent : goal.returns-clause-with_parent
returns-clause-with_parent c = is_with_parent c

pub returns-clause-kept : goal.returns-clause-kept
returns-clause-kept c = ap leaves (is_with_parent c)
    ∙ leaves-merged c.args.position c.args.index (map shape c.args.peaks.now.items) (two_stand c)

pub returns-clause-grown : goal.returns-clause-grown
returns-clause-grown c = ap size (is_with_parent c)
    ∙ size-merged c.args.position c.args.index (map shape c.args.peaks.now.items) (two_stand c)
