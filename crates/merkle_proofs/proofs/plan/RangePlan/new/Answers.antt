use Rattle.std.specs.Vec.{vec_len}
use Rattle.std.proofs.Common.{rules, length, ◌≡◌, ◌++◌, filter, ◌∙◌, ap, arith}
use Rattle.merkle_forest.specs.Forest.{forest_of}
use Rattle.merkle_forest.specs.Laws.Peaks.{located_from-zero}
use Rattle.merkle_theory.specs.MadeRoots.{peaks_of}
use Rattle.merkle_theory.specs.Plans.{IsWithinTree, positions_of, inner_nodes}
use Rattle.merkle_theory.specs.Ranges.{is_before, is_after}
use Rattle.merkle_theory.proofs.Places.{first_of}
use Rattle.merkle_theory.proofs.PlanNodes.{planned}
use Rattle.merkle_proofs.proofs.plan.RangePlan.new.Goals as goal

pub append_side-requires-clause-begins : goal.append_side-requires-clause-begins
append_side-requires-clause-begins g c some = first_of g.F.Family.merge_rule g.met.F.Family.merges_equals c.as_u64-leaves.result some

pub append_side-requires-2-clause-begins : goal.append_side-requires-2-clause-begins
append_side-requires-2-clause-begins g c some = first_of g.F.Family.merge_rule g.met.F.Family.merges_equals c.as_u64-leaves.result some

pub append_inner-requires-clause-begins : goal.append_inner-requires-clause-begins
append_inner-requires-clause-begins g c some = first_of g.F.Family.merge_rule g.met.F.Family.merges_equals c.as_u64-leaves.result some

pub invariant_of-result : goal.invariant_of-result
invariant_of-result g c =
    let rule = g.F.Family.merge_rule in
    let n = c.as_u64-leaves.result in
    let start = c.as_u64-start.result in
    let stop = c.as_u64-stop.result in
    let all = located_from-zero (forest_of rule n) in
    let within = c.in_ok-check_range.ensures.within in
    let by = planned start stop (peaks_of rule n) c.new-positions.result.items c.append_side.new.found.items c.append_side-2.new.found.items
    c.append_inner.new.found.items c.new-positions.ensures.items
    (c.in_ok-append_side.ensures ∙ ap (λ ps. c.new-positions.result.items ++ positions_of (filter (is_before start) ps)) all)
    (c.in_ok-append_side-2.ensures ∙ ap (λ ps. c.append_side.new.found.items ++ positions_of (filter (is_after stop) ps)) all)
    (c.in_ok-append_inner.ensures ∙ ap (λ ps. c.append_side-2.new.found.items ++ positions_of (inner_nodes start stop ps)) all) in
    let tree : IsWithinTree (record { leaves = n; start = start; stop = stop }) = record {
      few = omega (arith, within.few, c.as_u64-leaves.ensures);
      some = omega (arith, within.some, c.as_u64-start.ensures, c.as_u64-stop.ensures);
      within = omega (arith, within.within, c.as_u64-leaves.ensures, c.as_u64-stop.ensures);
    } in
    let one : vec_len c.append_side.new.found ≡ length c.append_side.new.found.items = search rules in
    let two : vec_len c.append_side-2.new.found ≡ length c.append_side-2.new.found.items = search rules in
    (tree, c.len-before.ensures ∙ one ∙ by.0, omega (arith, c.len-before.ensures, c.len.ensures, one, two, by.1), by.2)
