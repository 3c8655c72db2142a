use Rattle.std.proofs.Common.{rules, ◌≡◌, ◌-◌, ◌++◌, length, filter, take, drop, ◌∙◌, ap, ap₂, subst, arith}
use Rattle.std.specs.Vec.{vec_len}
use Rattle.std.proofs.lemmas.List.{length-drop}
use Rattle.merkle_forest.specs.Forest.{forest_of}
use Rattle.merkle_forest.specs.Laws.Peaks.{located_from-zero}
use Rattle.merkle_forest.specs.Peaks.{located_from}
use Rattle.merkle_theory.specs.MadeRoots.{peaks_of}
use Rattle.merkle_theory.specs.Plans.{inner_nodes, positions_of}
use Rattle.merkle_proofs.specs.ProofStores.{Kept, part_nodes, more_before, more_after}
use Rattle.merkle_theory.specs.RangeCounts.{passing}
use Rattle.merkle_theory.specs.Ranges.{is_before, is_after}
use Rattle.merkle_theory.proofs.PartPlans.{IsPartPlan, part_planned}
use Rattle.merkle_theory.proofs.Places.{first_of}
use Rattle.merkle_theory.proofs.RangePeaks.{all_taken}
use Rattle.merkle_proofs.proofs.proof_store.ProofStore.plan_part.Goals as goal

pub peaks_from-peaks-requires-clause-begins : goal.peaks_from-peaks-requires-clause-begins
peaks_from-peaks-requires-clause-begins g c some = first_of g.F.Family.merge_rule g.met.F.Family.merges_equals c.self.inside.leaves some

pub sides_of-first-requires-clause-begins : goal.sides_of-first-requires-clause-begins
sides_of-first-requires-clause-begins g c some = first_of g.F.Family.merge_rule g.met.F.Family.merges_equals c.self.inside.leaves some

pub append_side-requires-clause-begins : goal.append_side-requires-clause-begins
append_side-requires-clause-begins g c some = first_of g.F.Family.merge_rule g.met.F.Family.merges_equals c.self.inside.leaves some

pub append_side-requires-2-clause-begins : goal.append_side-requires-2-clause-begins
append_side-requires-2-clause-begins g c some = first_of g.F.Family.merge_rule g.met.F.Family.merges_equals c.self.inside.leaves some

pub append_inner-requires-clause-begins : goal.append_inner-requires-clause-begins
append_inner-requires-clause-begins g c some = first_of g.F.Family.merge_rule g.met.F.Family.merges_equals c.self.inside.leaves some

pub returns : goal.returns
returns g c =
    let rule = g.F.Family.merge_rule in
    let s = c.self.inside in
    let forest = forest_of rule s.leaves in
    let peaks = peaks_of rule s.leaves in
    let start = c.args.start in
    let stop = c.args.stop in
    let all = located_from-zero forest in
    let total : c.peaks_from-peaks.result ≡ length peaks = c.peaks_from-peaks.ensures.count ∙ ap length all in
    let others : located_from c.sides_of-first.result.next forest ≡ drop s.singles peaks =
    c.sides_of-first.ensures.next ∙ ap (drop s.singles) all in
    let others_all : take c.peaks_from-peaks.result (located_from c.sides_of-first.result.next forest) ≡ drop s.singles peaks =
    ap (take c.peaks_from-peaks.result) others
    ∙ all_taken c.peaks_from-peaks.result (drop s.singles peaks) (omega (arith, total, length-drop s.singles peaks)) in
    let b : c.sides_of-first.result.before ≡ passing (is_before s.start) (take s.singles peaks) =
    c.sides_of-first.ensures.before ∙ ap (λ ps. passing (is_before s.start) (take s.singles ps)) all in
    let a : c.sides_of-others.result.after ≡ passing (is_after s.stop) (drop s.singles peaks) =
    c.sides_of-others.ensures.after ∙ ap (passing (is_after s.stop)) others_all in
    let fronts = c.append_side.new.found.items in
    let backs = c.append_side-2.new.found.items in
    let before = c.split_digests.result.1.now in
    let after = c.split_digests-2.result.0.now in
    let found = c.append_inner.new.found.items in
    let counted : vec_len c.append_side-2.new.found ≡ length backs = search rules in
    let cut : c.saturating_sub.result ≡ length backs - c.sides_of-others.result.after =
    c.saturating_sub.ensures ∙ ap (λ n. n - c.sides_of-others.result.after) (c.len.ensures ∙ counted) in
    let plan = part_planned start stop c.sides_of-first.result.before c.sides_of-others.result.after c.saturating_sub.result peaks
    fronts before backs after found
    (c.in_ok-append_side.ensures
    ∙ ap₂ (λ old ps. old ++ positions_of (filter (is_before start) ps)) c.new-fronts.ensures.items all)
    (c.split_digests.ensures.1 ∙ ap (drop c.sides_of-first.result.before) c.deref.ensures.value)
    (c.in_ok-append_side-2.ensures
    ∙ ap₂ (λ old ps. old ++ positions_of (filter (is_after stop) ps)) c.new-backs.ensures.items all)
    cut (c.split_digests-2.ensures.0 ∙ ap (take c.saturating_sub.result) c.deref-2.ensures.value)
    (c.in_ok-append_inner.ensures ∙ ap (λ ps. c.extend_from_slice-2.new.self.items ++ positions_of (inner_nodes start stop ps)) all
    ∙ ap (λ old. old ++ positions_of (inner_nodes start stop peaks))
    (c.in_ok-extend_from_slice-2.ensures.items ∙ ap (λ old. old ++ after)
    (c.in_ok-extend_from_slice.ensures.items ∙ ap (λ old. old ++ before) c.new-positions.ensures.items))) in
    let exact = subst (λ n. IsPartPlan start stop c.sides_of-first.result.before n peaks before after found) a plan in
    let it = subst (λ n. IsPartPlan start stop n (passing (is_after s.stop) (drop s.singles peaks)) peaks before after found) b exact in
    subst (λ (k : Kept _). (found ≡ positions_of (part_nodes rule k start stop))
    × (length before ≡ length (more_before rule k start)) × (length after ≡ length (more_after rule k stop)))
    c.self.view_is (it.nodes, it.before_count, it.after_count)
