use Rattle.std.proofs.Common.{rules, ◌≡◌, ℕ, List, ◌++◌, ◌∙◌, ap, subst}
use Rattle.std.proofs.lemmas.List.Sorted.{IsNonDecreasingBy-from_sort_by_key}
use Rattle.std.specs.List.Sorted.{IsPermutation}
use Rattle.merkle_forest.specs.Forest.{forest_of}
use Rattle.merkle_forest.specs.Peaks.{located_from}
use Rattle.merkle_forest.specs.Laws.Peaks.{located_from-zero}
use Rattle.merkle_theory.specs.MadeRoots.{peaks_of}
use Rattle.merkle_theory.specs.Multi.{multi_nodes}
use Rattle.merkle_theory.specs.Plans.{positions_of}
use Rattle.merkle_theory.proofs.Places.{first_of}
use Rattle.merkle_theory.proofs.Unnamed.{good_ascend}
use Rattle.merkle_proofs.proofs.multi.multi_proof_positions.Goals as goal

pub append_unnamed_peaks-requires-clause-begins : goal.append_unnamed_peaks-requires-clause-begins
append_unnamed_peaks-requires-clause-begins g c some = first_of g.F.Family.merge_rule g.met.F.Family.merges_equals c.as_u64.result some

pub append_unnamed_peaks-requires-clause-ascend : goal.append_unnamed_peaks-requires-clause-ascend
append_unnamed_peaks-requires-clause-ascend g c = good_ascend c.args.leaves 0 c.args.locations.now c.in_ok-check_locations.ensures.good

pub returns-clause-positions : goal.returns-clause-positions
returns-clause-positions g c =
    let rule = g.F.Family.merge_rule in
    let locations = c.args.locations.now in
    let found : c.append_unnamed_peaks.new.found.items ≡ positions_of (multi_nodes locations (peaks_of rule c.args.leaves)) =
    c.in_ok-append_unnamed_peaks.ensures
    ∙ ap (λ (ps : List ℕ). ps ++ positions_of (multi_nodes locations (located_from 0
    (forest_of rule c.as_u64.result)))) c.new-found.ensures.items
    ∙ ap (λ ps. positions_of (multi_nodes locations ps)) (located_from-zero (forest_of rule c.as_u64.result))
    ∙ ap (λ n. positions_of (multi_nodes locations (peaks_of rule n))) c.as_u64.ensures in
    record {
      all = subst (λ ps. IsPermutation ps c.sort_by_key.new.self.items) found c.in_ok-sort_by_key.ensures.permutation;
      ascending = IsNonDecreasingBy-from_sort_by_key (λ (p : ℕ). p) _ c.in_ok-sort_by_key.ensures.sorted (λ a r q k. search rules);
    }
