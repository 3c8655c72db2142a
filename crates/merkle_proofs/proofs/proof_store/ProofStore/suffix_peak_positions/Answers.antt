use Rattle.std.proofs.Common.{◌≡◌, ◌++◌, filter, drop, ◌∙◌, ap, subst}
use Rattle.merkle_forest.specs.Forest.{forest_of}
use Rattle.merkle_forest.specs.Laws.Peaks.{located_from-zero}
use Rattle.merkle_theory.specs.MadeRoots.{peaks_of}
use Rattle.merkle_theory.specs.Plans.{positions_of}
use Rattle.merkle_proofs.specs.ProofStores.{Kept, suffix_positions}
use Rattle.merkle_theory.specs.Ranges.{is_after}
use Rattle.merkle_theory.proofs.Places.{first_of}
use Rattle.merkle_proofs.proofs.proof_store.ProofStore.suffix_peak_positions.Goals as goal

pub sides_of-first-requires-clause-begins : goal.sides_of-first-requires-clause-begins
sides_of-first-requires-clause-begins g c some = first_of g.F.Family.merge_rule g.met.F.Family.merges_equals c.self.inside.leaves some

pub returns : goal.returns
returns g c =
    let rule = g.F.Family.merge_rule in
    let store = c.self.inside in
    let later = c.sides_of-first.ensures.next ∙ ap (drop store.singles) (located_from-zero (forest_of rule store.leaves)) in
    let found = c.append_side.new.found.items in
    let Found : Kept _ → Type 0 = λ s. found ≡ suffix_positions rule s in
    subst Found c.self.view_is
    (c.in_ok-append_side.ensures ∙ ap (λ ps. c.new-found.result.items ++ positions_of (filter (is_after store.stop) ps)) later
    ∙ ap (λ old. old ++ positions_of (filter (is_after store.stop) (drop store.singles (peaks_of rule store.leaves)))) c.new-found.ensures.items)
