use Rattle.std.proofs.Common.{List, ℕ, sym, subst}
use Rattle.state_theory.specs.Canonical.{Setting, canonical_root}
use Rattle.state_proofs.specs.Exclusion.{proof_of, operation_as}
use Rattle.state_theory.specs.Honest.{honest_parts}
use Rattle.state_theory.specs.Verified.{Parts, Verifies}
use Rattle.state_theory.proofs.Alone.{at_place, within_list}
use Rattle.state_proofs.proofs.exclusion.laws.honest_absences_of_any_size_verify.Goals as goal

pub returns : goal.returns
returns g c hash width grafting_height spelled state proof span key whole low few honest active out =
    let setting : Setting = record {
      rule = g.F.Family.merge_rule;
      hash = hash;
      width = width;
      grafting_height = grafting_height;
    } in
    let location : ℕ = (proof_of proof).location in
    let operation : List ℕ = operation_as spelled proof in
    let root : List ℕ = canonical_root setting state in
    record {
      leaves_out = out;
      verifies = subst (λ (parts : Parts). Verifies g.F.Family.merge_rule hash root parts operation) (sym honest)
          (subst (λ (shown : List ℕ). Verifies g.F.Family.merge_rule hash root (honest_parts setting state location) shown)
          (at_place state.operations location operation active.stands)
          (c.honest_proofs_verify.ensures hash width grafting_height state location whole low few
          (within_list state.operations location operation active.stands) active.active));
    }
