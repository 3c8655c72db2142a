use Rattle.std.proofs.Common.{◌≡◌, ◌≤◌, ◌<◌, ◌^◌, ℕ, ⊎_elim, sym, ◌∙◌, ap, subst, length, true, false, arith}
use Rattle.std.proofs.lemmas.Bool.{cases_lt}
use Rattle.merkle_theory.specs.MadeRoots.{peaks_of}
use Rattle.state_proofs.specs.Built.{IsRefusalOfNodes, lifted}
use Rattle.state_proofs.proofs.BuiltLemmas.{lifted_refusal, aligned_within}
use Rattle.state_proofs.proofs.proof.building.grafted_proof.Goals as goal

pub returns-in-Err-clause-refused : goal.returns-in-Err-clause-refused
returns-in-Err-clause-refused g c = λ known answers.
    let it = c.in-Err.ensures in
    let most : c.leaves.result ≡ c.args.plan.now.leaves = c.leaves.ensures in
    let many : 2 ^ 62 < c.args.plan.now.leaves =
    ⊎_elim (λ lt. lt) (λ le. absurd (let no : false ≡ true = it.answered.1 (omega (arith, le, most)) in cc)) (cases_lt (2 ^ 62) c.args.plan.now.leaves) in
    subst (IsRefusalOfNodes g.F.Family.merge_rule c.args.plan.now known) (sym (c.lift.ensures ∙ ap lifted it.refused)) (most, many)

pub returns-in-Err-build-clause-refused : goal.returns-in-Err-build-clause-refused
returns-in-Err-build-clause-refused g c = λ known answers.
    let rule = g.F.Family.merge_rule in
    let inside : c.in-Ok.inactive ≤ length (peaks_of rule c.args.plan.now.leaves) =
    subst (λ (n : ℕ). c.in-Ok.inactive ≤ length (peaks_of rule n)) c.leaves.ensures
    (subst (λ (k : ℕ). k ≤ length (peaks_of rule c.leaves.result)) (sym c.in-Ok.ensures.count)
    (aligned_within (2 ^ c.args.chunk_size.grafting_height) c.args.floor rule c.leaves.result)) in
    subst (IsRefusalOfNodes rule c.args.plan.now known) (sym c.lift-in-Err-build.ensures)
    (lifted_refusal rule c.args.plan.now c.in-Ok.inactive known c.in-Err-build.e inside (c.in-Err-build.ensures.refused known answers))
