use Rattle.std.proofs.Common.{ℕ, ap, subst}
use Rattle.merkle_theory.specs.Multi.{IsRefusalToProveMany}
use Rattle.merkle_proofs.specs.ProofStores.{Kept, known_with}
use Rattle.merkle_proofs.proofs.proof_store.ProofStore.multi_proof.Goals as goal

pub returns-in-Err-clause-refused : goal.returns-in-Err-clause-refused
returns-in-Err-clause-refused g c =
    let store = c.args.self.now in
    let known = known_with g.D.Write.encoding store.nodes c.args.peaks.now in
    let Why : ℕ → Type 0 = λ n. IsRefusalToProveMany g.F.Family.merge_rule store.leaves c.args.locations.now n known c.in-Err.error in
    c.refusal.ensures c.args.locations.now known
    (subst Why (ap (λ (s : Kept _). s.inactive) c.self.view_is) c.in-Err.ensures.refused)
