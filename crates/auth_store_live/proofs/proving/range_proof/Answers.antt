use Rattle.std.proofs.Common.{None, refl, sym}
use Rattle.std.proofs.lemmas.Result.{err_from_is_err_and}
use Rattle.auth_store_machine.proofs.Readings.{cause_told, left_told, proof_cause, proof_left, proof_names, proof_stays, read_all}
use Rattle.auth_store_live.proofs.proving.range_proof.Goals as goal

pub returns-in_err-prove_range-clause-names : goal.returns-in_err-prove_range-clause-names
returns-in_err-prove_range-clause-names g c = proof_names _ _ _ _ _ _ _ _ _ c.in_err-prove_range.ensures.err

pub returns-clause-names : goal.returns-clause-names
returns-clause-names g c = (c.in_ok-prove_range.ensures.leads.0, c.in_ok-prove_range.ensures.leads.1)

pub returns-in_err-prove_range-clause-readable : goal.returns-in_err-prove_range-clause-readable
returns-in_err-prove_range-clause-readable g c = proof_stays _ _ _ _ _ _ _ _ _ c.in_err-prove_range.ensures.err c.requires.may

pub returns-clause-readable : goal.returns-clause-readable
returns-clause-readable g c = c.in_ok-prove_range.ensures.leads.3.readable c.requires.may

pub returns-in_err-prove_range-clause-reads : goal.returns-in_err-prove_range-clause-reads
returns-in_err-prove_range-clause-reads g c =
    let told = err_from_is_err_and c.from_residual.result c.from_residual.ensures.1 in
    left_told _ _ _ _ _ told.1 told.2 (proof_left _ _ _ _ _ _ _ _ _ c.in_err-prove_range.ensures.err)

pub returns-clause-reads : goal.returns-clause-reads
returns-clause-reads g c = read_all _ _ _ _ None refl refl c.in_ok-prove_range.ensures.leads.3

pub returns-in_err-prove_range-clause-refused : goal.returns-in_err-prove_range-clause-refused
returns-in_err-prove_range-clause-refused g c =
    let told = err_from_is_err_and c.from_residual.result c.from_residual.ensures.1 in
    cause_told _ _ _ _ told.1 told.2 (proof_cause _ _ _ _ _ _ _ _ _ c.in_err-prove_range.ensures.err c.requires.may)

pub returns-clause-ok : goal.returns-clause-ok
returns-clause-ok g c = sym c.in_ok-prove_range.ensures.ok
