use Rattle.std.proofs.Common.{None, refl}
use Rattle.std.proofs.lemmas.Result.{err_from_is_err_and}
use Rattle.auth_store_machine.proofs.Readings.{cause_told, left_told, read_all, read_cause, read_left, read_names, read_stays}
use Rattle.auth_store_live.proofs.proving.key_proof.Goals as goal

pub returns-in_err-prove_key-clause-names : goal.returns-in_err-prove_key-clause-names
returns-in_err-prove_key-clause-names g c = read_names _ _ _ _ _ _ _ _ c.in_err-prove_key.ensures.refused

pub returns-clause-names : goal.returns-clause-names
returns-clause-names g c = (c.in_ok-prove_key.ensures.leads.0, c.in_ok-prove_key.ensures.leads.1)

pub returns-in_err-prove_key-clause-readable : goal.returns-in_err-prove_key-clause-readable
returns-in_err-prove_key-clause-readable g c = read_stays _ _ _ _ _ _ _ _ c.in_err-prove_key.ensures.refused c.requires.may

pub returns-clause-readable : goal.returns-clause-readable
returns-clause-readable g c = c.in_ok-prove_key.ensures.leads.3.readable c.requires.may

pub returns-in_err-prove_key-clause-reads : goal.returns-in_err-prove_key-clause-reads
returns-in_err-prove_key-clause-reads g c =
    let told = err_from_is_err_and c.from_residual.result c.from_residual.ensures.1 in
    left_told _ _ _ _ _ told.1 told.2 (read_left _ _ _ _ _ _ _ _ c.in_err-prove_key.ensures.refused)

pub returns-clause-reads : goal.returns-clause-reads
returns-clause-reads g c = read_all _ _ _ _ None refl refl c.in_ok-prove_key.ensures.leads.3

pub returns-in_err-prove_key-clause-refused : goal.returns-in_err-prove_key-clause-refused
returns-in_err-prove_key-clause-refused g c =
    let told = err_from_is_err_and c.from_residual.result c.from_residual.ensures.1 in
    cause_told _ _ _ _ told.1 told.2 (read_cause _ _ _ _ _ _ _ _ c.in_err-prove_key.ensures.refused c.requires.may)
