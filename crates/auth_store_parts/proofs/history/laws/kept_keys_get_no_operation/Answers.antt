use Rattle.auth_store_parts.proofs.Batches.{kept_untouched, absent_untouched}
use Rattle.auth_store_parts.proofs.history.laws.kept_keys_get_no_operation.Goals as goal

pub returns-clause-kept : goal.returns-clause-kept
returns-clause-kept c = kept_untouched

pub returns-clause-absent : goal.returns-clause-absent
returns-clause-absent c = absent_untouched
