use Rattle.auth_store_laws.proofs.Begins.{stands_for_none}
use Rattle.auth_store_laws.proofs.a_new_device_stands_for_the_empty_history.Goals as goal

pub returns : goal.returns
returns g c = stands_for_none c.what_is_encoded_is_recorded.ensures
