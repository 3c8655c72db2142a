use Rattle.auth_store_index.specs.Laws.Touching.{unnamed_kept, updates_where, deletes_where, touched_tell}
use Rattle.auth_store_index.specs.Laws.Nexts.{next_stays, next_comes}
use Rattle.auth_store_index.proofs.laws.few_keys_tell_a_batch.Goals as goal

pub returns : goal.returns
returns c = record { kept = unnamed_kept; next = next_stays; comes = next_comes; updates = updates_where; deletes = deletes_where; whole = touched_tell }
