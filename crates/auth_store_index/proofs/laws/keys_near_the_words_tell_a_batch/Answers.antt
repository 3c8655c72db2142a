use Rattle.auth_store_index.specs.Laws.Prevs.{prev_of_next, prev_of_next_with}
use Rattle.auth_store_index.specs.Laws.Told.{near_tell}
use Rattle.auth_store_index.proofs.laws.keys_near_the_words_tell_a_batch.Goals as goal

pub returns : goal.returns
returns c = record { before = prev_of_next; comes = prev_of_next_with; whole = near_tell }
