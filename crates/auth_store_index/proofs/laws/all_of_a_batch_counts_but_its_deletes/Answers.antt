use Rattle.auth_store_index.specs.Laws.Touching.{batch_bits}
use Rattle.auth_store_index.proofs.laws.all_of_a_batch_counts_but_its_deletes.Goals as goal

pub returns : goal.returns
returns c = batch_bits
