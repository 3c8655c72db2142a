use Rattle.auth_store_machine.proofs.Runs.{stands_in_doubt}
use Rattle.auth_store_laws.proofs.what_stands_stands_in_doubt.Goals as goal

pub returns : goal.returns
returns g c = λ format parts store state stands. stands_in_doubt format parts store state stands
