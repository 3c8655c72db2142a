use Rattle.auth_store_run.proofs.SoundRuns.{run_tells}
use Rattle.auth_store_run.proofs.laws.answered_roots_are_of_sound_histories.Goals as goal

pub returns : goal.returns
returns c = run_tells
