use Rattle.auth_store_machine.proofs.Opens.{still_shows}
use Rattle.auth_store_session.proofs.laws.an_opening_given_up_loses_nothing.Goals as goal

pub returns : goal.returns
returns c = still_shows
