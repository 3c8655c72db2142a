use Rattle.paged_blob.proofs.Recovered.{whole_withstands}
use Rattle.paged_blob.proofs.laws.what_is_shown_withstands.Goals as goal

pub returns : goal.returns
returns c sum size calls footer settled = whole_withstands sum size calls footer settled
