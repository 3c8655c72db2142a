use Rattle.paged_blob_parts.proofs.StandLaws.{sealed_stays}
use Rattle.paged_blob_parts.proofs.sealed.a_sealed_list_stays.Goals as goal

pub returns : goal.returns
returns c = sealed_stays
