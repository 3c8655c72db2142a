use Rattle.paged_blob_parts.specs.Laws.Chance.{by_chance_decided}
use Rattle.paged_blob_parts.proofs.laws.chance_is_decided.Goals as goal

pub returns : goal.returns
returns c = by_chance_decided
