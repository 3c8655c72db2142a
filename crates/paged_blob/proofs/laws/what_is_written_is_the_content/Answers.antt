use Rattle.paged_blob_parts.proofs.WriterLaws.{written_is}
use Rattle.paged_blob.proofs.laws.what_is_written_is_the_content.Goals as goal

pub returns : goal.returns
returns c sum calls w content some is = written_is sum calls w some content is
