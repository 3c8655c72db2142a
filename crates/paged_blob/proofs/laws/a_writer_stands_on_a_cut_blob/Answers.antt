use Rattle.paged_blob.proofs.CutWriter.{cut_writer}
use Rattle.paged_blob.proofs.laws.a_writer_stands_on_a_cut_blob.Goals as goal

pub returns : goal.returns
returns c sum size some small content calls cut capacity last ends numbers = cut_writer sum size some small content calls cut capacity last ends numbers
