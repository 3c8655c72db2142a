use Rattle.std.proofs.Common.{length, sym, ◌∙◌, ap}
use Rattle.std.proofs.lemmas.List.{length-replicate}
use Rattle.state_theory.specs.Laws.Bits.{length-chunk_of}
use Rattle.state_proofs_parts.proofs.prunable.Prunable.get_chunk_containing.Goals as goal

pub copy_from_slice-requires : goal.copy_from_slice-requires
copy_from_slice-requires g c =
    length-replicate g.row.N 0 ∙ sym (ap length c.get_chunk.ensures ∙ length-chunk_of g.row.N _)
