use Rattle.std.proofs.Common.{◌*◌, ◌-◌, length, drop, sym, ◌∙◌, ap}
use Rattle.std.proofs.lemmas.List.{length-replicate}
use Rattle.state_theory.specs.Laws.Bits.{kept_chunk, length-chunk_of}
use Rattle.state_proofs_parts.proofs.bitmap.PrunableBitmapReadable.get_chunk.Goals as goal

pub copy_from_slice-requires : goal.copy_from_slice-requires
copy_from_slice-requires g c =
    let bits = c.args.self.now in
    length-replicate g.row.N 0
    ∙ sym (ap length c.get_chunk.ensures ∙ length-chunk_of g.row.N (drop (8 * g.row.N * (c.args.index - bits.pruned)) bits.kept))

pub returns : goal.returns
returns g c = c.copy_from_slice.ensures.after ∙ c.get_chunk.ensures ∙ kept_chunk g.row.N c.args.index c.args.self.now c.requires.kept
