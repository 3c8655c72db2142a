use Rattle.std.proofs.Common.{◌≡◌, ◌∙◌, ap, length, map, Some, [], arith, eqb, false}
use Rattle.std.specs.Prelude.{slice_index_or}
use Rattle.std.proofs.lemmas.Bool.{ne_eqb}
use Rattle.std.proofs.lemmas.List.{length-map}
use Rattle.state_theory.specs.Canonical.{full_chunks, next_bit}
use Rattle.state_proofs_parts.specs.Snapshot.{state_of, setting_of}
use Rattle.state_theory.specs.Laws.Roots.{is_partial_digest, chunk_is, partial_stands}
use Rattle.state_proofs_parts.proofs.canonical.partial_digest_of.Goals as goal

pub returns : goal.returns
returns g c =
    let hash = g.H.HashFunction.hash_of in
    let setting = setting_of g.F.Family.merge_rule hash c.args.snapshot.now in
    let state = state_of c.args.snapshot.now in
    let sized = length-map c.args.snapshot.now.operations.now (λ e. e.items) in
    let found = map (λ chunk. chunk.items) c.args.chunks.now in
    let full = full_chunks setting state in
    let some : eqb (next_bit setting state) 0 ≡ false =
    rw sized (ne_eqb _ _ (rw c.bit_of.ensures.bit at c.if-bit_of-eq0.false)) in
    let digest = rw (c.full_chunks-full.ensures, ← sized) at c.chunk_digest.ensures.digest in
    let there = rw (c.full_chunks-full.ensures, ← sized) at c.chunk_digest.ensures.there.1 in
    is_partial_digest setting state _ some
    (chunk_is g.H.Digest.Write.encoding hash found full c.chunk_digest.result
    (there (omega (
      arith,
      partial_stands setting state some,
      ap length c.requires.chunked,
      length-map
          c.args.chunks.now (λ chunk. chunk.items),
    ))) digest
    ∙ ap (λ found. Some (hash (slice_index_or found full []))) c.requires.chunked)
