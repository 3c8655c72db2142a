use Rattle.std.proofs.Common.{◌≡◌, ◌<◌, sym, ◌∙◌, ap, length, map, Some, [], arith}
use Rattle.std.specs.Prelude.{slice_index_or}
use Rattle.std.proofs.lemmas.List.{length-map}
use Rattle.merkle_forest.specs.Forest.{forest_of}
use Rattle.state_theory.specs.Canonical.{full_chunks}
use Rattle.merkle_forest.specs.Nodes.{nodes_of_height}
use Rattle.state_proofs_parts.specs.Snapshot.{state_of, setting_of}
use Rattle.state_theory.specs.Laws.Roots.{is_pending_digest, chunk_is, length-chunks}
use Rattle.state_proofs_parts.proofs.canonical.pending_digest_of.Goals as goal

pub returns-then-graftable-full : goal.returns-then-graftable-full
returns-then-graftable-full g c =
    let hash = g.H.HashFunction.hash_of in
    let setting = setting_of g.F.Family.merge_rule hash c.args.snapshot.now in
    let state = state_of c.args.snapshot.now in
    let graftable = c.graftable_count-graftable.result in
    let found = map (λ chunk. chunk.items) c.args.chunks.now in
    let sized = length-map c.args.snapshot.now.operations.now (λ e. e.items) in
    let full : graftable < full_chunks setting state =
    rw sized (rw c.full_chunks-full.ensures at c.if-graftable-full.true) in
    let counts : graftable ≡ nodes_of_height setting.grafting_height
    (forest_of g.F.Family.merge_rule (length state.operations)) =
    c.graftable_count-graftable.ensures.count ∙ ap (nodes_of_height setting.grafting_height) (c.requires.grown
    ∙ ap (forest_of g.F.Family.merge_rule) (sym sized)) in
    let there : graftable < length c.args.chunks.now =
    omega (
      arith,
      full,
      length-chunks setting state,
      ap length c.requires.chunked,
      length-map c.args.chunks.now
          (λ chunk. chunk.items),
    ) in
    is_pending_digest setting state graftable _ counts full
    (chunk_is g.H.Digest.Write.encoding hash found graftable c.chunk_digest.result
    (c.chunk_digest.ensures.there.1 there) c.chunk_digest.ensures.digest
    ∙ ap (λ found. Some (hash (slice_index_or found graftable []))) c.requires.chunked)
