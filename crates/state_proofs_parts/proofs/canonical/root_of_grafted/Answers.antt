use Rattle.std.proofs.Common.{◌*◌, sym, ◌∙◌, ap, length, map, rules}
use Rattle.std.proofs.lemmas.List.{length-map}
use Rattle.merkle_forest.specs.Forest.{forest_of}
use Rattle.merkle_forest.specs.Shape.{shape}
use Rattle.merkle_forest.specs.TreesCode.{shapes}
use Rattle.state_theory.specs.Canonical.{chunk_bits}
use Rattle.state_theory.specs.Grafting.{grafted_digest, chunk_aligned_inactive_peaks}
use Rattle.state_proofs_parts.specs.Snapshot.{state_of, setting_of}
use Rattle.state_theory.specs.Laws.Roots.{is_grafted_root, is_grafted_digests}
use Rattle.state_proofs_parts.proofs.canonical.root_of_grafted.Goals as goal

pub returns : goal.returns
returns g c =
    let sized = sym (length-map c.args.snapshot.now.operations.now (λ e. e.items)) in
    let hash = g.H.HashFunction.hash_of in
    let setting = setting_of g.F.Family.merge_rule hash c.args.snapshot.now in
    let state = state_of c.args.snapshot.now in
    let grafts = c.grafted_trees-grafted.ensures in
    let found = c.grafted_trees-grafted.result in
    is_grafted_root setting state c.new-hasher.result.bagging
    (length c.args.snapshot.now.operations.now) c.aligned_count_of-inactive.result
    (map shape c.args.trees.now) (shapes c.in_ok-peaks.peaks.items)
    (grafted_digest hash found.chunk_size.grafting_height (8 * found.chunk_size.width)
    (map (λ e. e.items) found.chunks.now) (map (λ e. e.items) found.elements.now))
    (map g.H.Digest.Write.encoding c.deref-2.result.now) (g.H.Digest.Write.encoding c.unwrap.result)
    c.new-hasher.ensures
    (c.requires.grown ∙ ap (forest_of g.F.Family.merge_rule) sized) c.in_ok-peaks.ensures.located
    (c.aligned_count_of-inactive.ensures.count
    ∙ ap (λ peaks. chunk_aligned_inactive_peaks (chunk_bits setting) c.args.snapshot.now.floor (shapes peaks))
    c.deref.ensures.value)
    (is_grafted_digests setting state found.chunk_size.grafting_height (8 * found.chunk_size.width)
    (map (λ e. e.items) found.chunks.now) (map (λ e. e.items) found.elements.now)
    (ap (map (λ e. e.items)) grafts.elements) (ap (map (λ e. e.items)) grafts.chunks
    ∙ c.requires.chunked) (ap (λ s. s.grafting_height) grafts.size) (ap (λ s. 8 * s.width) grafts.size))
    (ap (map g.H.Digest.Write.encoding) c.deref-2.ensures.value ∙ c.in_ok-digests.ensures.digests)
    sized (search (rules, c.unwrap.ensures, c.root.ensures.root, c.new-leaves.ensures))
