use Rattle.std.proofs.Common.{◌*◌, sym, ◌∙◌, ap, length, map, ◌≡◌, ℕ}
use Rattle.std.proofs.lemmas.List.{length-map}
use Rattle.merkle_forest.specs.Forest.{forest_of}
use Rattle.merkle_forest.specs.Shape.{shape}
use Rattle.merkle_forest.specs.Trees.{located}
use Rattle.merkle_forest.specs.TreesCode.{shapes}
use Rattle.state_theory.specs.Canonical.{chunk_bits}
use Rattle.state_theory.specs.Grafting.{grafted_digest, chunk_aligned_inactive_peaks}
use Rattle.state_proofs_parts.specs.Snapshot.{state_of, setting_of}
use Rattle.state_theory.specs.Laws.Roots.{is_grafted_digests}
use Rattle.state_theory.proofs.HonestPartLemmas.{is_grafted_inactive, is_grafted_range}
use Rattle.state_proofs.proofs.snapshot.building.grafted_proof.Goals as goal

pub returns-clause-inactive : goal.returns-clause-inactive
returns-clause-inactive g c =
    let setting = setting_of g.F.Family.merge_rule g.H.HashFunction.hash_of c.args.snapshot.now in
    let state = state_of c.args.snapshot.now in
    is_grafted_inactive setting state c.aligned_count_of-inactive.result (map shape c.args.trees.now)
    (shapes c.in_ok-peaks.peaks.items)
    (c.requires.grown ∙ ap (forest_of g.F.Family.merge_rule)
    (sym (length-map c.args.snapshot.now.operations.now (λ e. e.items)))) c.in_ok-peaks.ensures.located
    (c.aligned_count_of-inactive.ensures.count
    ∙ ap (λ found. chunk_aligned_inactive_peaks (chunk_bits setting) c.args.snapshot.now.floor (shapes found))
    c.deref.ensures.value)

pub returns-clause-digests : goal.returns-clause-digests
returns-clause-digests g c =
    let hash = g.H.HashFunction.hash_of in
    let setting = setting_of g.F.Family.merge_rule hash c.args.snapshot.now in
    let state = state_of c.args.snapshot.now in
    let found = c.grafted_trees-grafted.result in
    let grafts = c.grafted_trees-grafted.ensures in
    let grown = c.requires.grown
    ∙ ap (forest_of g.F.Family.merge_rule) (sym (length-map c.args.snapshot.now.operations.now (λ e. e.items))) in
    let counts = is_grafted_inactive setting state c.aligned_count_of-inactive.result (map shape c.args.trees.now)
    (shapes c.in_ok-peaks.peaks.items) grown c.in_ok-peaks.ensures.located
    (c.aligned_count_of-inactive.ensures.count
    ∙ ap (λ found. chunk_aligned_inactive_peaks (chunk_bits setting) c.args.snapshot.now.floor (shapes found))
    c.deref.ensures.value) in
    is_grafted_range setting state c.new-hasher.result.bagging c.args.start c.args.stop
    c.aligned_count_of-inactive.result (shapes c.in_ok-peaks.peaks.items) (shapes c.split_peaks.result.0.now)
    (shapes c.split_peaks.result.1.now)
    (grafted_digest hash found.chunk_size.grafting_height (8 * found.chunk_size.width)
    (map (λ e. e.items) found.chunks.now) (map (λ e. e.items) found.elements.now))
    (map g.H.Digest.Write.encoding c.in_ok-digests.digests.items)
    c.new-hasher.ensures counts (c.in_ok-peaks.ensures.located ∙ ap located grown)
    (c.split_peaks.ensures.front
    ∙ ap (λ found. Rattle.std.proofs.Common.take c.aligned_count_of-inactive.result (shapes found))
    c.deref-2.ensures.value)
    (c.split_peaks.ensures.back
    ∙ ap (λ found. Rattle.std.proofs.Common.drop c.aligned_count_of-inactive.result (shapes found))
    c.deref-2.ensures.value)
    (is_grafted_digests setting state found.chunk_size.grafting_height (8 * found.chunk_size.width)
    (map (λ e. e.items) found.chunks.now) (map (λ e. e.items) found.elements.now)
    (ap (map (λ e. e.items)) grafts.elements) (ap (map (λ e. e.items)) grafts.chunks
    ∙ c.requires.chunked) (ap (λ s. s.grafting_height) grafts.size) (ap (λ s. 8 * s.width) grafts.size))
    c.in_ok-digests.ensures
