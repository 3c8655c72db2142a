use Rattle.std.proofs.Common.{sym, ◌∙◌, ap, length, map, rules}
use Rattle.std.proofs.lemmas.List.{length-map}
use Rattle.merkle_forest.specs.Forest.{forest_of}
use Rattle.merkle_forest.specs.Shape.{shape}
use Rattle.merkle_forest.specs.Trees.{inactive_peaks, peak_digests, plain_digest}
use Rattle.merkle_forest.specs.TreesCode.{shapes}
use Rattle.state_proofs_parts.specs.Snapshot.{state_of, setting_of}
use Rattle.state_theory.specs.Laws.Roots.{is_operations_root}
use Rattle.state_proofs_parts.proofs.canonical.root_of_operations.Goals as goal

pub returns : goal.returns
returns g c =
    let sized = sym (length-map c.args.snapshot.now.operations.now (λ e. e.items)) in
    let hash = g.H.HashFunction.hash_of in
    is_operations_root (setting_of g.F.Family.merge_rule hash c.args.snapshot.now)
    (state_of c.args.snapshot.now) c.new-hasher.result.bagging
    (length c.args.snapshot.now.operations.now) c.inactive_count_of-inactive.result
    (map shape c.args.trees.now) (shapes c.in_ok-peaks.peaks.items)
    (map g.H.Digest.Write.encoding c.deref-2.result.now) (g.H.Digest.Write.encoding c.unwrap.result)
    c.new-hasher.ensures
    (c.requires.grown ∙ ap (forest_of g.F.Family.merge_rule) sized) c.in_ok-peaks.ensures.located
    (c.inactive_count_of-inactive.ensures.count
    ∙ ap (λ peaks. inactive_peaks c.args.snapshot.now.floor (shapes peaks)) c.deref.ensures.value)
    (ap (map g.H.Digest.Write.encoding) c.deref-2.ensures.value ∙ c.in_ok-digests.ensures.digests
    ∙ ap (λ es. peak_digests (plain_digest hash (map (λ e. e.items) es)) (map shape c.args.trees.now))
    c.new-plain.ensures)
    sized (search (rules, c.unwrap.ensures, c.root.ensures.root, c.new-leaves.ensures))
