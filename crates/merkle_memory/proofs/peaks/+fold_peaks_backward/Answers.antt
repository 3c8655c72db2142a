use Rattle.std.proofs.Common.{sym, ◌∙◌, ap, ◌∷◌}
use Rattle.merkle_forest.specs.Hashing.{folded_backward, fold_string}
use Rattle.merkle_core_parts.specs.Mem.{node_at}
use Rattle.merkle_core_parts.specs.Laws.Peaks.{digests-end, digests-some, back-step}
use Rattle.merkle_memory.proofs.peaks.+fold_peaks_backward.Goals as goal

pub returns-then-next-leaves : goal.returns-then-next-leaves
returns-then-next-leaves g t c =
    let hash = g.H.Hasher.hash_of in
    let own = g.H.Digest.Write.encoding c.peak_at-digest.result.0 in
    sym (ap (folded_backward hash) c.peak_at-digest.ensures.digest
    ∙ ap (λ rest. folded_backward hash (own ∷ rest))
    (digests-end g.F.Family.merge_rule g.met.F.Family.merges_equals c.args.leaves c.peak_at-digest.result.1
    (node_at g.F.Family.merge_rule c.args.tree.now) c.if-next-leaves.true))

pub returns : goal.returns
returns g t c =
    let hash = g.H.Hasher.hash_of in
    let own = g.H.Digest.Write.encoding c.peak_at-digest.result.0 in
    c.fold.ensures
    ∙ ap (λ rest. hash (fold_string own rest)) c.fold_peaks_backward-rest.ensures
    ∙ sym (ap (folded_backward hash) c.peak_at-digest.ensures.digest
    ∙ back-step hash own _ (digests-some g.F.Family.merge_rule g.met.F.Family.merges_equals c.args.leaves
    c.peak_at-digest.result.1 (node_at g.F.Family.merge_rule c.args.tree.now) c.peak_at-digest.ensures.cut
    c.if-next-leaves.false))
