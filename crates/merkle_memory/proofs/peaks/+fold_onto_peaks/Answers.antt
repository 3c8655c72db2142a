use Rattle.std.proofs.Common.{◌-◌, take, sym, ◌∙◌, ap, arith}
use Rattle.merkle_forest.specs.Hashing.{folded_onto}
use Rattle.merkle_core_parts.specs.Mem.{digests_from, node_at}
use Rattle.merkle_core_parts.specs.Laws.Peaks.{digests-left, fold-step}
use Rattle.merkle_memory.proofs.peaks.+fold_onto_peaks.Goals as goal

pub peak_at-digest-requires-clause-before : goal.peak_at-digest-requires-clause-before
peak_at-digest-requires-clause-before g t c =
    digests-left g.F.Family.merge_rule g.met.F.Family.merges_equals c.args.leaves c.args.first
    (node_at g.F.Family.merge_rule c.args.tree.now) (omega arith)

pub returns-clause-folded : goal.returns-clause-folded
returns-clause-folded g t c =
    let next = digests_from g.F.Family.merge_rule c.args.leaves (node_at g.F.Family.merge_rule c.args.tree.now)
    c.peak_at-digest.result.1 in
    c.fold_onto_peaks.ensures.folded
    ∙ ap (λ d. folded_onto g.H.Hasher.hash_of d (take (c.args.count - 1) next)) c.fold-folded.ensures
    ∙ sym (fold-step g.H.Hasher.hash_of (g.H.Digest.Write.encoding c.args.folded)
    (g.H.Digest.Write.encoding c.peak_at-digest.result.0) _ next c.args.count
    c.peak_at-digest.ensures.digest (omega arith))
