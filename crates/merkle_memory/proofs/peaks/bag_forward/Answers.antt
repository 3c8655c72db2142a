use Rattle.std.proofs.Common.{◌-◌, length, sym, ◌∙◌, ap, arith}
use Rattle.std.proofs.lemmas.List.{take_all}
use Rattle.merkle_forest.specs.Forest.{forest_of}
use Rattle.merkle_forest.specs.declared.bagging.Bagging.TheVariants.{ForwardFold}
use Rattle.merkle_forest.specs.Hashing.{folded_onto, items, bagged}
use Rattle.merkle_forest.specs.Laws.Peaks.{cut-zero}
use Rattle.merkle_core_parts.specs.Mem.{digests_from, node_at}
use Rattle.merkle_core_parts.specs.Laws.Peaks.{bagged-forward}
use Rattle.merkle_memory.proofs.peaks.bag_forward.Goals as goal

pub peak_at-first-requires-clause-cut : goal.peak_at-first-requires-clause-cut
peak_at-first-requires-clause-cut g c = cut-zero (forest_of g.F.Family.merge_rule c.args.leaves)

pub returns : goal.returns
returns g c inactive =
    let hash = g.H.Hasher.hash_of in
    let own = g.H.Digest.Write.encoding c.peak_at-first.result.0 in
    let next = digests_from g.F.Family.merge_rule c.args.leaves (node_at g.F.Family.merge_rule c.args.tree.now)
    c.peak_at-first.result.1 in
    let all = ap length c.peak_at-first.ensures.digest in
    c.fold_onto_peaks-folded.ensures.folded
    ∙ ap (folded_onto hash own) (take_all (c.args.count - 1) next (omega (arith, c.requires.all, all)))
    ∙ sym (ap (λ digests. bagged hash ForwardFold (items hash inactive digests)) c.peak_at-first.ensures.digest
    ∙ bagged-forward hash inactive own next)
