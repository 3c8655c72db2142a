use Rattle.std.proofs.Common.{◌≡◌, ◌<◌, ◌-◌, ◌∷◌, [], length, take, drop, sym, ◌∙◌, ap}
use Rattle.merkle_forest.specs.Forest.{forest_of}
use Rattle.merkle_forest.specs.declared.bagging.Bagging.TheVariants.{BackwardFold}
use Rattle.merkle_forest.specs.Hashing.{fold_string, folded_onto, folded_backward, items, bagged}
use Rattle.merkle_forest.specs.Laws.Peaks.{cut-zero}
use Rattle.merkle_core_parts.specs.Mem.{digests_from, node_at}
use Rattle.merkle_core_parts.specs.Laws.Peaks.{digests-end, digests-some, back-step, bagged-backward}
use Rattle.merkle_memory.proofs.peaks.bag_backward.Goals as goal

pub peak_at-first-requires-clause-cut : goal.peak_at-first-requires-clause-cut
peak_at-first-requires-clause-cut g c = cut-zero (forest_of g.F.Family.merge_rule c.args.leaves)

pub returns-then-next-leaves : goal.returns-then-next-leaves
returns-then-next-leaves g c =
    let hash = g.H.Hasher.hash_of in
    let own = g.H.Digest.Write.encoding c.peak_at-first.result.0 in
    let digests = node_at g.F.Family.merge_rule c.args.tree.now in
    let next = digests_from g.F.Family.merge_rule c.args.leaves digests c.peak_at-first.result.1 in
    let none : drop (c.args.inactive - 1) next ≡ [] =
    ap (λ n. drop n next) (sym c.saturating_sub-more.ensures)
    ∙ sym c.fold_onto_peaks-folded.ensures.rest
    ∙ digests-end g.F.Family.merge_rule g.met.F.Family.merges_equals c.args.leaves
    c.fold_onto_peaks-folded.result.1 digests c.if-next-leaves.true in
    c.fold_onto_peaks-folded.ensures.folded
    ∙ ap (λ n. folded_onto hash own (take n next)) c.saturating_sub-more.ensures
    ∙ sym (ap (λ all. bagged hash BackwardFold (items hash c.args.inactive all)) c.peak_at-first.ensures.digest
    ∙ bagged-backward hash c.args.inactive own next
    ∙ ap (λ rest. folded_backward hash (folded_onto hash own (take (c.args.inactive - 1) next) ∷ rest)) none)

pub returns : goal.returns
returns g c =
    let hash = g.H.Hasher.hash_of in
    let own = g.H.Digest.Write.encoding c.peak_at-first.result.0 in
    let digests = node_at g.F.Family.merge_rule c.args.tree.now in
    let next = digests_from g.F.Family.merge_rule c.args.leaves digests c.peak_at-first.result.1 in
    let front = folded_onto hash own (take (c.args.inactive - 1) next) in
    let last = digests_from g.F.Family.merge_rule c.args.leaves digests c.fold_onto_peaks-folded.result.1 in
    let rest : last ≡ drop (c.args.inactive - 1) next =
    c.fold_onto_peaks-folded.ensures.rest ∙ ap (λ n. drop n next) c.saturating_sub-more.ensures in
    let folded : g.H.Digest.Write.encoding c.fold_onto_peaks-folded.result.0 ≡ front =
    c.fold_onto_peaks-folded.ensures.folded
    ∙ ap (λ n. folded_onto hash own (take n next)) c.saturating_sub-more.ensures in
    let some : 0 < length last =
    digests-some g.F.Family.merge_rule g.met.F.Family.merges_equals c.args.leaves
    c.fold_onto_peaks-folded.result.1 digests c.fold_onto_peaks-folded.ensures.cut c.if-next-leaves.false in
    c.fold.ensures
    ∙ ap (λ d. hash (fold_string d (g.H.Digest.Write.encoding c.fold_peaks_backward-rest.result))) folded
    ∙ ap (λ d. hash (fold_string front d)) c.fold_peaks_backward-rest.ensures
    ∙ sym (back-step hash front last some)
    ∙ ap (λ r. folded_backward hash (front ∷ r)) rest
    ∙ sym (ap (λ all. bagged hash BackwardFold (items hash c.args.inactive all)) c.peak_at-first.ensures.digest
    ∙ bagged-backward hash c.args.inactive own next)
