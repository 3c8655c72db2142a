use Rattle.std.proofs.Common.{◌∙◌, ap, sym, subst}
use Rattle.std.proofs.lemmas.List.{take-map, drop-map}
use Rattle.merkle_forest.specs.Trees.{Within}
use Rattle.merkle_forest.specs.TreesCode.{located_shape, shapes}
use Rattle.merkle_forest.specs.Laws.Trees.{within_take, within_drop}
use Rattle.state_proofs.proofs.snapshot.building.split_peaks.Goals as goal

pub returns-clause-front : goal.returns-clause-front
returns-clause-front c = ap shapes c.split_at.ensures.front
    ∙ sym (take-map located_shape c.args.inactive c.args.peaks.now)

pub returns-clause-back : goal.returns-clause-back
returns-clause-back c = ap shapes c.split_at.ensures.back
    ∙ sym (drop-map located_shape c.args.inactive c.args.peaks.now)

pub returns-clause-within_front : goal.returns-clause-within_front
returns-clause-within_front c =
    λ count h. subst (λ peaks. Within count peaks)
    (sym (ap shapes c.split_at.ensures.front ∙ sym (take-map located_shape c.args.inactive c.args.peaks.now)))
    (within_take count c.args.inactive (shapes c.args.peaks.now) h)

pub returns-clause-within_back : goal.returns-clause-within_back
returns-clause-within_back c =
    λ count h. subst (λ peaks. Within count peaks)
    (sym (ap shapes c.split_at.ensures.back ∙ sym (drop-map located_shape c.args.inactive c.args.peaks.now)))
    (within_drop count c.args.inactive (shapes c.args.peaks.now) h)
