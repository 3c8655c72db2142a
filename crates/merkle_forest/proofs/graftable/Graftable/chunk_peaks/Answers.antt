use Rattle.std.proofs.Common.{◌≡◌, ◌≤◌, ◌+◌, ◌*◌, ◌^◌, ◌∙◌, ap, arith}
use Rattle.merkle_forest.specs.Forest.{forest_of}
use Rattle.merkle_forest.specs.Laws.ForestGrowth.{size-le}
use Rattle.merkle_forest.specs.Maximal.{maximal_positions}
use Rattle.merkle_forest.proofs.graftable.Graftable.chunk_peaks.Goals as goal

pub returns : goal.returns
returns g c n few is =
    let rule = g.Self.Family.merge_rule in
    let first = c.args.chunk * 2 ^ c.args.grafting_height in
    let most : n ≤ c.greatest_leaf_count.result =
    c.greatest_leaf_count.ensures.greatest n few (omega (arith, is, c.as_u64.ensures)) in
    let least : c.greatest_leaf_count.result ≤ n =
    size-le rule g.met.Self.Family.merges_equals c.greatest_leaf_count.result n
    (omega (arith, is, c.as_u64.ensures, c.greatest_leaf_count.ensures.within)) in
    let found : c.greatest_leaf_count.result ≡ n = omega arith in
    c.new.ensures ∙ ap (λ k. maximal_positions first (first + 2 ^ c.args.grafting_height) (forest_of rule k)) found
