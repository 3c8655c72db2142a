use Rattle.std.proofs.Common.{◌∙◌, ap}
use Rattle.merkle_forest.specs.Laws.Paths.{path-down}
use Rattle.merkle_forest.specs.Paths.{path_by}
use Rattle.merkle_forest.proofs.path.Iterator.new.Goals as goal

pub returns-clause-down : goal.returns-clause-down
returns-clause-down g c n node stands high =
    let root_of = g.F.Graftable.root_of in
    ap (λ target. path_by root_of target c.as_u64-2.result c.args.height) c.as_u64-3.ensures
    ∙ ap (λ first. path_by root_of c.args.target_loc first c.args.height) c.as_u64-2.ensures
    ∙ ap (path_by root_of c.args.target_loc c.args.first_leaf_loc) high
    ∙ path-down g.F.Family.merge_rule g.met.F.Family.merges_equals root_of g.met.F.Graftable.roots c.args.target_loc n
    c.args.first_leaf_loc node stands
