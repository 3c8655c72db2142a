use Rattle.std.proofs.lemmas.Bool.{leb-true, le-leb, eqb-true, eq-eqb}
use Rattle.merkle_forest.specs.Laws.Maximal.{born-there, never-there}
use Rattle.merkle_forest.proofs.chunk_peaks.has_node.Goals as goal

pub returns-then-first-height-eq0 : goal.returns-then-first-height-eq0
returns-then-first-height-eq0 g c =
    let it = born-there g.F.Family.merge_rule g.F.Graftable.birth_of c.args.leaves c.args.first c.args.height
    c.birth.result g.met.F.Graftable.births c.requires.low c.if-first-height-eq0.true c.birth.ensures in (
      λ born. it.1 (leb-true c.birth.result c.args.leaves born),
      λ found.
          le-leb c.birth.result c.args.leaves (it.0 found),
    )

pub returns-else-first-height-eq0 : goal.returns-else-first-height-eq0
returns-else-first-height-eq0 g c = (
  λ even. absurd (c.if-first-height-eq0.false (eqb-true _ 0 even)),
  λ found. eq-eqb _ 0 (never-there g.F.Family.merge_rule c.args.leaves c.args.first c.args.height
      g.met.F.Graftable.aligned c.requires.low found),
)
