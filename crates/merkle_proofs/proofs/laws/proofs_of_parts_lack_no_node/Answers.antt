use Rattle.merkle_proofs.proofs.PartNodes.{part_planned, folds_there, part_kept, none_missing, memory_alone}
use Rattle.merkle_proofs.proofs.laws.proofs_of_parts_lack_no_node.Goals as goal

pub returns : goal.returns
returns g c = record {
  planned = λ store start stop part. part_planned g.F.Family.merge_rule store start stop part;
  folds = λ hash digest store are. folds_there g.D.Write.encoding hash g.F.Family.merge_rule digest store are;
  kept = λ store start stop part. part_kept g.F.Family.merge_rule store start stop part;
  known = λ digest store start stop part are. none_missing g.D.Write.encoding g.F.Family.merge_rule digest store start stop part are;
  refused = λ digest store start stop error part are why.
      memory_alone g.D.Write.encoding g.F.Family.merge_rule digest store start stop error part are why;
}
