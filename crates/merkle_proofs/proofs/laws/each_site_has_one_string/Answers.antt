use Rattle.merkle_theory.proofs.MultiOneEach.{many_one}
use Rattle.merkle_theory.proofs.OneEachRoot.{hashed_one, rebuilt_one}
use Rattle.merkle_proofs.proofs.PinnedBeside.{beside_one}
use Rattle.merkle_proofs.proofs.PinnedOneEach.{pinned_one}
use Rattle.merkle_proofs.proofs.laws.each_site_has_one_string.Goals as goal

pub returns : goal.returns
returns g c = record {
  hashed = λ hash bagging elements inactive. hashed_one hash bagging g.F.Family.merge_rule g.met.F.Family.merges_equals elements inactive;
  shown = λ hash bagging leaf_total inactive shown digests.
      many_one hash bagging g.F.Family.merge_rule g.met.F.Family.merges_equals leaf_total inactive shown digests;
  rebuilt = λ hash bagging claim. rebuilt_one hash bagging g.F.Family.merge_rule g.met.F.Family.merges_equals claim;
  pinned = λ hash none bagging claim digests.
      pinned_one hash none bagging g.F.Family.merge_rule g.met.F.Family.merges_equals claim digests;
  beside = λ hash none bagging claim digests.
      beside_one hash none bagging g.F.Family.merge_rule g.met.F.Family.merges_equals claim digests;
}
