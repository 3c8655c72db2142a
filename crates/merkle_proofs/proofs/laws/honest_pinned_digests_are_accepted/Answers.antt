use Rattle.std.proofs.Common.{refl, length, arith}
use Rattle.merkle_forest.specs.Hashing.{node_string}
use Rattle.merkle_forest.specs.Trees.{plain_digest}
use Rattle.merkle_theory.proofs.BuiltRoots.{plain_root}
use Rattle.merkle_proofs.proofs.PinnedHonest.{honest_pinned}
use Rattle.merkle_proofs.proofs.laws.honest_pinned_digests_are_accepted.Goals as goal

pub returns : goal.returns
returns g c =
    let rule = g.F.Family.merge_rule in
    let pairs = g.met.F.Family.merges_equals in
    record {
      pinned = λ hash node_of none bagging digest leaf_total inactive start stop some within made.
          honest_pinned node_of none digest rule pairs leaf_total start stop (omega (arith, some, within)) made hash bagging inactive some;
      made = λ node leaf_digests leaf_total start first p left right stands ends. refl;
      listed = λ hash none bagging elements inactive start stop few some within enough. (
        plain_root rule pairs hash bagging elements inactive start stop few some within enough,
        honest_pinned (λ p left right. hash (node_string p left right)) none (plain_digest hash elements) rule pairs (length elements) start stop
            (omega (arith, some, within)) (λ first p left right stands ends. refl) hash bagging inactive some,
      );
    }
