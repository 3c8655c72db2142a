use Rattle.std.proofs.Common.{length, None, IfSome}
use Rattle.std.proofs.lemmas.Bool.{ltb-true}
use Rattle.std.specs.Prelude.{nat_lt}
use Rattle.merkle_theory.specs.Laws.MadeTrees.{all_sized, choose}
use Rattle.merkle_proofs.specs.ListDigests.{GivesDigestsOrCollides}
use Rattle.merkle_theory.specs.Reads.{claim_of}
use Rattle.merkle_theory.specs.Soundness.{claimed_root}
use Rattle.merkle_proofs.proofs.ListDigests.{gives_or_collides}
use Rattle.merkle_proofs.proofs.laws.shown_digests_are_of_the_list_or_strings_collide.Goals as goal

pub returns : goal.returns
returns g c hash size bagging elements inactive leaves shown_inactive start shown digests hash_sized sized few few_inactive =
    let rule = g.F.Family.merge_rule in
    let claim = claim_of bagging rule leaves shown_inactive start shown digests in
    choose (λ r. IfSome r (GivesDigestsOrCollides hash bagging rule elements inactive claim)) (nat_lt 0 (length shown))
    (claimed_root bagging rule claim) None
    (λ some. gives_or_collides hash size hash_sized bagging rule g.met.F.Family.merges_equals elements inactive few few_inactive claim
    (ltb-true 0 (length shown) some) (all_sized size digests sized))
    (λ none. tt)
