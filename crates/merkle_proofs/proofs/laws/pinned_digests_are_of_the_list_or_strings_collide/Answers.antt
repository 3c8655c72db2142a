use Rattle.std.proofs.Common.{◌<◌, ⊎_elim, inr, ℕ, List, length, replicate, None, IfSome, arith}
use Rattle.std.proofs.lemmas.Bool.{ltb-true}
use Rattle.std.proofs.lemmas.List.{length-replicate}
use Rattle.std.specs.Prelude.{nat_lt}
use Rattle.merkle_forest.specs.Made.{Made, strings}
use Rattle.merkle_theory.specs.Laws.MadeTrees.{all_sized, choose}
use Rattle.merkle_theory.specs.Laws.Sound.{if_some}
use Rattle.merkle_proofs.specs.ListDigests.{stop_of}
use Rattle.merkle_proofs.specs.PinnedSoundness.{PinsListOrCollides, pinned_strings}
use Rattle.merkle_theory.specs.Reads.{claim_of}
use Rattle.merkle_theory.specs.Soundness.{claimed_root, hashed_strings}
use Rattle.merkle_proofs.proofs.ListDigests.{IsTheListOrCollides, list_or_collides}
use Rattle.merkle_proofs.proofs.PinnedSound.{more_collide, are_listed, bag_all, pins_or_collide}
use Rattle.merkle_proofs.proofs.laws.pinned_digests_are_of_the_list_or_strings_collide.Goals as goal

pub returns : goal.returns
returns g c hash size bagging elements inactive leaves shown_inactive start shown digests pinned hash_sized sized pinned_sized few few_inactive are =
    let rule = g.F.Family.merge_rule in
    let pairs = g.met.F.Family.merges_equals in
    let none : List ℕ = replicate size 0 in
    let claim = claim_of bagging rule leaves shown_inactive start shown digests in
    let pins_sized = all_sized size pinned pinned_sized in
    let Pins : Made → Type 0 = PinsListOrCollides hash none bagging rule elements inactive claim pinned in
    choose (λ r. IfSome r Pins) (nat_lt 0 (length shown)) (claimed_root bagging rule claim) None
    (λ shows. let many : 0 < length shown = ltb-true 0 (length shown) shows in
    let some : claim.start < stop_of claim = omega (arith, many) in
    if_some (IsTheListOrCollides hash size hash_sized bagging rule pairs elements inactive few few_inactive claim some) Pins
    (claimed_root bagging rule claim)
    (list_or_collides hash size hash_sized bagging rule pairs elements inactive few few_inactive claim some (all_sized size digests sized))
    (λ made it same. ⊎_elim
    (λ list. pins_or_collide hash size hash_sized none (length-replicate size 0) bagging rule pairs elements inactive claim pinned pins_sized some
    (strings hash made) (omega (arith, list.0.within, list.0.leaf_count))
    (bag_all hash size hash_sized none (length-replicate size 0) bagging rule pairs elements inactive claim pinned pins_sized some
    (strings hash made) list.0.leaf_count list.0.inactive_count)
    are.counted
    (are_listed hash size hash_sized none (length-replicate size 0) bagging rule pairs elements inactive claim pinned pins_sized some
    (strings hash made) are list.1))
    (λ collide. inr (more_collide hash (hashed_strings hash bagging rule elements inactive) (strings hash made)
    (pinned_strings hash none bagging rule claim pinned) collide))
    (it same)))
    (λ none_shown. tt)
