use Rattle.std.proofs.Common.{ℕ, ◌+◌, length}
use Rattle.merkle_forest.specs.Made.{Made}
use Rattle.merkle_proofs.specs.Extracted.{AreMadeOf, AreGiven}
use Rattle.merkle_theory.specs.Laws.Sound.{if_some}
use Rattle.merkle_theory.specs.MadeRoots.{from_left, peaks_of}
use Rattle.merkle_theory.specs.MadeTrees.{from}
use Rattle.merkle_theory.specs.Ranges.{Digests}
use Rattle.merkle_theory.specs.Reads.{range_root}
use Rattle.merkle_proofs.proofs.GivenDigests.{HasGiven, root_gives}
use Rattle.merkle_proofs.proofs.laws.proofs_that_lead_to_a_root_give_digests.Goals as goal

pub returns : goal.returns
returns g c names over bagging leaves inactive start shown digests leaf_of node_of =
    let rule = g.F.Family.merge_rule in
    let peaks = peaks_of rule leaves in
    let stop : ℕ = start + length shown in
    let k : ℕ = from_left bagging inactive (length peaks) in
    let Has : Made → Type 0 = λ made. HasGiven leaf_of node_of (from start shown) start stop k peaks digests in
    let Gives : Made → Type 0 = λ made. (digest : Digests) × AreMadeOf leaf_of node_of (from start shown) start stop digest
    × AreGiven k start stop peaks digest digests in
    if_some Has Gives (range_root names over bagging rule leaves inactive start shown digests)
    (root_gives names over bagging rule g.met.F.Family.merges_equals leaves inactive start shown digests leaf_of node_of)
    (λ made it. (it.digest, it.made, it.given))
