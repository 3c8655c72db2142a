use Rattle.std.proofs.Common.{ℕ, List, map, ◌∙◌, ap}
use Rattle.std.specs.Prelude.{option_map}
use Rattle.merkle_forest.specs.declared.bagging.Bagging.{Bagging}
use Rattle.merkle_forest.specs.declared.bagging.Bagging.TheVariants.{BackwardFold}
use Rattle.merkle_forest.specs.Forest.{Rule}
use Rattle.merkle_forest.specs.Hashing.{Hash}
use Rattle.merkle_forest.specs.Made.{value}
use Rattle.merkle_theory.specs.MadeTrees.{plain_over}
use Rattle.merkle_theory.specs.Reads.{range_root}
use Rattle.merkle_theory.specs.Soundness.{plain_names}
use Rattle.auth_store_client.proofs.Slices.{plainly}
use Rattle.auth_store_client.proofs.slice.operations_root.Goals as goal

pub returns : goal.returns
returns g c =
    let rule : Rule = g.F.Family.merge_rule in
    let hash : Hash = g.H.HashFunction.hash_of in
    let leaves : ℕ = c.args.proof.now.leaves in
    let inactive : ℕ = c.args.proof.now.inactive_peaks in
    let elements : List (List ℕ) = map (λ operation. operation.now) c.args.operations.now in
    let digests : List (List ℕ) = map g.H.Digest.Write.encoding c.args.proof.now.digests.items in
    ap (option_map g.H.Digest.Write.encoding) c.ok.ensures.value ∙ c.reconstruct_range.ensures.root plain_names plain_over (plainly rule hash)
    ∙ ap (λ (b : Bagging). option_map (value hash) (range_root plain_names plain_over b rule leaves inactive c.new.result elements digests))
    c.new-hasher.ensures
    ∙ ap (λ (s : ℕ). option_map (value hash) (range_root plain_names plain_over BackwardFold rule leaves inactive s elements digests)) c.new.ensures
