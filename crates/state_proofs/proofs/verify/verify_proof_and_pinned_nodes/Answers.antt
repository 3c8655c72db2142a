use Rattle.std.proofs.Common.{◌≡◌, ◌+◌, ◌↔◌, ℕ, List, map, length, replicate, Some, IsTrue, IfOk, ◌∙◌, ap}
use Rattle.merkle_forest.specs.Hashing.{Hash}
use Rattle.merkle_forest.specs.Forest.{Rule}
use Rattle.std.specs.Prelude.{option_map}
use Rattle.merkle_forest.specs.Made.{value}
use Rattle.merkle_theory.specs.MadeRoots.{from_left, peaks_of}
use Rattle.merkle_theory.specs.MadeTrees.{plain_over}
use Rattle.merkle_theory.specs.Pinned.{ArePinned}
use Rattle.merkle_theory.specs.RangeCounts.{range_outer}
use Rattle.merkle_theory.specs.Reads.{range_root}
use Rattle.merkle_theory.specs.Soundness.{plain_names}
use Rattle.state_theory.specs.LogProofs.{branch_hash}
use Rattle.state_theory.proofs.LogLemmas.{plainly, carried}
use Rattle.state_proofs.proofs.verify.verify_proof_and_pinned_nodes.Goals as goal

same : (g : _) (c : goal.After-drop-encoded-2 g) → map (λ e. e.now) c.deref-2.result.now ≡ map g.O.Write.encoding c.args.operations.now
same g c =
    ap (map (λ e. e.now)) c.deref-2.ensures.value ∙ c.in_ok-elements.ensures ∙ ap (map (λ e. e.items)) c.deref.ensures.value
    ∙ c.in_ok-encoded.ensures

pub returns : goal.returns
returns g c =
    let rule : Rule = g.F.Family.merge_rule in
    let hash : Hash = g.H.HashFunction.hash_of in
    let start : ℕ = c.args.start_loc in
    let leaves : ℕ = c.args.proof.now.leaves in
    let inactive : ℕ = c.args.proof.now.inactive_peaks in
    let digests : List (List ℕ) = map g.H.Digest.Write.encoding c.args.proof.now.digests.items in
    carried (λ b es n. IfOk c.verify_proof_and_pinned_nodes.result
    (λ yes. IsTrue yes ↔ ((option_map (value hash) (range_root plain_names plain_over b rule leaves inactive start es digests) ≡ Some
    (g.H.Digest.Write.encoding c.args.target_root.now))
    × ArePinned hash (branch_hash hash) (replicate g.H.Digest.FixedSize.SIZE 0) rule leaves
    (from_left b inactive (length (peaks_of rule leaves))) start (start + n)
    (range_outer b start (start + n) inactive (peaks_of rule leaves)) digests (map g.H.Digest.Write.encoding c.args.pinned_nodes.now))))
    c.log_hasher-hasher.result.bagging c.deref-2.result.now (λ e. e.now) c.args.operations.now g.O.Write.encoding c.log_hasher-hasher.ensures
    (same g c) (c.verify_proof_and_pinned_nodes.ensures plain_names plain_over (plainly rule hash))
