use Rattle.std.proofs.Common.{◌≡◌, ◌+◌, ℕ, List, map, length, Some, IfOk, IfErr, OnOk, ◌∙◌, ap}
use Rattle.merkle_forest.specs.Hashing.{Hash}
use Rattle.merkle_forest.specs.Forest.{Rule}
use Rattle.std.specs.Prelude.{option_map}
use Rattle.merkle_forest.specs.Made.{value}
use Rattle.merkle_proofs.specs.Extracted.{AreMadeOf, AreGiven, AreExtracted, extracted_nodes, IsRefusalToExtract}
use Rattle.merkle_theory.specs.MadeRoots.{from_left, peaks_of}
use Rattle.merkle_theory.specs.MadeTrees.{from, plain_over}
use Rattle.merkle_theory.specs.Reads.{range_root}
use Rattle.merkle_theory.specs.Soundness.{plain_names}
use Rattle.state_theory.specs.LogProofs.{leaf_hash, branch_hash}
use Rattle.state_theory.proofs.LogLemmas.{plainly, carried}
use Rattle.state_proofs.proofs.verify.verify_proof_and_extract_digests.Goals as goal

same : (g : _) (c : goal.After-drop-encoded-2 g) → map (λ e. e.now) c.deref-2.result.now ≡ map g.O.Write.encoding c.args.operations.now
same g c =
    ap (map (λ e. e.now)) c.deref-2.ensures.value ∙ c.in_ok-elements.ensures ∙ ap (map (λ e. e.items)) c.deref.ensures.value
    ∙ c.in_ok-encoded.ensures

pub returns-clause-shown : goal.returns-clause-shown
returns-clause-shown g c =
    let rule : Rule = g.F.Family.merge_rule in
    let hash : Hash = g.H.HashFunction.hash_of in
    let start : ℕ = c.args.start_loc in
    let leaves : ℕ = c.args.proof.now.leaves in
    let inactive : ℕ = c.args.proof.now.inactive_peaks in
    let digests : List (List ℕ) = map g.H.Digest.Write.encoding c.args.proof.now.digests.items in
    carried (λ b es n. OnOk c.verify_range_inclusion_and_extract_digests.result
    (option_map (value hash) (range_root plain_names plain_over b rule leaves inactive start es digests) ≡ Some
    (g.H.Digest.Write.encoding c.args.target_root.now)))
    c.log_hasher-hasher.result.bagging c.deref-2.result.now (λ e. e.now) c.args.operations.now g.O.Write.encoding c.log_hasher-hasher.ensures
    (same g c) (c.verify_range_inclusion_and_extract_digests.ensures.shown plain_names plain_over (plainly rule hash))

pub returns-clause-told : goal.returns-clause-told
returns-clause-told g c = λ digest.
    let rule : Rule = g.F.Family.merge_rule in
    let hash : Hash = g.H.HashFunction.hash_of in
    let start : ℕ = c.args.start_loc in
    let leaves : ℕ = c.args.proof.now.leaves in
    let inactive : ℕ = c.args.proof.now.inactive_peaks in
    let digests : List (List ℕ) = map g.H.Digest.Write.encoding c.args.proof.now.digests.items in
    carried (λ b es n. AreMadeOf (leaf_hash hash) (branch_hash hash) (from start es) start (start + n) digest
    → AreGiven (from_left b inactive (length (peaks_of rule leaves))) start (start + n) (peaks_of rule leaves) digest digests
    → IfOk c.verify_range_inclusion_and_extract_digests.result (λ it. AreExtracted g.H.Digest.Write.encoding digest
    (extracted_nodes (from_left b inactive (length (peaks_of rule leaves))) start (start + n) (peaks_of rule leaves)) it.items))
    c.log_hasher-hasher.result.bagging c.deref-2.result.now (λ e. e.now) c.args.operations.now g.O.Write.encoding c.log_hasher-hasher.ensures
    (same g c) (c.verify_range_inclusion_and_extract_digests.ensures.told digest)

pub returns-clause-refused : goal.returns-clause-refused
returns-clause-refused g c =
    let rule : Rule = g.F.Family.merge_rule in
    let hash : Hash = g.H.HashFunction.hash_of in
    let start : ℕ = c.args.start_loc in
    let leaves : ℕ = c.args.proof.now.leaves in
    let inactive : ℕ = c.args.proof.now.inactive_peaks in
    let digests : List (List ℕ) = map g.H.Digest.Write.encoding c.args.proof.now.digests.items in
    carried (λ b es n. IfErr c.verify_range_inclusion_and_extract_digests.result
    (λ e. IsRefusalToExtract (option_map (value hash) (range_root plain_names plain_over b rule leaves inactive start es digests))
    (g.H.Digest.Write.encoding c.args.target_root.now) e))
    c.log_hasher-hasher.result.bagging c.deref-2.result.now (λ e. e.now) c.args.operations.now g.O.Write.encoding c.log_hasher-hasher.ensures
    (same g c) (c.verify_range_inclusion_and_extract_digests.ensures.refused plain_names plain_over (plainly rule hash))
