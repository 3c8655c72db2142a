use Rattle.std.proofs.Common.{◌≡◌, ◌↔◌, ℕ, List, map, Some, IsTrue, IfOk, ◌∙◌, ap, subst}
use Rattle.std.specs.Prelude.{option_map}
use Rattle.merkle_forest.specs.declared.bagging.Bagging.{Bagging}
use Rattle.merkle_forest.specs.Forest.{Rule}
use Rattle.merkle_forest.specs.Hashing.{Hash}
use Rattle.merkle_forest.specs.Made.{value}
use Rattle.merkle_theory.specs.MadeTrees.{plain_over}
use Rattle.merkle_theory.specs.MultiReads.{multi_root}
use Rattle.merkle_theory.specs.Soundness.{plain_names}
use Rattle.state_theory.specs.LogProofs.{placed}
use Rattle.state_theory.proofs.LogLemmas.{plainly}
use Rattle.state_proofs.proofs.verify.verify_multi_proof.Goals as goal

pub returns : goal.returns
returns g c =
    let rule : Rule = g.F.Family.merge_rule in
    let hash : Hash = g.H.HashFunction.hash_of in
    let digests : List (List ℕ) = map g.H.Digest.Write.encoding c.args.proof.now.digests.items in
    let same : map (λ e. placed e.0.now e.1) c.deref-2.result.now ≡ map (λ o. placed (g.O.Write.encoding o.1) o.0) c.args.operations.now =
    ap (map (λ e. placed e.0.now e.1)) c.deref-2.ensures.value ∙ c.in_ok-elements.ensures
    ∙ ap (map (λ e. placed e.0.items e.1)) c.deref.ensures.value ∙ c.in_ok-encoded.ensures in
    let holds : Bagging → List (List ℕ × ℕ) → Type 0 = λ b es.
    IfOk c.verify_multi_inclusion.result (λ yes. IsTrue yes ↔ (option_map (value hash) (multi_root plain_names plain_over b rule
    c.args.proof.now.leaves c.args.proof.now.inactive_peaks es digests) ≡ Some (g.H.Digest.Write.encoding c.args.target_root.now))) in
    subst (λ (b : Bagging). holds b (map (λ o. placed (g.O.Write.encoding o.1) o.0) c.args.operations.now)) c.log_hasher-hasher.ensures
    (subst (holds c.log_hasher-hasher.result.bagging) same (c.verify_multi_inclusion.ensures plain_names plain_over (plainly rule hash)))
