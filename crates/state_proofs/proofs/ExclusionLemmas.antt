-- What a proof of absence shows, from the check of its operation.
use Rattle.std.proofs.Common.{◌≡◌, ℕ, List, sym, subst}
use Rattle.merkle_forest.specs.Forest.{Rule}
use Rattle.merkle_forest.specs.Hashing.{Hash}
use Rattle.state_ops_parts.specs.Operation.{Operation}
use Rattle.state_proofs.specs.Exclusion.{ExclusionParts, LeavesOut, Excludes, ExcludesAs, proof_of, operation_of, operation_as}
use Rattle.state_theory.specs.Verified.{Verifies}

-- the check of the operation says whether the proof shows the absence of a key that its operation leaves out
pub excludes_exactly : (Yes : Type 0) (rule : Rule) (hash : Hash) (key_size value_size : ℕ) (root : List ℕ) (said proof : ExclusionParts)
    (asked operation : List ℕ) → said ≡ proof → operation ≡ operation_of key_size value_size proof → LeavesOut proof asked
    → (Yes → Verifies rule hash root (proof_of proof) operation) × (Verifies rule hash root (proof_of proof) operation → Yes)
    → (Yes → Excludes rule hash key_size value_size root said asked) × (Excludes rule hash key_size value_size root said asked → Yes)
excludes_exactly Yes rule hash key_size value_size root said proof asked operation same is out exact =
    let Shows : List ℕ → Type 0 = λ o. Verifies rule hash root (proof_of proof) o in
    let By : ExclusionParts → Type 0 = λ p. Excludes rule hash key_size value_size root p asked in (
      λ yes. subst By (sym same) (record { leaves_out = out; verifies = subst Shows is (exact.0 yes) }),
      λ it. exact.1 (subst Shows (sym is) (subst By same it).verifies),
    )

-- so for any encoding of operations
pub excludes_as_exactly : (Yes : Type 0) (rule : Rule) (hash : Hash) (spelled : Operation (List ℕ) → List ℕ) (root : List ℕ)
    (said proof said_span span : ExclusionParts) (asked operation : List ℕ) → said ≡ proof → said_span ≡ span
    → operation ≡ operation_as spelled proof → LeavesOut span asked
    → (Yes → Verifies rule hash root (proof_of proof) operation) × (Verifies rule hash root (proof_of proof) operation → Yes)
    → (Yes → ExcludesAs rule hash spelled root said said_span asked) × (ExcludesAs rule hash spelled root said said_span asked → Yes)
excludes_as_exactly Yes rule hash spelled root said proof said_span span asked operation same same_span is out exact =
    let Shows : List ℕ → Type 0 = λ o. Verifies rule hash root (proof_of proof) o in
    let Out : ExclusionParts → Type 0 = λ s. LeavesOut s asked in
    let By : ExclusionParts → Type 0 = λ p. ExcludesAs rule hash spelled root p said_span asked in (
      λ yes. subst By (sym same) (record { leaves_out = subst Out (sym same_span) out; verifies = subst Shows is (exact.0 yes) }),
      λ it. exact.1 (subst Shows (sym is) (subst By same it).verifies),
    )
