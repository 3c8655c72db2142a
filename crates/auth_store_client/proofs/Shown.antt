-- What bytes show, from the proof that was read of them.
use Rattle.std.proofs.Common.{◌≡◌, ℕ, Bool, ◌^◌, ◌<◌, List, [], ◌++◌, Result, Ok, Err, sym, ◌∙◌, ap, subst}
use Rattle.std.specs.Prelude.{◌↔◌, IfOk, IsTrue}
use Rattle.merkle_forest.specs.Codec.{Outcome}
use Rattle.state_ops.specs.Operation.{Operation}
use Rattle.state_theory.specs.Encoded.{operation_proof_encoding, Fits}
use Rattle.state_proofs.specs.Exclusion.{ExclusionParts, exclusion_encoding, Excludes}
use Rattle.state_theory.specs.Laws.Encoded.{Grammar}
use Rattle.state_theory.specs.Verified.{Parts, Verifies}
use Rattle.auth_store_client.specs.Claims.{Terms, encoded, FitsExclusion, ShowsAbsence, ShowsActive}
use Rattle.auth_store_client.proofs.Decoding.{Fields, operation_once, exclusion_once}

-- what is told of one thing is told of another that it is equivalent to
pub told_on : {E A B : Type 0} (result : Result Bool E) → (A → B) × (B → A) → IfOk result (λ yes. IsTrue yes ↔ A)
    → IfOk result (λ yes. IsTrue yes ↔ B)
told_on (Ok said) both is = (λ t. both.0 (is.0 t), λ b. is.1 (both.1 b))
told_on (Err e) both is = tt

module _ (terms : Terms) (digest held : List ℕ → Outcome) (small : terms.format.most < 2 ^ 64)
    (grammar : Grammar digest held terms.format.IsPending terms.format.pending terms.format.size) where
  same_proof : (root bytes : List ℕ) (location : ℕ) (operation : Operation) (proof : Parts)
      → Fits terms.format.IsPending terms.format.width terms.format.size terms.format.most proof
      → bytes ≡ operation_proof_encoding terms.format.pending proof → (it : ShowsActive terms root location operation bytes)
      → it.shown.proof ≡ proof
  same_proof root bytes location operation proof fits is it =
      (operation_once digest held terms.format.IsPending terms.format.pending terms.format.width terms.format.size terms.format.most small
      grammar it.shown.proof proof [] [] it.shown.fits fits (ap (λ b. b ++ []) (sym it.shown.is ∙ is))).0

  -- an operation at the location that is claimed
  pub active_exactly : (root bytes : List ℕ) (location : ℕ) (operation : Operation) (proof : Parts)
      → Fits terms.format.IsPending terms.format.width terms.format.size terms.format.most proof
      → bytes ≡ operation_proof_encoding terms.format.pending proof → proof.location ≡ location
      → (Verifies terms.format.rule terms.format.hash root proof (encoded terms operation)
      → ShowsActive terms root location operation bytes)
      × (ShowsActive terms root location operation bytes
      → Verifies terms.format.rule terms.format.hash root proof (encoded terms operation))
  active_exactly root bytes location operation proof fits is at = (
    λ verifies. record { shown = record { proof = proof; is = is; fits = fits; verifies = verifies }; at = at },
    λ it. subst (λ (p : Parts). Verifies terms.format.rule terms.format.hash root p (encoded terms operation))
        (same_proof root bytes location operation proof fits is it) it.shown.verifies,
  )

  -- and at another one
  pub active_elsewhere : (root bytes : List ℕ) (location : ℕ) (operation : Operation) (proof : Parts)
      → Fits terms.format.IsPending terms.format.width terms.format.size terms.format.most proof
      → bytes ≡ operation_proof_encoding terms.format.pending proof → (proof.location ≡ location → ⊥)
      → ShowsActive terms root location operation bytes → ⊥
  active_elsewhere root bytes location operation proof fits is other it =
      other (sym (ap (λ (p : Parts). p.location) (same_proof root bytes location operation proof fits is it)) ∙ it.at)

  -- a proof of absence
  pub absent_exactly : {key value : List ℕ → Outcome} (fields : Fields terms key value) (root asked bytes : List ℕ) (proof : ExclusionParts)
      → FitsExclusion terms proof → bytes ≡ exclusion_encoding terms.format.pending proof
      → (Excludes terms.format.rule terms.format.hash terms.key_size terms.value_size root proof asked
      → ShowsAbsence terms root asked bytes)
      × (ShowsAbsence terms root asked bytes
      → Excludes terms.format.rule terms.format.hash terms.key_size terms.value_size root proof asked)
  absent_exactly {key = key} {value = value} fields root asked bytes proof fits is = (
    λ excludes. record { proof = proof; is = is; fits = fits; excludes = excludes },
    λ it. subst (λ (p : ExclusionParts). Excludes terms.format.rule terms.format.hash terms.key_size terms.value_size root p asked)
        (exclusion_once terms digest held key value small grammar fields it.proof proof it.fits fits (sym it.is ∙ is)) it.excludes,
  )
