-- What a yes says.
use Rattle.std.proofs.Common.{◌≡◌, Bool, List, ℕ, Result, Ok, Err}
use Rattle.std.specs.Prelude.{◌↔◌, ⊤, IfOk, IsTrue}
use Rattle.state_theory.specs.Canonical.{Setting}
use Rattle.auth_store_parts.specs.History.{History}
use Rattle.auth_store_client.specs.Claims.{Claim, ClaimsFields, Shows, Terms}
use Rattle.auth_store_client.specs.Fields.{IsSound}
use Rattle.auth_store_client.specs.HonestBytes.{honest_bytes}
use Rattle.auth_store_client.specs.Soundness.{AreOrCollide, IsProved, IsTrueOrCollides}
use Rattle.auth_store_client.specs.States.{root_of_history}

pub nothing_said : {E : Type 0} (result : Result Bool E) → IfOk result (λ yes. IsTrue yes → ⊤)
nothing_said (Ok said) = λ yes. tt
nothing_said (Err e) = tt

-- a claim of keys and values that is shown is proved
pub yes_proves : {E : Type 0} (setting : Setting) (terms : Terms) (claim : Claim) (root bytes : List ℕ) (result : Result Bool E)
    → IfOk result (λ yes. IsTrue yes ↔ Shows terms claim root bytes)
    → IfOk result (λ yes. IsTrue yes → ClaimsFields terms.IsKey terms.IsValue claim)
    → ((history : History) → ClaimsFields terms.IsKey terms.IsValue claim → IsSound terms.IsKey terms.IsValue history
    → root ≡ root_of_history setting terms.key_size terms.value_size history → (shown : Shows terms claim root bytes)
    → IsTrueOrCollides setting terms claim history root bytes shown)
    → ((history : History) → ClaimsFields terms.IsKey terms.IsValue claim → IsSound terms.IsKey terms.IsValue history
    → root ≡ root_of_history setting terms.key_size terms.value_size history → (shown : Shows terms claim root bytes)
    → AreOrCollide setting terms claim history
    (honest_bytes terms.format.pending setting terms.key_size terms.value_size history claim) root bytes shown)
    → IfOk result (λ yes. IsTrue yes → IsProved setting terms claim root bytes)
yes_proves setting terms claim root bytes (Ok said) exact fields true_law honest_law = λ yes. record {
  shown = exact.0 yes;
  sound = λ history sound is. true_law history (fields yes) sound is (exact.0 yes);
  honest = λ history sound is. honest_law history (fields yes) sound is (exact.0 yes);
}
yes_proves setting terms claim root bytes (Err e) exact fields true_law honest_law = tt
