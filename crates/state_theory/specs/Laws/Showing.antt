-- What bytes show, from the proof that was read of them.
use Rattle.std.proofs.Common.{◌≡◌, ℕ, ◌^◌, ◌<◌, List, [], Bool, true, false, Result, Ok, Err, refl, sym, ◌∙◌, subst}
use Rattle.std.proofs.Common.{arith}
use Rattle.std.specs.Prelude.{IfOk, IsTrue, OnOk}
use Rattle.merkle_forest.specs.Codec.{Outcome, Refuses}
use Rattle.merkle_forest.specs.declared.codec.error.Error.{Error}
use Rattle.merkle_forest.specs.declared.codec.error.Error.TheVariants.{EndOfBuffer, ExtraData, InvalidVarint}
use Rattle.merkle_forest.specs.declared.codec.error.Error.TheVariants.{InvalidBool, InvalidEnum, InvalidLength, Invalid}
use Rattle.merkle_forest.specs.declared.codec.error.Error.TheVariants.{Memory}
use Rattle.state_theory.specs.Encoded.{key_value_proof_encoding, after_key_value_proof, Format, Fits, ShowsUpdate}
use Rattle.state_theory.specs.Laws.Encoded.{Grammar, operation_again}
use Rattle.state_theory.specs.Laws.Once.{key_value_once}
use Rattle.state_theory.specs.Verified.{Parts, Verifies}

module _ (format : Format) (small : format.most < 2 ^ 64) (digest held key : List ℕ → Outcome)
    (grammar : Grammar digest held format.IsPending format.pending format.size) where
  -- what shows the update is read to its end
  pub shows_read : (root : List ℕ) (update : List ℕ → List ℕ) (bytes : List ℕ)
      → ((k : List ℕ) → format.IsKey k → key k ≡ Ok [])
      → ShowsUpdate format root update bytes
      → after_key_value_proof digest held key format.width format.most bytes ≡ Ok []
  shows_read root update bytes ends it =
      let again = operation_again digest held format.IsPending format.pending format.size format.most grammar
      format.width it.proof it.next_key
      (omega (arith, it.fits.range.few, small)) it.fits in
      rw (it.is, again, ends it.next_key it.key) refl

  -- the proof that was read shows the update exactly if the bytes do
  pub shows_exactly : (root : List ℕ) (update : List ℕ → List ℕ) (bytes : List ℕ) (proof : Parts) (next_key : List ℕ)
      → bytes ≡ key_value_proof_encoding format.pending proof next_key
      → Fits format.IsPending format.width format.size format.most proof → format.IsKey next_key
      → (Verifies format.rule format.hash root proof (update next_key) → ShowsUpdate format root update bytes)
      × (ShowsUpdate format root update bytes → Verifies format.rule format.hash root proof (update next_key))
  shows_exactly root update bytes proof next_key is fits is_key = (
    λ verifies. record { proof = proof; next_key = next_key; is = is; fits = fits; key = is_key; verifies = verifies },
    λ it. (let same = key_value_once format.IsPending format.pending format.width format.size format.most small
        grammar.once it.proof proof it.next_key next_key
        it.fits fits (sym it.is ∙ is) in
        subst (λ (p : Parts). Verifies format.rule format.hash root p (update next_key)) same.0
        (subst (λ (k : List ℕ). Verifies format.rule format.hash root it.proof (update k)) same.1 it.verifies)),
  )

-- a reading that was refused had no memory, where the grammar names no fault
pub refuses_none : (lacks : Type 0) (e : Error) (expected : Outcome) (rest : List ℕ) → expected ≡ Ok rest
    → Refuses lacks e expected → e ≡ Memory
refuses_none lacks EndOfBuffer expected rest is refused = absurd cc
refuses_none lacks ExtraData expected rest is refused = absurd cc
refuses_none lacks InvalidVarint expected rest is refused = absurd cc
refuses_none lacks InvalidBool expected rest is refused = absurd cc
refuses_none lacks (InvalidEnum tag) expected rest is refused = absurd cc
refuses_none lacks InvalidLength expected rest is refused = absurd cc
refuses_none lacks Invalid expected rest is refused = absurd cc
refuses_none lacks Memory expected rest is refused = refl

-- a proof that was not read does not show it
pub refused_shows : {C : Type 0} (Showing : Type 0) (e : Error) (outcome : Result Bool C)
    → IfOk outcome (λ yes. (yes ≡ false) × (e ≡ Memory → ⊥))
    → (Showing → e ≡ Memory) → IfOk outcome (λ yes. (IsTrue yes → Showing) × (Showing → IsTrue yes))
refused_shows Showing e (Err x) refused memory = tt
refused_shows Showing e (Ok said) refused memory =
    (λ is. absurd (let no : false ≡ true = sym refused.0 ∙ is in cc), λ it. absurd (refused.1 (memory it)))

-- nor does it say yes, so that whatever is said of a yes holds
pub refused_says_no : {C : Type 0} (Said : Type 0) (e : Error) (outcome : Result Bool C)
    → IfOk outcome (λ yes. (yes ≡ false) × (e ≡ Memory → ⊥)) → IfOk outcome (λ yes. IsTrue yes → Said)
refused_says_no Said e (Err x) refused = tt
refused_says_no Said e (Ok said) refused = λ is. absurd (let no : false ≡ true = sym refused.0 ∙ is in cc)

-- what is said of each answer is said of a yes
pub said_on_yes : {C : Type 0} (A B : Type 0) (outcome : Result Bool C) → OnOk outcome A → OnOk outcome B
    → IfOk outcome (λ yes. IsTrue yes → A × B)
said_on_yes A B (Err x) one other = tt
said_on_yes A B (Ok said) one other = λ is. (one, other)

-- what is answered alike
pub answered_alike : {C : Type 0} (A B : Type 0) (outcome : Result Bool C)
    → IfOk outcome (λ yes. (IsTrue yes → A) × (A → IsTrue yes)) → (A → B) × (B → A)
    → IfOk outcome (λ yes. (IsTrue yes → B) × (B → IsTrue yes))
answered_alike A B (Err x) said same = tt
answered_alike A B (Ok answer) said same = (λ is. same.0 (said.0 is), λ it. said.1 (same.1 it))
