use Rattle.std.proofs.Common.{◌≡◌, List, ℕ, Result, Ok, Err, MatchResult, is_ok, is_some, Bool, true, false, refl, sym, ◌∙◌, ap}
use Rattle.hex.specs.declared.error.FromHexError.{FromHexError}
use Rattle.hex.specs.Hex.{decode_sized}
use Rattle.hex.proofs.HexLemmas.{IsOk-decode_sized}
use Rattle.auth_store_parts.proofs.script.key.parse_key.Goals as goal

-- decoding into a slice succeeds where the text decodes
decides : (decoded : Result (List ℕ) FromHexError) (r : Result (Unit {0}) FromHexError) (out : List ℕ)
    → MatchResult decoded (λ bytes. (r ≡ Ok tt) × (out ≡ bytes)) (λ e. r ≡ Err e) → is_ok decoded ≡ is_ok r
decides (Ok bytes) r out h = sym (ap is_ok h.0)
decides (Err e) r out h = sym (ap is_ok h)

clash : (b : Bool) → b ≡ true → b ≡ false → ⊥
clash b t f = cc

pub returns-clause-found : goal.returns-clause-found
returns-clause-found c =
    let key = IsOk-decode_sized c.args.text.now 8 in
    let decoded : is_ok (decode_sized c.args.text.now 8) ≡ is_some c.ok.result = decides _ _ _
    c.decode_to_slice.ensures.value ∙ sym c.ok.ensures.variant in
    (λ h. key.0 (decoded ∙ ap is_some c.in_ok-ok.was), λ h. refl)

pub returns-in_err-ok-clause-found : goal.returns-in_err-ok-clause-found
returns-in_err-ok-clause-found c =
    let key = IsOk-decode_sized c.args.text.now 8 in
    let decoded : is_ok (decode_sized c.args.text.now 8) ≡ is_some c.ok.result = decides _ _ _
    c.decode_to_slice.ensures.value ∙ sym c.ok.ensures.variant in
    let none : is_some c.from_residual.result ≡ false = ap is_some c.from_residual.ensures in
    let undecoded : is_ok (decode_sized c.args.text.now 8) ≡ false = decoded ∙ ap is_some c.in_err-ok.was in
    (λ h. absurd (clash _ h none), λ h. absurd (clash _ (key.1 h) undecoded))
