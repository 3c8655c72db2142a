-- What bytes show of operations with their bits, from the proof and the chunks that were read of them.
use Rattle.std.proofs.Common.{◌≡◌, ℕ, Bool, ◌^◌, ◌<◌, List, ◌++◌, ◌-◌, length}
use Rattle.std.proofs.Common.{take, drop, Option, refl, sym, ◌∙◌, ap, subst, arith, length-append}
use Rattle.std.proofs.lemmas.List.{drop_at, take_rest}
use Rattle.merkle_forest.specs.Codec.{Outcome}
use Rattle.state_ops.specs.Operation.{Operation}
use Rattle.state_theory.specs.Encoded.{FitsRange}
use Rattle.state_theory.specs.Laws.Encoded.{Grammar}
use Rattle.state_theory.specs.Laws.Once.{range_once}
use Rattle.state_theory.specs.Verified.{RangeParts, VerifiesRange}
use Rattle.auth_store_client.specs.Claims.{Terms, range_most, range_encoding, shown_of, bits_over, ShowsRange}
use Rattle.auth_store_client.proofs.Chunks.{AreWide, joined, joined_once}

-- what is said of some elements, a width and a count is said of the same ones
pub as_claimed : (P : List (List ℕ) → ℕ → ℕ → Type 0) (es fs : List (List ℕ)) (v w m n : ℕ) → es ≡ fs → v ≡ w → m ≡ n
    → (P es v m → P fs w n) × (P fs w n → P es v m)
as_claimed P es fs v w m n one two three = (
  λ it. subst (λ (k : ℕ). P fs w k) three (subst (λ (u : ℕ). P fs u m) two (subst (λ (xs : List (List ℕ)). P xs v m) one it)),
  λ it.
      subst (λ (k : ℕ). P es v k) (sym three) (subst (λ (u : ℕ). P es u n) (sym two) (subst (λ (xs : List (List ℕ)). P xs w n) (sym one) it)),
)

-- what is left of bytes after a front
pub rest_is : (bytes front new : List ℕ) (left : ℕ) → bytes ≡ front ++ new → left ≡ length new
    → take (length bytes - (length bytes - left)) (drop (length bytes - left) bytes) ≡ new
rest_is bytes front new left is count =
    let at : length bytes - left ≡ length front = omega (arith, ap length is, length-append front new, count) in
    take_rest bytes (length bytes - left) ∙ ap (λ n. drop n bytes) at ∙ ap (drop (length front)) is ∙ drop_at front new (length front) refl

-- bytes encode one proof and one list of chunks
pub range_encoding_once : (IsPending : Option (List ℕ) → Type 0) (pending : Option (List ℕ) → List ℕ) (width size most : ℕ)
    → most < 2 ^ 64 → 0 < width
    → ((d e : Option (List ℕ)) (rest more : List ℕ) → IsPending d → IsPending e → pending d ++ rest ≡ pending e ++ more
    → (d ≡ e) × (rest ≡ more))
    → (p q : RangeParts) (cs ds : List (List ℕ)) → FitsRange IsPending size most p → FitsRange IsPending size most q → AreWide width cs
    → AreWide width ds → range_encoding pending p cs ≡ range_encoding pending q ds → (p ≡ q) × (cs ≡ ds)
range_encoding_once IsPending pending width size most small some once p q cs ds low high wide broad same =
    let both = range_once IsPending pending width size most small once p q (joined cs) (joined ds) low high same in
    (both.0, joined_once width cs ds some wide broad both.1)

module _ (terms : Terms) (digest held : List ℕ → Outcome) (small : range_most terms < 2 ^ 64)
    (grammar : Grammar digest held terms.format.IsPending terms.format.pending terms.format.size) (some : 0 < terms.format.width) where
  -- what is checked of a proof and chunks
  abbrev pub Holds : List ℕ → ℕ → List Operation → List Bool → RangeParts → List (List ℕ) → Type 0
  Holds root start operations active proof chunks =
      VerifiesRange terms.format.rule terms.format.hash root proof (shown_of terms start operations chunks)
      × (active ≡ bits_over terms.format.width start chunks (length operations))

  pub range_exactly : (root bytes : List ℕ) (start : ℕ) (operations : List Operation) (active : List Bool) (proof : RangeParts)
      (chunks : List (List ℕ)) → FitsRange terms.format.IsPending terms.format.size (range_most terms) proof
      → AreWide terms.format.width chunks → bytes ≡ range_encoding terms.format.pending proof chunks
      → (Holds root start operations active proof chunks → ShowsRange terms root start operations active bytes)
      × (ShowsRange terms root start operations active bytes → Holds root start operations active proof chunks)
  range_exactly root bytes start operations active proof chunks fits wide is = (
    λ holds. record { proof = proof; chunks = chunks; is = is; fits = fits; verifies = holds.0; bits = holds.1 },
    λ it.
        let same = range_encoding_once terms.format.IsPending terms.format.pending terms.format.width terms.format.size
        (range_most terms) small some grammar.once it.proof proof it.chunks chunks it.fits fits it.verifies.shaped.wide wide
        (sym it.is ∙ is) in
        subst (λ (p : RangeParts). Holds root start operations active p chunks) same.0
        (subst (λ (cs : List (List ℕ)). Holds root start operations active it.proof cs) same.1 (it.verifies, it.bits)),
  )
