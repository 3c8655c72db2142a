-- What bytes show of operations, from the witness and the proof that were read of them.
use Rattle.std.proofs.Common.{◌≡◌, ℕ, ◌^◌, ◌<◌, List, sym, ◌∙◌, subst}
use Rattle.merkle_forest.specs.Codec.{Outcome}
use Rattle.state_ops.specs.Operation.{Operation}
use Rattle.state_theory.specs.Laws.Encoded.{Grammar}
use Rattle.std.specs.Prelude.{map}
use Rattle.auth_store_client.specs.Claims.{Terms, range_most, encoded, ShowsSlice}
use Rattle.auth_store_client.specs.Slices.{SliceParts, slice_encoding, FitsSlice, VerifiesSlice}
use Rattle.auth_store_client.proofs.Slices.{slice_once}

module _ (terms : Terms) (digest held : List ℕ → Outcome) (small : range_most terms < 2 ^ 64)
    (grammar : Grammar digest held terms.format.IsPending terms.format.pending terms.format.size) where
  pub slice_exactly : (root bytes : List ℕ) (start : ℕ) (operations : List Operation) (slice : SliceParts)
      → FitsSlice terms.format.IsPending terms.format.size (range_most terms) slice
      → bytes ≡ slice_encoding terms.format.pending slice
      → (VerifiesSlice terms.format.rule terms.format.hash root slice start (map (encoded terms) operations)
      → ShowsSlice terms root start operations bytes)
      × (ShowsSlice terms root start operations bytes
      → VerifiesSlice terms.format.rule terms.format.hash root slice start (map (encoded terms) operations))
  slice_exactly root bytes start operations slice fits is = (
    λ verifies. record { slice = slice; is = is; fits = fits; verifies = verifies },
    λ it. subst (λ (s : SliceParts). VerifiesSlice terms.format.rule terms.format.hash root s start (map (encoded terms) operations))
        (slice_once digest held terms.format.IsPending terms.format.pending terms.format.size (range_most terms) small grammar it.slice slice
        it.fits fits (sym it.is ∙ is)) it.verifies,
  )
