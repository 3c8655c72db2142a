-- Digests in the order of the positions of their nodes.
use Rattle.std.proofs.Common.{◌≡◌, ℕ, ◌<◌, ◌≤◌, cond, length, map, get_or, List, Some, None, sym, ◌∙◌, ap, arith}
use Rattle.std.specs.List.{filter}
use Rattle.std.specs.List.Sorted.{IsPermutation}
use Rattle.std.specs.Prelude.{nat_lt, slice_get, option_map}
use Rattle.std.proofs.lemmas.List.{length-map}
use Rattle.std.proofs.lemmas.List.Sorted.{sum_by-IsPermutation}
use Rattle.std.proofs.lemmas.List.Sums.{length-filter}
use Rattle.std.proofs.lemmas.Option.{slice_get-map, slice_get-get_or, slice_get_past}
use Rattle.merkle_theory.specs.MultiReads.{rank_among, ranked}

-- the order of the positions makes no difference
pub rank_permuted : (p : ℕ) (xs ys : List ℕ) → IsPermutation xs ys → rank_among xs p ≡ rank_among ys p
rank_permuted p xs ys is =
    length-filter (λ q. nat_lt q p) xs ∙ sym (sum_by-IsPermutation (λ q. cond (nat_lt q p) 1 0) xs ys is)
    ∙ sym (length-filter (λ q. nat_lt q p) ys)

module _ {D : Type 0} (encoding : D
    → List ℕ) (needed positions : List ℕ) (all : IsPermutation needed positions) (p i : ℕ)
    (is : length (filter (λ q. nat_lt q p) positions) ≡ i) (digests : List D) where
  pub ranked_past : length digests ≤ i → ranked needed (map encoding digests) p ≡ None
  ranked_past past =
      ap (slice_get (map encoding digests)) (rank_permuted p needed positions all ∙ is)
      ∙ slice_get_past (map encoding digests) i (omega (arith, length-map digests encoding, past))

  pub ranked_there : (d : D) → i < length digests
      → ranked needed (map encoding digests) p ≡ Some (encoding (get_or digests i d))
  ranked_there d below =
      ap (slice_get (map encoding digests)) (rank_permuted p needed positions all ∙ is)
      ∙ slice_get-map encoding digests i
      ∙ ap (option_map encoding) (slice_get-get_or digests i d below)
