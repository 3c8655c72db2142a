-- Reads in turn.
use Rattle.std.proofs.Common.{◌≡◌, ◌≤◌, ◌<◌, ◌-◌, ◌+◌, true, ℕ, List, [], ◌∷◌, ◌++◌, Contains, ◌⊎◌, inl, inr, arith}
use Rattle.std.proofs.Math.Nat.{eq-or-lt_of_le}
use Rattle.paged_blob_parts.specs.Calls.{File}
use Rattle.paged_blob_parts.specs.Answers.{Failures, IsSlice, AreSlices, IsReadCause, IsManyCause, IsPowerOff}
use Rattle.paged_blob_parts.specs.declared.error.Error.{Error}
use Rattle.paged_blob_parts.specs.declared.error.Error.TheVariants.{Injected, BlobMissing, BlobInsufficientLength}
use Rattle.paged_blob_parts.specs.declared.error.Error.TheVariants.{NumberEnded, Memory, PowerCut, ChecksumMismatch}

-- one more slice
pub slices-append : (file : File) (ranges : List (ℕ × ℕ)) (all : List (List ℕ)) (range : ℕ × ℕ) (bytes : List ℕ)
    → AreSlices file ranges all → IsSlice file range.0 range.1 bytes → AreSlices file (ranges ++ range ∷ []) (all ++ bytes ∷ [])
slices-append file [] [] range bytes so one = (one, tt)
slices-append file [] (b ∷ all) range bytes so one = absurd so
slices-append file (r ∷ ranges) [] range bytes so one = absurd so
slices-append file (r ∷ ranges) (b ∷ all) range bytes so one = (so.0, slices-append file ranges all range bytes so.1 one)

-- what refuses one of the reads refuses them all
pub many_cause : (failures : Failures) (file : File) (ranges : List (ℕ × ℕ)) (range : ℕ × ℕ) (error : Error) → Contains ranges range
    → IsReadCause failures file range.0 range.1 error → IsManyCause failures file ranges error
many_cause failures file ranges range (Injected kind) there cause = (range, there, cause)
many_cause failures file ranges range BlobMissing there cause = (range, there, cause)
many_cause failures file ranges range BlobInsufficientLength there cause = (range, there, cause)
many_cause failures file ranges range NumberEnded there cause = (range, there, cause)
many_cause failures file ranges range Memory there cause = tt
many_cause failures file ranges range PowerCut there cause = (range, there, cause)
many_cause failures file ranges range ChecksumMismatch there cause = (range, there, cause)

-- Of calls in turn, each of which uses up one, so many were made; the power lasts for one more, which is made too.
pub made_lasts : (failures : Failures) (first done left : ℕ) → left ≡ first - done → (failures.is_asked ≡ true → done ≤ first)
    → (IsPowerOff failures left → ⊥) → failures.is_asked ≡ true → done + 1 ≤ first
made_lasts failures first done left so lasts on asked = by (eq-or-lt_of_le (lasts asked))
  where
    by : (done ≡ first) ⊎ (done < first) → done + 1 ≤ first
    by (inl all) = absurd (on (asked, omega (arith, so, all)))
    by (inr fewer) = omega (arith, fewer)
