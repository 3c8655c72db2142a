-- What is answered where operations are asked for from a location on, and why none are.
use Rattle.std.specs.Prelude.{◌≡◌, ◌<◌, ◌≤◌, ◌⊎◌, ℕ, ◌+◌, ◌-◌}
use Rattle.std.specs.Prelude.{◌*◌, ◌/◌, Bool, List, [], ◌∷◌, length, drop, map, min}
use Rattle.std.specs.Prelude.{slice_index_or}
use Rattle.merkle_core_parts.specs.declared.error.Error.TheVariants.{RangeOutOfBounds}
use Rattle.state_proofs.specs.declared.error.Error.{Error}
use Rattle.state_proofs.specs.declared.error.Error.TheVariants.{OperationPruned, Merkle}
use Rattle.state_theory.specs.Bits.{chunks_of}
use Rattle.state_proofs.specs.Built.{chunks_asked, IsRefusalOfPlanned}
use Rattle.state_theory.specs.Sources.{Source}
use Rattle.state_proofs.specs.Required.{Measures, IsPruned}

-- places that ascend, from one on
abbrev pub AreAscending : ℕ → List ℕ → Type 0
AreAscending least [] = Unit {0}
AreAscending least (place ∷ places) = (least ≤ place) × AreAscending (place + 1) places

-- the items of a list at places, which it has
abbrev pub at_places : List (List ℕ) → List ℕ → List (List ℕ)
at_places items places = map (λ place. slice_index_or items place []) places

-- where the operations end: so many are asked for, and there are no more than bits
abbrev pub end_of : ℕ → ℕ → ℕ → ℕ
end_of start most bits = min (start + most) bits

-- the chunks with the bits from one location up to another
abbrev pub chunks_between : ℕ → ℕ → ℕ → List Bool → List (List ℕ)
chunks_between width start stop bits =
    chunks_of width ((stop - 1) / (8 * width) + 1 - start / (8 * width)) (drop (8 * width * (start / (8 * width))) bits)

-- the first operation has a bit, whose chunk is kept
pub record HasStart (measures : Measures) (source : Source) : Type 0 where
  pub there : source.span.start < length source.bits
  pub kept : IsPruned measures (chunks_asked source) source.span.start → ⊥

-- why none are answered: the first has no bit, or its chunk is pruned; or the range of them is not proved; or the log
-- refuses them
abbrev pub IsRefusalOfStart : {F : Type 0} → Measures → Source → Error F → Type 0
IsRefusalOfStart measures source (Merkle (RangeOutOfBounds start)) =
    (start ≡ source.span.start) × (length source.bits ≤ source.span.start)
IsRefusalOfStart measures source (OperationPruned start) = (start ≡ source.span.start)
    × ((source.span.start < length source.bits) × IsPruned measures (chunks_asked source) source.span.start)
IsRefusalOfStart measures source other = ⊥

abbrev pub IsRefusalOfRequest : {F : Type 0} → Measures → Source → (Error F → Type 0) → Error F → Type 0
IsRefusalOfRequest measures source refuses error = IsRefusalOfStart measures source error
    ⊎ (HasStart measures source × (IsRefusalOfPlanned measures source error ⊎ refuses error))
