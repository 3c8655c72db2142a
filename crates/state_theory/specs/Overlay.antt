-- Changes laid over a list of bits: bits appended behind it, and bits of it cleared.
--
--    place     0 1 2   3 4 5   6 7 8
--    base      0 0 0   1 1 1             six bits are the list's
--    after     0 0 0   0 0 0   0 1 1     three are its own, and 3, 4 and 5 were set and are cleared
use Rattle.std.specs.Prelude.{◌≤◌, ◌<◌, ◌+◌, ◌-◌, ◌*◌, ℕ, Bool, false, true, ◌&&◌, nat_lt, if◌then◌else◌}
use Rattle.std.specs.Prelude.{List, [], ◌∷◌, ◌++◌, length, take, slice_index_or, slice_set}
use Rattle.std.specs.List.{AllByRecursion}
use Rattle.state_theory.specs.Bits.{Bits, bit_count}

-- the list as it was, the list as changed, and the places of the bits of it that were set and are cleared, in the
-- order in which they were
pub record Overlay : Type 0 where
  pub base : Bits
  pub after : Bits
  pub cleared : List ℕ

-- no changes
abbrev pub unchanged : Bits → Overlay
unchanged bits = record { base = bits; after = bits; cleared = [] }

-- the places that are remembered once the bit at one is cleared: this one too, where it is one of the list that is set
abbrev pub remembered : ℕ → Overlay → ℕ → List ℕ
remembered width overlay at =
    if nat_lt at (bit_count width overlay.base)
    && slice_index_or overlay.after.kept (at - 8 * width * overlay.after.pruned) false
    then overlay.cleared ++ at ∷ [] else overlay.cleared

-- kept bits, of which the first one is so far from the start, after those at these places are set
abbrev pub set_again : ℕ → List Bool → List ℕ → List Bool
set_again first bits [] = bits
set_again first bits (at ∷ more) = set_again first (slice_set bits (at - first) true) more

-- the list as it was, of the list as changed: its first so many kept bits, those at these places set
abbrev pub base_of : ℕ → Bits → ℕ → List ℕ → Bits
base_of width after listed places = record {
  pruned = after.pruned;
  kept = set_again (8 * width * after.pruned) (take listed after.kept) places;
}

-- so many kept bits are the list's, and the places are of them
pub record IsLaid (width : ℕ) (after : Bits) (listed : ℕ) (places : List ℕ) : Type 0 where
  pub few : listed ≤ length after.kept
  pub there : AllByRecursion (λ at. (8 * width * after.pruned ≤ at) × (at < 8 * width * after.pruned + listed)) places
