-- Which calls refuse what.
use Rattle.std.specs.Prelude.{◌≡◌, ◌⊎◌, ℕ, ◌*◌, ◌<◌, ◌≤◌, ◌^◌, length}
use Rattle.merkle_forest.specs.Forest.{mmr_rule}
use Rattle.merkle_core_parts.specs.Mem.{pinned_positions}
use Rattle.state_proofs_parts.specs.declared.bitmap_error.Error.{Error}
use Rattle.state_proofs_parts.specs.declared.bitmap_error.Error.TheVariants.{InvalidPinnedNodes, DataCorrupted}
use Rattle.state_proofs_parts.specs.declared.bitmap_error.Error.TheVariants.{BitOutOfBounds, Memory}

-- why there is no proof of a bit, of so many bits: out of memory, or it is past them
abbrev pub IsRefusalOfBit : ℕ → ℕ → Error → Type 0
IsRefusalOfBit bits bit (BitOutOfBounds asked count) = (asked ≡ bit) × (count ≡ bits) × (bits ≤ bit)
IsRefusalOfBit bits bit Memory = Unit {0}
IsRefusalOfBit bits bit other = ⊥

-- why there is no tree of so many leaves, all pruned, with so many digests at its peaks: out of memory, or there are
-- too few or too many digests
abbrev pub IsRefusalOfPinned : ℕ → ℕ → Error → Type 0
IsRefusalOfPinned leaves count InvalidPinnedNodes = count ≡ length (pinned_positions mmr_rule leaves) → ⊥
IsRefusalOfPinned leaves count Memory = Unit {0}
IsRefusalOfPinned leaves count other = ⊥

-- there can be so many pruned chunks: a tree has as many leaves, and their bits have numbers
abbrev pub CanBePruned : ℕ → ℕ → Type 0
CanBePruned width chunks = (chunks ≤ 2 ^ 62) × (8 * width * chunks < 2 ^ 64)

-- why there is no map of so many pruned chunks with so many pinned digests: out of memory, or there cannot be as many
-- chunks, or there are too few or too many digests, of which the first is told
abbrev pub IsRefusalOfPruned : ℕ → ℕ → ℕ → Error → Type 0
IsRefusalOfPruned width chunks count DataCorrupted = (2 ^ 62 < chunks) ⊎ (2 ^ 64 ≤ 8 * width * chunks)
IsRefusalOfPruned width chunks count InvalidPinnedNodes =
    CanBePruned width chunks × (count ≡ length (pinned_positions mmr_rule chunks) → ⊥)
IsRefusalOfPruned width chunks count Memory = CanBePruned width chunks
IsRefusalOfPruned width chunks count other = ⊥
