-- The canonical root as a proof over a range leads to it, and one of one operation, and what that shows.
use Rattle.std.specs.Prelude.{◌≡◌, ℕ, ◌+◌, ◌%◌, ◌<◌, ◌&&◌, nat_lt, nat_le, Bool, true, if◌then◌else◌, List, length}
use Rattle.std.specs.Prelude.{Option, Some, option_map, slice_get, IfSome}
use Rattle.std.specs.List.{All}
use Rattle.merkle_forest.specs.Made.{at_pending, at_partial, Made, bytes, Strings, strings}
use Rattle.state_theory.specs.Canonical.{Setting, State, chunk}
use Rattle.state_theory.specs.MadeCanonical.{if_made, canonical_made, chunk_made}
use Rattle.state_theory.specs.Verified.{Shown, shown_bits, first_index, covering, full_shown, graftable_shown}
use Rattle.state_theory.specs.Verified.{shown_grafted, RangeParts, Parts, shown_alone}

-- a digest that a proof holds; where the chunk is the one at hand, it is made of it
abbrev pub held_or_made : Made → Bool → Option (List ℕ) → Option Made
held_or_made made is_covered held = option_map (λ digest. if is_covered then made else bytes digest) held

-- whether the chunk at an index is among those that are shown
abbrev pub is_covered : Shown → ℕ → Bool
is_covered shown index = nat_le (first_index shown) index && nat_lt index (first_index shown + length shown.chunks)

-- the digests of the pending and of the partial chunk, made of the chunks that are shown where these are covered
abbrev pub range_pending : ℕ → RangeParts → Shown → Option Made
range_pending graftable proof shown =
    held_or_made (chunk_made at_pending (covering shown graftable)) (is_covered shown graftable) proof.pending

abbrev pub range_partial : RangeParts → Shown → Option Made
range_partial proof shown =
    held_or_made (chunk_made at_partial (covering shown (full_shown proof shown)))
    (is_covered shown (full_shown proof shown)) proof.partial

-- the canonical root over this root of the grafted tree
abbrev pub range_over : Setting → RangeParts → Shown → Made → Made
range_over setting proof shown grafted = canonical_made (record {
  operations = bytes proof.operations_root;
  grafted = grafted;
  pending_chunk = range_pending (graftable_shown setting.rule setting.grafting_height proof) proof shown;
  partial_chunk = option_map (λ made. (proof.leaves % shown_bits shown, made)) (range_partial proof shown);
})

-- the strings that are hashed when the canonical root is rebuilt from the proof and what is shown
abbrev pub range_strings : Setting → RangeParts → Shown → Strings
range_strings setting proof shown =
    strings setting.hash (if_made (option_map (range_over setting proof shown)
    (shown_grafted setting.rule setting.grafting_height proof shown)))

-- those that are hashed when it is rebuilt from the proof of one operation and this operation
abbrev pub rebuilt_strings : Setting → Parts → List ℕ → Strings
rebuilt_strings setting proof operation = range_strings setting proof.range (shown_alone proof operation)

-- the operations stand in the state from the location on, and the chunks over them are the state's
pub record HasRange (setting : Setting) (state : State) (shown : Shown) : Type 0 where
  pub stands : (i : ℕ) → i < length shown.operations
      → slice_get state.operations (shown.start + i) ≡ slice_get shown.operations i
  pub chunks : (i : ℕ) → i < length shown.chunks → slice_get shown.chunks i ≡ Some
      (chunk setting state (first_index shown + i))

-- the operation stands at the location, and is active there
pub record HasActive (state : State) (location : ℕ) (operation : List ℕ) : Type 0 where
  pub stands : slice_get state.operations location ≡ Some operation
  pub active : slice_get state.bits location ≡ Some true

-- the proof's digests have this size
pub record HasDigestsOf (size : ℕ) (proof : RangeParts) : Type 0 where
  pub digests : All (λ digest. length digest ≡ size) proof.digests
  pub pending : IfSome proof.pending (λ digest. length digest ≡ size)
  pub partial : IfSome proof.partial (λ digest. length digest ≡ size)
  pub operations_root : length proof.operations_root ≡ size
