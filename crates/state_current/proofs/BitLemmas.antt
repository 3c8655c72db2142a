-- Bits of what is kept.
use Rattle.std.proofs.Common.{◌≡◌, ℕ, ◌+◌, ◌-◌, ◌*◌, ◌<◌, ◌≤◌, Bool, false, List, ◌++◌, Some, get_or, length}
use Rattle.std.proofs.Common.{replicate, slice_get, slice_index_or, sym, ◌∙◌, ap, arith}
use Rattle.std.proofs.lemmas.List.{get_or-append-add, length-replicate}
use Rattle.std.proofs.lemmas.Option.{slice_get-get_or}
use Rattle.state_theory.specs.Bits.{Bits, all_bits, bit_count}
use Rattle.state_theory.specs.Laws.Bits.{length-all}

-- a bit that is there and not pruned is that of all bits
pub kept_bit : (width at : ℕ) (bits : Bits) (bit : Bool) → 8 * width * bits.pruned ≤ at → at < bit_count width bits
    → bit ≡ slice_index_or bits.kept (at - 8 * width * bits.pruned) false → slice_get (all_bits width bits) at ≡ Some bit
kept_bit width at bits bit from within is =
    let gone : ℕ = 8 * width * bits.pruned in
    let front : List Bool = replicate gone false in
    let lt : at < length (all_bits width bits) = omega (arith, length-all width bits, within) in
    let sum : length front + (at - gone) ≡ at = omega (arith, length-replicate gone false, from) in
    let same : get_or (all_bits width bits) at false ≡ bit =
    ap (λ k. get_or (front ++ bits.kept) k false) (sym sum) ∙ get_or-append-add front bits.kept (at - gone) false ∙ sym is in
    slice_get-get_or (all_bits width bits) at false lt ∙ ap Some same
