-- Whether so many bytes are a chunk's.
use Rattle.std.proofs.Common.{◌≡◌, ℕ, zero, suc, ◌*◌, ◌^◌, ◌<◌, ◌≤◌, ◌||◌, Bool, true, false, inl, inr, Option, None}
use Rattle.std.proofs.Common.{Some, refl, sym, ◌∙◌, ap, eqb, eq-eqb, arith}
use Rattle.std.specs.Prelude.{IfSome, IfNone, is_some}
use Rattle.std.proofs.lemmas.Bool.{cases_lt, ne_eqb}
use Rattle.state_proofs_parts.specs.declared.chunk_size.ChunkSize.{ChunkSize}
use Rattle.state_theory.specs.Told.{is_early_power, is_chunk_width}

or_second : (first : Bool) → (first || true) ≡ true
or_second true = refl
or_second false = refl

early : (count n height : ℕ) → height < count → n ≡ 2 ^ height → is_early_power count n ≡ true
early zero n height low is = absurd (omega (arith, low))
early (suc count) n height low is =
    elim (cases_lt height count) [
      | inl lt ↦ ap (λ b. eqb n (2 ^ count) || b) (early count n height lt is) ∙ or_second (eqb n (2 ^ count))
      | inr le ↦
          (let last : height ≡ count = omega (arith, low, le) in
          ap (λ b. b || is_early_power count n) (eq-eqb n (2 ^ count) (is ∙ ap (λ h. 2 ^ h) last)))
    ]

not_early : (count n : ℕ) → ((height : ℕ) → height < count → n ≡ 2 ^ height → ⊥) → is_early_power count n ≡ false
not_early zero n none = refl
not_early (suc count) n none =
    ap (λ b. b || is_early_power count n) (ne_eqb n (2 ^ count) (λ is. none count (omega arith) is))
    ∙ not_early count n (λ height low is. none height (omega (arith, low)) is)

-- the size of so many bytes is there exactly where they are a chunk's
pub size-told : (size : Option ChunkSize) (width : ℕ) → IfSome size (λ s. s.width ≡ width)
    → IfNone size ((height : ℕ) → 8 * width ≡ 2 ^ height → height ≤ 62 → ⊥) → is_some size ≡ is_chunk_width width
unfolding is_chunk_width
size-told None width is none = sym (not_early 63 (8 * width) (λ height low whole. none height whole (omega (arith, low))))
size-told (Some size) width is none =
    sym (early 63 (8 * width) size.grafting_height (omega (arith, size.low)) (ap (λ w. 8 * w) (sym is) ∙ size.whole))
