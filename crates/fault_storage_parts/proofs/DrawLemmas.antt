-- What one sample is.
use Rattle.std.proofs.Common.{◌≡◌, ℕ, suc, ◌%◌, Bool, true, false, nat_lt, cond}
use Rattle.std.proofs.Common.{List, [], ◌∷◌, ◌++◌, ◌∙◌, ap, sym, refl, append_assoc}
use Rattle.rand_core.specs.Stream.{Stream, next_u64}
use Rattle.fault_storage_parts.specs.Draws.{Rate, is_certain, sample, samples}

pub sample-certain : (rate : Rate) (words : Stream) → is_certain rate ≡ true → sample rate words ≡ (nat_lt 0 rate.numerator, words)
unfolding sample
sample-certain rate words certain =
    ap (λ b. cond b (nat_lt 0 rate.numerator, words) (nat_lt ((next_u64 words).0 % rate.denominator) rate.numerator, (next_u64 words).1)) certain

pub sample-drawn : (rate : Rate) (words : Stream) → is_certain rate ≡ false
    → sample rate words ≡ (nat_lt ((next_u64 words).0 % rate.denominator) rate.numerator, (next_u64 words).1)
unfolding sample
sample-drawn rate words open_to_chance =
    ap (λ b. cond b (nat_lt 0 rate.numerator, words) (nat_lt ((next_u64 words).0 % rate.denominator) rate.numerator, (next_u64 words).1)) open_to_chance

pub samples-suc : (rate : Rate) (count : ℕ) (words : Stream)
    → samples rate (suc count) words ≡ (
      (sample rate words).0 ∷ (samples rate count (sample rate words).1).0,
      (samples rate count (sample rate words).1).1,
    )
unfolding samples
samples-suc rate count words = refl

pub samples-zero : (rate : Rate) (words : Stream) → samples rate 0 words ≡ ([], words)
unfolding samples
samples-zero rate words = refl

-- one more of the samples, after those that are noted
pub samples-noted : (rate : Rate) (count left : ℕ) (words next : Stream) (noted more : List Bool) (kept : Bool) (all : List Bool × Stream)
    → left ≡ suc count → ◌≡◌ {A = Bool × Stream} (kept, next) (sample rate words) → more ≡ noted ++ kept ∷ []
    → (noted ++ (samples rate left words).0 ≡ all.0) × ((samples rate left words).1 ≡ all.1)
    → (more ++ (samples rate count next).0 ≡ all.0) × ((samples rate count next).1 ≡ all.1)
samples-noted rate count left words next noted more kept all is drawn joins so_far =
    let step : samples rate left words ≡ (kept ∷ (samples rate count next).0, (samples rate count next).1) =
    ap (λ n. samples rate n words) is ∙ samples-suc rate count words
    ∙ sym (ap (λ d. (d.0 ∷ (samples rate count d.1).0, (samples rate count d.1).1)) drawn) in (
      ap (λ l. l ++ (samples rate count next).0) joins ∙ append_assoc noted (kept ∷ []) (samples rate count next).0
          ∙ sym (ap (λ s. noted ++ s.0) step) ∙ so_far.0,
      sym (ap (λ s. s.1) step) ∙ so_far.1,
    )
