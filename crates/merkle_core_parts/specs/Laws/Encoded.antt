-- Digests that are to stand somewhere, as the code holds them.
use Rattle.std.proofs.Common.{◌≡◌, ℕ, zero, suc, ◌+◌, ◌-◌, ◌<◌, ◌≤◌, ◌⊎◌, inl, inr, cond, eqb, List, [], ◌∷◌, ◌++◌}
use Rattle.std.proofs.Common.{length, map, take, drop, set, get_or, Option, Some, None, refl, sym, ◌∙◌, ap, ap₂, arith}
use Rattle.std.proofs.Common.{eq-eqb}
use Rattle.std.proofs.lemmas.Bool.{cases_lt, cases_eq, ne_eqb}
use Rattle.std.specs.Prelude.{slice_get, slice_set}
use Rattle.std.specs.Option.{option_map}
use Rattle.merkle_core_parts.specs.Mem.{Replacement, encoded, value_after, replaced_at}
use Rattle.merkle_core_parts.specs.Laws.Replaced.{after-more, get-set, left_alone}

pub take-encoded : {D : Type 0} (encoding : D → List ℕ) (us : List (ℕ × D)) (i : ℕ) (u d : ℕ × D) → i < length us
    → u ≡ get_or us i d
    → encoded encoding (take (suc i) us) ≡ encoded encoding (take i us) ++ (u.0, encoding u.1) ∷ []
take-encoded encoding [] i u d lt is = absurd (omega arith)
take-encoded {D} encoding (v ∷ us) zero u d lt is =
    ap (λ (w : ℕ × D). (w.0, encoding w.1) ∷ []) (sym is)
take-encoded encoding (v ∷ us) (suc i) u d lt is =
    ap (λ rest. (v.0, encoding v.1) ∷ rest) (take-encoded encoding us i u d (omega arith) is)

pub drop-encoded : {D : Type 0} (encoding : D → List ℕ) (us : List (ℕ × D)) (i : ℕ) (u d : ℕ × D) → i < length us
    → u ≡ get_or us i d
    → drop i (encoded encoding us) ≡ (u.0, encoding u.1) ∷ drop (suc i) (encoded encoding us)
drop-encoded encoding [] i u d lt is = absurd (omega arith)
drop-encoded {D} encoding (v ∷ us) zero u d lt is =
    ap (λ (w : ℕ × D). (w.0, encoding w.1) ∷ encoded encoding us) (sym is)
drop-encoded encoding (v ∷ us) (suc i) u d lt is = drop-encoded encoding us i u d (omega arith) is

pub drop-none : {D : Type 0} (encoding : D → List ℕ) (us : List (ℕ × D)) (i : ℕ) → length us ≤ i
    → drop i (encoded encoding us) ≡ []
drop-none encoding [] i le = none i
  where
    none : (j : ℕ) → ◌≡◌ {A = List Replacement} (drop j []) []
    none zero = refl
    none (suc j) = refl
drop-none encoding (v ∷ us) zero le = absurd (omega arith)
drop-none encoding (v ∷ us) (suc i) le = drop-none encoding us i (omega arith)

none_at : (xs : List (List ℕ)) (k : ℕ) → length xs ≤ k → slice_get xs k ≡ None
none_at [] k le = refl
none_at (x ∷ xs) zero le = absurd (omega arith)
none_at (x ∷ xs) (suc k) le = none_at xs k (omega arith)

-- a digest whose index is none of the list changes nothing
pub put-none : (xs : List (List ℕ)) (k i n : ℕ) (d : List ℕ) → (k < length xs → i ≡ n → ⊥)
    → slice_get xs k ≡ option_map (λ x. cond (eqb i n) d x) (slice_get xs k)
put-none xs k i n d apart =
    elim (cases_lt k (length xs)) [
      | inl lt ↦ left_alone (eqb i n) d (slice_get xs k) (ne_eqb i n (apart lt))
      | inr le ↦
          (let none : slice_get xs k ≡ None = none_at xs k le in
          none ∙ sym (ap (option_map (λ x. cond (eqb i n) d x)) none))
    ]

mapped-set : {D : Type 0} (encoding : D → List ℕ) (xs : List D) (i : ℕ) (d : D)
    → map encoding (set xs i d) ≡ slice_set (map encoding xs) i (encoding d)
mapped-set encoding [] i d = refl
mapped-set encoding (x ∷ xs) zero d = refl
mapped-set encoding (x ∷ xs) (suc i) d = ap (λ rest. encoding x ∷ rest) (mapped-set encoding xs i d)

same_test : (first i k : ℕ) → first ≤ i → (i - first ≡ k) ⊎ (i - first ≡ k → ⊥) → eqb (i - first) k ≡ eqb i (first + k)
same_test first i k le (inl same) =
    eq-eqb (i - first) k same ∙ sym (eq-eqb i (first + k) (omega (arith, le, same)))
same_test first i k le (inr apart) =
    ne_eqb (i - first) k apart ∙ sym (ne_eqb i (first + k) (λ same. apart (omega (arith, same))))

pub put-there : {D : Type 0} (encoding : D → List ℕ) (xs : List D) (first i k : ℕ) (d : D) → first ≤ i
    → slice_get (map encoding (set xs (i - first) d)) k
    ≡ option_map (λ x. cond (eqb i (first + k)) (encoding d) x) (slice_get (map encoding xs) k)
put-there encoding xs first i k d le =
    ap (λ ds. slice_get ds k) (mapped-set encoding xs (i - first) d)
    ∙ get-set (map encoding xs) (i - first) k (encoding d)
    ∙ ap (λ b. option_map (λ x. cond b (encoding d) x) (slice_get (map encoding xs) k))
    (same_test first i k le (cases_eq (i - first) k))

-- one more replacement
pub more-after : (us : List Replacement) (u : Replacement) (n : ℕ) (o : Option (List ℕ))
    → option_map (λ x. cond (eqb u.0 n) u.1 x) (option_map (value_after us n) o)
    ≡ option_map (value_after (us ++ u ∷ []) n) o
more-after us u n None = refl
more-after us u n (Some x) = ap (λ y. Some y) (sym (after-more us u n x))

-- one more of the digests that stand at positions is changed
pub put-next : {D : Type 0}
    (encoding : D → List ℕ) (xs : List (ℕ × D)) (old us : List Replacement) (i p : ℕ) (d new : D)
    (other : ℕ × D) → i < length xs → (p, d) ≡ get_or xs i other
    → encoded encoding xs ≡ replaced_at (take i old) us ++ drop i old → encoding new ≡ value_after us p (encoding d)
    → encoded encoding (set xs i (p, new)) ≡ replaced_at (take (suc i) old) us ++ drop (suc i) old
put-next encoding [] old us i p d new other lt at is made = absurd (omega arith)
put-next encoding (x ∷ xs) [] us zero p d new other lt at is made = absurd cc
put-next encoding (x ∷ xs) [] us (suc i) p d new other lt at is made = absurd cc
put-next {D} encoding (x ∷ xs) (o ∷ old) us zero p d new other lt at is made =
    let first : ◌≡◌ {A = Replacement} (x.0, encoding x.1) o = cc in
    let rest : encoded encoding xs ≡ old = cc in
    let here : ◌≡◌ {A = Replacement} (p, encoding d) o = ap (λ (u : ℕ × D). (u.0, encoding u.1)) at ∙ first in
    ap₂ (λ (u : Replacement) (us : List Replacement). u ∷ us)
    (ap (λ b. (p, b)) made ∙ ap (λ (u : Replacement). (u.0, value_after us u.0 u.1)) here) rest
put-next encoding (x ∷ xs) (o ∷ old) us (suc i) p d new other lt at is made =
    let first : ◌≡◌ {A = Replacement} (x.0, encoding x.1) (o.0, value_after us o.0 o.1) = cc in
    let rest : encoded encoding xs ≡ replaced_at (take i old) us ++ drop i old = cc in
    ap₂ (λ (u : Replacement) (us : List Replacement). u ∷ us) first
    (put-next encoding xs old us i p d new other (omega arith) at rest made)
