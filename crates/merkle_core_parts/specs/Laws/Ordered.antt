-- Which of replacements in order of their indices is found at an index.
use Rattle.std.proofs.Common.{◌≡◌, ℕ, zero, suc, ◌<◌, ◌≤◌, inl, inr, true, false, cond, eqb, leb, List, [], ◌∷◌, length}
use Rattle.std.proofs.Common.{get_or}
use Rattle.std.proofs.Common.{Option, Some, None, refl, sym, ◌∙◌, ap, arith, eq-eqb, leb-true, leb-false}
use Rattle.std.proofs.lemmas.Bool.{cases_eq, cond-true, cond-false, ne_eqb}
use Rattle.std.proofs.lemmas.List.{length-map, get_or-map}
use Rattle.std.specs.Option.{option_or}
use Rattle.merkle_core_parts.specs.Layers.{replacement_at}
use Rattle.merkle_core_parts.specs.Mem.{Replacement, encoded}
use Rattle.merkle_core_parts.specs.Laws.Replaced.{AreFrom}

before_last : (b : ℕ) (us : List Replacement) (index : ℕ) → AreFrom b us → index < b → replacement_at us index ≡ None
before_last b [] index from lt = refl
before_last b (u ∷ us) index from lt =
    let other : u.0 ≡ index → ⊥ = λ same. absurd (omega (arith, same, from.0, lt)) in
    ap (λ o. option_or o (cond (eqb u.0 index) (Some u.1) None))
    (before_last u.0 us index from.1 (omega (arith, lt, from.0)))
    ∙ cond-false (eqb u.0 index) (Some u.1) None (ne_eqb u.0 index other)

-- the last of so many replacements, where it is at an index
abbrev pub last_at : List Replacement → ℕ → ℕ → Replacement → Option (List ℕ)
last_at us index zero d = None
last_at us index (suc k) d = cond (eqb (get_or us k d).0 index) (Some (get_or us k d).1) None

no_less : (us : List Replacement) (b i : ℕ) (d : Replacement) → AreFrom b us → i < length us → b ≤ (get_or us i d).0
no_less [] b i d from lt = absurd (omega arith)
no_less (u ∷ us) b zero d from lt = from.0
no_less (u ∷ us) b (suc i) d from lt = omega (arith, no_less us u.0 i d from.1 (omega arith), from.0)

kept_last : (index v u : ℕ) (x y : List ℕ) → v ≤ index → u ≤ v
    → option_or (cond (eqb v index) (Some x) None) (cond (eqb u index) (Some y) None) ≡ cond (eqb v index) (Some x) None
kept_last index v u x y le less =
    elim (cases_eq v index) [
      | inl same ↦
          ap (λ o. option_or o (cond (eqb u index) (Some y) None))
          (cond-true (eqb v index) (Some x) None (eq-eqb v index same))
          ∙ sym (cond-true (eqb v index) (Some x) None (eq-eqb v index same))
      | inr apart ↦
          ap (λ o. option_or o (cond (eqb u index) (Some y) None))
          (cond-false (eqb v index) (Some x) None (ne_eqb v index apart))
          ∙ cond-false (eqb u index) (Some y) None (ne_eqb u index (λ same. apart (omega (arith, same, le, less))))
          ∙ sym (cond-false (eqb v index) (Some x) None (ne_eqb v index apart))
    ]

-- where so many replacements in order are at an index or before it, the last of them is the one at it, if one is
pub replacement-last : (us : List Replacement) (b index count : ℕ) (d : Replacement) → AreFrom b us → count ≤ length us
    → ((i : ℕ) → i < count → (get_or us i d).0 ≤ index)
    → ((i : ℕ) → count ≤ i → i < length us → index < (get_or us i d).0)
    → replacement_at us index ≡ last_at us index count d
replacement-last [] b index zero d from within low high = refl
replacement-last [] b index (suc k) d from within low high = absurd (omega (arith, within))
replacement-last (u ∷ us) b index zero d from within low high =
    before_last u.0 (u ∷ us) index (omega arith, from.1) (high 0 (omega arith) (omega arith))
replacement-last (u ∷ us) b index (suc zero) d from within low high =
    ap (λ o. option_or o (cond (eqb u.0 index) (Some u.1) None))
    (replacement-last us u.0 index zero d from.1 (omega arith) (λ i lt. absurd (omega (arith, lt)))
    (λ i le lt. high (suc i) (omega arith) (omega (arith, lt))))
replacement-last (u ∷ us) b index (suc (suc k)) d from within low high =
    ap (λ o. option_or o (cond (eqb u.0 index) (Some u.1) None))
    (replacement-last us u.0 index (suc k) d from.1 (omega (arith, within)) (λ i lt. low (suc i) (omega (arith, lt)))
    (λ i le lt. high (suc i) (omega (arith, le)) (omega (arith, lt))))
    ∙ kept_last index (get_or us k d).0 u.0 (get_or us k d).1 u.1 (low (suc k) (omega arith))
    (no_less us u.0 k d from.1 (omega (arith, within)))

-- ---- the same of digests of the code
no_less_in : {D : Type 0} (encoding : D → List ℕ) (xs : List (ℕ × D)) (b i : ℕ) (d : ℕ × D)
    → AreFrom b (encoded encoding xs) → i < length xs → b ≤ (get_or xs i d).0
no_less_in encoding [] b i d from lt = absurd (omega arith)
no_less_in encoding (x ∷ xs) b zero d from lt = from.0
no_less_in encoding (x ∷ xs) b (suc i) d from lt =
    omega (arith, no_less_in encoding xs x.0 i d from.1 (omega arith), from.0)

pub in-order : {D : Type 0} (encoding : D → List ℕ) (xs : List (ℕ × D)) (b : ℕ) → AreFrom b (encoded encoding xs)
    → (i j : ℕ) (d : ℕ × D) → i ≤ j → j < length xs → (get_or xs i d).0 ≤ (get_or xs j d).0
in-order encoding [] b from i j d le lt = absurd (omega arith)
in-order encoding (x ∷ xs) b from zero zero d le lt = omega arith
in-order encoding (x ∷ xs) b from zero (suc j) d le lt = no_less_in encoding xs x.0 j d from.1 (omega arith)
in-order encoding (x ∷ xs) b from (suc i) zero d le lt = absurd (omega arith)
in-order encoding (x ∷ xs) b from (suc i) (suc j) d le lt =
    in-order encoding xs x.0 from.1 i j d (omega arith) (omega arith)

abbrev pub last_in : {D : Type 0} → (D → List ℕ) → List (ℕ × D) → ℕ → ℕ → ℕ × D → Option (List ℕ)
last_in encoding xs index zero d = None
last_in encoding xs index (suc k) d = cond (eqb (get_or xs k d).0 index) (Some (encoding (get_or xs k d).1)) None

last_same : {D : Type 0} (encoding : D → List ℕ) (xs : List (ℕ × D)) (index count : ℕ) (d : ℕ × D) → count ≤ length xs
    → last_at (encoded encoding xs) index count (d.0, encoding d.1) ≡ last_in encoding xs index count d
last_same encoding xs index zero d le = refl
last_same encoding xs index (suc k) d le =
    ap (λ (u : Replacement). cond (eqb u.0 index) (Some u.1) None)
    (get_or-map (λ one. (one.0, encoding one.1)) xs k d (d.0, encoding d.1) (omega (arith, le)))

pub found-last : {D : Type 0} (encoding : D → List ℕ) (xs : List (ℕ × D)) (index count : ℕ) (d : ℕ × D)
    → AreFrom 0 (encoded encoding xs) → count ≤ length xs
    → ((k : ℕ) (e : ℕ × D) → 0 ≤ k → k < count → leb (get_or xs k e).0 index ≡ true)
    → ((k : ℕ) (e : ℕ × D) → count ≤ k → k < length xs → leb (get_or xs k e).0 index ≡ false)
    → replacement_at (encoded encoding xs) index ≡ last_in encoding xs index count d
found-last {D} encoding xs index count d from within low high =
    let e : Replacement = (d.0, encoding d.1) in
    let long : length (encoded encoding xs) ≡ length xs = length-map xs (λ one. (one.0, encoding one.1)) in
    let at : (i : ℕ) → i < length xs → (get_or (encoded encoding xs) i e).0 ≡ (get_or xs i d).0 =
    λ i lt. ap (λ (u : Replacement). u.0) (get_or-map (λ one. (one.0, encoding one.1)) xs i d e lt) in
    replacement-last (encoded encoding xs) 0 index count e from (omega (arith, within, long))
    (λ i lt. omega (
      arith,
      at i (omega (arith, lt, within)),
      leb-true (get_or xs i d).0 index (low i d (omega arith) lt),
    ))
    (λ i le lt. omega (
      arith,
      at i (omega (arith, lt, long)),
      leb-false (get_or xs i d).0 index (high i d le (omega (arith, lt, long))),
    ))
    ∙ last_same encoding xs index count d within

pub found-none : {D : Type 0} (encoding : D → List ℕ) (xs : List (ℕ × D)) (index : ℕ) → AreFrom 0 (encoded encoding xs)
    → ((k : ℕ) (e : ℕ × D) → 0 ≤ k → k < length xs → leb (get_or xs k e).0 index ≡ false)
    → replacement_at (encoded encoding xs) index ≡ None
found-none encoding [] index from high = refl
found-none encoding (x ∷ xs) index from high =
    before_last x.0 (encoded encoding (x ∷ xs)) index (omega arith, from.1)
    (omega (arith, leb-false x.0 index (high 0 x (omega arith) (omega arith))))
