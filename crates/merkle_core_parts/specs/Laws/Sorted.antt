-- Updates in order of location say what they said before.
use Rattle.std.proofs.Common.{◌≡◌, ℕ, suc, ◌<◌, ◌≤◌, ◌⊎◌, inl, inr, Bool, true, false, not, cond, eqb, ltb, ◌&&◌, List}
use Rattle.std.proofs.Common.{[], ◌∷◌, length, filter, refl, sym, ◌∙◌, ap, ap₂, arith, eq-eqb}
use Rattle.std.proofs.lemmas.Bool.{cases_lt, cases_eq, lt-ltb, le-ltb, cond-true, cond-false, ne_eqb}
use Rattle.std.specs.Ordering.{is_lt, nat_cmp}
use Rattle.std.specs.declared.cmp.Ordering.TheVariants.{Less, Equal, Greater}
use Rattle.std.specs.List.Sorted.{ties, IsStableByKey, IsNonDecreasingBy}
use Rattle.merkle_core_parts.specs.Mem.{encoded, value_after}
use Rattle.merkle_core_parts.specs.Laws.Replaced.{AreFrom}

from_sorted : {D : Type 0} (encoding : D → List ℕ) (b : ℕ) (v : ℕ × D) (vs : List (ℕ × D)) → b ≤ v.0
    → IsNonDecreasingBy (λ (u : ℕ × D). u.0) (v ∷ vs) → AreFrom b (encoded encoding (v ∷ vs))
from_sorted encoding b v [] first sorted = (first, tt)
from_sorted encoding b v (w ∷ ws) first sorted = (
  first,
  from_sorted encoding v.0 w ws (sorted 0 1 v (omega arith) (omega arith))
      (λ i j d le lt. sorted (suc i) (suc j) d (omega (arith, le)) (omega (arith, lt))),
)

-- a sorted list is in order
pub from-sorted : {D : Type 0} (encoding : D → List ℕ) (vs : List (ℕ × D)) → IsNonDecreasingBy (λ (u : ℕ × D). u.0) vs
    → AreFrom 0 (encoded encoding vs)
from-sorted encoding [] sorted = tt
from-sorted encoding (v ∷ vs) sorted = from_sorted encoding 0 v vs (omega arith) sorted

no_less : (b : Bool) → is_lt (cond b Equal Greater) ≡ false
no_less true = refl
no_less false = refl

lt_test : (a b : ℕ) → is_lt (nat_cmp a b) ≡ ltb a b
lt_test a b =
    elim (cases_lt a b) [
      | inl lt ↦
          ap is_lt (cond-true (ltb a b) Less (cond (eqb a b) Equal Greater) (lt-ltb a b lt)) ∙ sym (lt-ltb a b lt)
      | inr le ↦
          ap is_lt (cond-false (ltb a b) Less (cond (eqb a b) Equal Greater) (le-ltb a b le)) ∙ no_less (eqb a b)
          ∙ sym (le-ltb a b le)
    ]

both : (a b : ℕ) → (a < b) ⊎ (b ≤ a) → (b < a) ⊎ (a ≤ b) → (not (ltb a b) && not (ltb b a)) ≡ eqb b a
both a b (inl lt) other =
    ap₂ (λ x y. not x && not y) (lt-ltb a b lt) (le-ltb b a (omega (arith, lt)))
    ∙ sym (ne_eqb b a (λ same. absurd (omega (arith, same, lt))))
both a b (inr le) (inl lt) =
    ap₂ (λ x y. not x && not y) (le-ltb a b le) (lt-ltb b a lt)
    ∙ sym (ne_eqb b a (λ same. absurd (omega (arith, same, lt))))
both a b (inr le) (inr other) =
    ap₂ (λ x y. not x && not y) (le-ltb a b le) (le-ltb b a other)
    ∙ sym (eq-eqb b a (omega (arith, le, other)))

ties_is : {D : Type 0} (x u : ℕ × D)
    → ties (λ (a b : ℕ × D). is_lt (nat_cmp a.0 b.0)) x u ≡ eqb u.0 x.0
ties_is x u = ap₂ (λ p q. not p && not q) (lt_test x.0 u.0) (lt_test u.0 x.0)
    ∙ both x.0 u.0 (cases_lt x.0 u.0) (cases_lt u.0 x.0)

value_filter : {D : Type 0} (encoding : D → List ℕ) (p : ℕ × D → Bool) (k : ℕ) → ((u : ℕ × D) → p u ≡ eqb u.0 k)
    → (us : List (ℕ × D)) (old : List ℕ)
    → value_after (encoded encoding us) k old ≡ value_after (encoded encoding (filter p us)) k old
value_filter encoding p k test [] old = refl
value_filter {D} encoding p k test (u ∷ us) old =
    elim (cases_eq u.0 k) [
      | inl same ↦
          value_filter encoding p k test us (cond (eqb u.0 k) (encoding u.1) old)
          ∙ ap (λ (vs : List (ℕ × D)). value_after (encoded encoding vs) k old)
          (sym (cond-true (p u) (u ∷ filter p us) (filter p us) (test u ∙ eq-eqb u.0 k same)))
      | inr apart ↦
          ap (value_after (encoded encoding us) k) (cond-false (eqb u.0 k) (encoding u.1) old (ne_eqb u.0 k apart))
          ∙ value_filter encoding p k test us old
          ∙ ap (λ (vs : List (ℕ × D)). value_after (encoded encoding vs) k old)
          (sym (cond-false (p u) (u ∷ filter p us) (filter p us) (test u ∙ ne_eqb u.0 k apart)))
    ]

none_left : {D : Type 0} (ys : List (ℕ × D)) → length ys ≡ 0 → ys ≡ []
none_left [] is = refl
none_left (y ∷ ys) is = absurd (omega arith)

-- the last one at each location stays the last
pub after-stable : {D : Type 0} (encoding : D → List ℕ) (xs ys : List (ℕ × D)) → length ys ≡ length xs
    → IsStableByKey (λ (u : ℕ × D). u.0) nat_cmp xs ys → (k : ℕ) (old : List ℕ)
    → value_after (encoded encoding xs) k old ≡ value_after (encoded encoding ys) k old
after-stable {D} encoding [] ys same stable k old =
    ap (λ (vs : List (ℕ × D)). value_after (encoded encoding vs) k old) (sym (none_left ys same))
after-stable {D} encoding (x ∷ xs) ys same stable k old =
    let tie : ℕ × D → Bool = ties (λ (a b : ℕ × D). is_lt (nat_cmp a.0 b.0)) (k, x.1) in
    value_filter encoding tie k (λ u. ties_is (k, x.1) u) (x ∷ xs) old
    ∙ ap (λ (vs : List (ℕ × D)). value_after (encoded encoding vs) k old) (sym (stable (k, x.1)))
    ∙ sym (value_filter encoding tie k (λ u. ties_is (k, x.1) u) ys old)
