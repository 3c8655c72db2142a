-- The next replacement, if there is one, is due.
use Rattle.std.proofs.Common.{◌≡◌, ◌↔◌, ℕ, suc, ◌<◌, inl, inr, false, eqb, List, [], ◌∷◌, sym, ◌∙◌, ap, subst, arith}
use Rattle.std.proofs.Common.{eq-eqb}
use Rattle.std.proofs.lemmas.Bool.{cases_lt, lt-ltb, le-ltb, cond-true, cond-false, ne_eqb}
use Rattle.std.specs.Prelude.{IsTrue, nat_lt}
use Rattle.merkle_core_parts.specs.Mem.{Replacement, value_after}
use Rattle.merkle_core_parts.specs.Laws.Replaced.{AreFrom, after-before}
use Rattle.merkle_core_parts.specs.Laws.Rebuilt.{IsDue, AreTaken, AreTakenTo}

below : (m n : ℕ) → IsTrue (nat_lt m n) → m < n
below m n is = elim (cases_lt m n) [
  | inl lt ↦ lt
  | inr le ↦ absurd (let other : nat_lt m n ≡ false = le-ltb m n le in cc (is, other))
]

pub due-at : (end : ℕ) (u : Replacement) (rest xs : List Replacement) → xs ≡ u ∷ rest
    → (IsTrue (nat_lt u.0 end) ↔ IsDue end xs)
due-at end u rest xs is = (
  λ test. subst (IsDue end) (sym is) (below u.0 end test),
  λ due. lt-ltb u.0 end (subst (IsDue end) is due),
)

pub due-none : (end : ℕ) (xs : List Replacement) → xs ≡ [] → (IsTrue false ↔ IsDue end xs)
due-none end xs is = (λ test. absurd cc, λ due. absurd (subst (IsDue end) is due))

-- where none is due, all are later
pub not-due : (first end : ℕ) (us : List Replacement) → AreFrom first us → (IsDue end us → ⊥) → AreFrom end us
not-due first end [] from none = tt
not-due first end (u ∷ us) from none =
    elim (cases_lt u.0 end) [ inl lt ↦ absurd (none lt) | inr le ↦ (le, from.1) ]

-- where one is due, it is below the end
pub due-first : (first end : ℕ) (us : List Replacement) → AreFrom first us → IsDue end us → first < end
due-first first end [] from due = absurd due
due-first first end (u ∷ us) from due = omega (arith, from.0, due)

-- the first replacement at a leaf is taken
pub taken-first : (first boundary : ℕ) (u : Replacement) (us rest : List Replacement) → us ≡ u ∷ rest → AreFrom first us
    → AreFrom boundary us → IsDue (suc first) us → AreTakenTo first boundary us rest u.1
taken-first first boundary u us rest is from bound due =
    let order : AreFrom first (u ∷ rest) = subst (AreFrom first) is from in
    let after : AreFrom boundary (u ∷ rest) = subst (AreFrom boundary) is bound in
    let lt : u.0 < suc first = subst (IsDue (suc first)) is due in
    let same : u.0 ≡ first = omega (arith, order.0, lt) in
    record {
      value = λ x. ap (λ vs. value_after vs first x) is
          ∙ ap (value_after rest first) (cond-true (eqb u.0 first) u.1 x (eq-eqb u.0 first same));
      order = subst (λ n. AreFrom n rest) same order.1;
      bound = keeps boundary u rest after;
      same = λ k x le. ap (λ vs. value_after vs k x) is
          ∙ ap (value_after rest k) (cond-false (eqb u.0 k) u.1 x
          (ne_eqb u.0 k (λ e. absurd (omega (arith, e, same, le)))));
    }
  where
    keeps : (b : ℕ) (v : Replacement) (vs : List Replacement) → AreFrom b (v ∷ vs) → AreFrom b vs
    keeps b v [] all = tt
    keeps b v (w ∷ vs) all = (omega (arith, all.0, all.1.0), all.1.1)

pub taken-next : (first boundary : ℕ) (us mid rest : List Replacement) (u : Replacement) (d : List ℕ)
    → AreTakenTo first boundary us mid d → mid ≡ u ∷ rest → IsDue (suc first) mid
    → AreTakenTo first boundary us rest u.1
taken-next first boundary us mid rest u d taken is due =
    let next = taken-first first boundary u mid rest is taken.order taken.bound due in
    record {
      value = λ x. taken.value x ∙ next.value d;
      order = next.order;
      bound = next.bound;
      same = λ k x le. taken.same k x le ∙ next.same k x le;
    }

-- until none is due
pub taken-all : (first boundary : ℕ) (us rest : List Replacement) (d : List ℕ) → AreTakenTo first boundary us rest d
    → (IsDue (suc first) rest → ⊥) → AreTaken first boundary us rest d
taken-all first boundary us rest d taken none =
    let later = not-due first (suc first) rest taken.order none in
    record {
      value = λ x. taken.value x ∙ after-before (suc first) rest first d later (omega arith);
      order = later;
      bound = taken.bound;
      same = taken.same;
    }
