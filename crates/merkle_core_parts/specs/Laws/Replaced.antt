-- What stands at an index of a list after replacements.
use Rattle.std.proofs.Common.{◌≡◌, ℕ, zero, suc, ◌+◌, ◌-◌, ◌<◌, ◌≤◌, inl, inr, Bool, true, false, cond, eqb, ltb, List}
use Rattle.std.proofs.Common.{[], ◌∷◌, ◌++◌}
use Rattle.std.proofs.Common.{length, map, Option, Some, None, refl, sym, ◌∙◌, ap, arith, eq-eqb}
use Rattle.std.proofs.lemmas.Bool.{cases_eq, cases_lt, cond-true, cond-false, ne_eqb, lt-ltb, le-ltb}
use Rattle.std.specs.Prelude.{slice_get, slice_set}
use Rattle.std.specs.Option.{option_map}
use Rattle.std.specs.List.{find}
use Rattle.merkle_core_parts.specs.Mem.{Replacement, replaced, replaced_from, replaced_at, value_after, digest_at}
use Rattle.merkle_core_parts.specs.Mem.{known_over}

set_same : (xs : List (List ℕ)) (i k : ℕ) (d : List ℕ) → i ≡ k
    → slice_get (slice_set xs i d) k ≡ option_map (λ x. d) (slice_get xs k)
set_same [] i k d same = refl
set_same (x ∷ xs) zero zero d same = refl
set_same (x ∷ xs) zero (suc k) d same = absurd (omega arith)
set_same (x ∷ xs) (suc i) zero d same = absurd (omega arith)
set_same (x ∷ xs) (suc i) (suc k) d same = set_same xs i k d (omega arith)

set_other : (xs : List (List ℕ)) (i k : ℕ) (d : List ℕ) → (i ≡ k → ⊥)
    → slice_get (slice_set xs i d) k ≡ slice_get xs k
set_other [] i k d apart = refl
set_other (x ∷ xs) zero zero d apart = absurd (apart refl)
set_other (x ∷ xs) zero (suc k) d apart = refl
set_other (x ∷ xs) (suc i) zero d apart = refl
set_other (x ∷ xs) (suc i) (suc k) d apart = set_other xs i k d (λ same. apart (ap (λ n. suc n) same))

chosen : (b : Bool) (d : List ℕ) (o : Option (List ℕ)) → b ≡ true
    → option_map (λ x. d) o ≡ option_map (λ x. cond b d x) o
chosen b d None is = refl
chosen b d (Some x) is = ap (λ y. Some y) (sym (cond-true b d x is))

pub left_alone : (b : Bool) (d : List ℕ) (o : Option (List ℕ)) → b ≡ false → o ≡ option_map (λ x. cond b d x) o
left_alone b d None is = refl
left_alone b d (Some x) is = ap (λ y. Some y) (sym (cond-false b d x is))

pub get-set : (xs : List (List ℕ)) (i k : ℕ) (d : List ℕ)
    → slice_get (slice_set xs i d) k ≡ option_map (λ x. cond (eqb i k) d x) (slice_get xs k)
get-set xs i k d = elim (cases_eq i k) [
  | inl same ↦ set_same xs i k d same ∙ chosen (eqb i k) d (slice_get xs k) (eq-eqb i k same)
  | inr apart ↦ set_other xs i k d apart ∙ left_alone (eqb i k) d (slice_get xs k) (ne_eqb i k apart)
]

map-twice : (f g : List ℕ → List ℕ) (o : Option (List ℕ)) → option_map f (option_map g o) ≡ option_map (λ x. f (g x)) o
map-twice f g None = refl
map-twice f g (Some x) = refl

map-same : (o : Option (List ℕ)) → o ≡ option_map (λ x. x) o
map-same None = refl
map-same (Some x) = refl

pub get-replaced : (xs : List (List ℕ)) (us : List Replacement) (k : ℕ)
    → slice_get (replaced xs us) k ≡ option_map (value_after us k) (slice_get xs k)
get-replaced xs [] k = map-same (slice_get xs k)
get-replaced xs (u ∷ us) k =
    get-replaced (slice_set xs u.0 u.1) us k
    ∙ ap (option_map (value_after us k)) (get-set xs u.0 k u.1)
    ∙ map-twice (value_after us k) (λ x. cond (eqb u.0 k) u.1 x) (slice_get xs k)

length-set : (xs : List (List ℕ)) (i : ℕ) (d : List ℕ) → length (slice_set xs i d) ≡ length xs
length-set [] i d = refl
length-set (x ∷ xs) zero d = refl
length-set (x ∷ xs) (suc i) d = ap (λ n. suc n) (length-set xs i d)

pub length-replaced : (xs : List (List ℕ)) (us : List Replacement) → length (replaced xs us) ≡ length xs
length-replaced xs [] = refl
length-replaced xs (u ∷ us) = length-replaced (slice_set xs u.0 u.1) us ∙ length-set xs u.0 u.1

-- one more replacement
pub after-more : (us : List Replacement) (u : Replacement) (k : ℕ) (old : List ℕ)
    → value_after (us ++ u ∷ []) k old ≡ cond (eqb u.0 k) u.1 (value_after us k old)
after-more [] u k old = refl
after-more (v ∷ us) u k old = after-more us u k (cond (eqb v.0 k) v.1 old)

-- the replacements are at this index or after it, and each is at that of the one before or after it
abbrev pub AreFrom : ℕ → List Replacement → Type 0
AreFrom first [] = Unit {0}
AreFrom first (one ∷ more) = (first ≤ one.0) × AreFrom one.0 more

pub from-less : (first next : ℕ) (us : List Replacement) → first ≤ next → AreFrom next us → AreFrom first us
from-less first next [] le from = tt
from-less first next (u ∷ us) le from = (omega (arith, le, from.0), from.1)

-- they change nothing before
pub after-before : (next : ℕ) (us : List Replacement) (k : ℕ) (old : List ℕ) → AreFrom next us → k < next
    → value_after us k old ≡ old
after-before next [] k old from lt = refl
after-before next (u ∷ us) k old from lt =
    let other : u.0 ≡ k → ⊥ = λ same. absurd (omega (arith, same, from.0, lt)) in
    ap (value_after us k) (cond-false (eqb u.0 k) u.1 old (ne_eqb u.0 k other))
    ∙ after-before u.0 us k old from.1 (omega (arith, lt, from.0))

-- one more replacement is the last one
pub replaced-more : (xs : List (List ℕ)) (us : List Replacement) (u : Replacement)
    → replaced xs (us ++ u ∷ []) ≡ slice_set (replaced xs us) u.0 u.1
replaced-more xs [] u = refl
replaced-more xs (v ∷ us) u = replaced-more (slice_set xs v.0 v.1) us u

-- the digests from a position on after replacements, index by index
pub get-replaced_from : (s : ℕ) (ds : List (List ℕ)) (us : List Replacement) (k : ℕ)
    → slice_get (replaced_from s ds us) k ≡ option_map (value_after us (s + k)) (slice_get ds k)
get-replaced_from s [] us k = refl
get-replaced_from s (d ∷ ds) us zero = let same : s ≡ s + 0 = omega arith in ap (λ n. Some (value_after us n d)) same
get-replaced_from s (d ∷ ds) us (suc k) =
    let same : suc s + k ≡ s + suc k = omega arith in
    get-replaced_from (suc s) ds us k ∙ ap (λ n. option_map (value_after us n) (slice_get ds k)) same

pub length-replaced_from : (s : ℕ) (ds : List (List ℕ)) (us : List Replacement)
    → length (replaced_from s ds us) ≡ length ds
length-replaced_from s [] us = refl
length-replaced_from s (d ∷ ds) us = ap (λ n. suc n) (length-replaced_from (suc s) ds us)

-- those at positions, position by position
pub digest-replaced_at : (ps us : List Replacement) (p : ℕ)
    → digest_at (replaced_at ps us) p ≡ option_map (value_after us p) (digest_at ps p)
digest-replaced_at [] us p = refl
digest-replaced_at (o ∷ ps) us p =
    elim (cases_eq o.0 p) [
      | inl same ↦
          ap (option_map (λ (one : Replacement). one.1))
          (cond-true (eqb o.0 p) (Some (o.0, value_after us o.0 o.1)) (find (λ one. eqb one.0 p) (replaced_at ps us))
          (eq-eqb o.0 p same))
          ∙ ap (λ n. Some (value_after us n o.1)) same
          ∙ sym (ap (λ r. option_map (value_after us p) (option_map (λ (one : Replacement). one.1) r))
          (cond-true (eqb o.0 p) (Some o) (find (λ one. eqb one.0 p) ps) (eq-eqb o.0 p same)))
      | inr apart ↦
          ap (option_map (λ (one : Replacement). one.1))
          (cond-false (eqb o.0 p) (Some (o.0, value_after us o.0 o.1)) (find (λ one. eqb one.0 p) (replaced_at ps us))
          (ne_eqb o.0 p apart))
          ∙ digest-replaced_at ps us p
          ∙ sym (ap (λ r. option_map (value_after us p) (option_map (λ (one : Replacement). one.1) r))
          (cond-false (eqb o.0 p) (Some o) (find (λ one. eqb one.0 p) ps) (ne_eqb o.0 p apart)))
    ]

pub positions-replaced_at : (ps us : List Replacement)
    → map (λ (one : Replacement). one.0) (replaced_at ps us) ≡ map (λ (one : Replacement). one.0) ps
positions-replaced_at [] us = refl
positions-replaced_at (o ∷ ps) us = ap (λ qs. o.0 ∷ qs) (positions-replaced_at ps us)

-- both
pub known-replaced : (start : ℕ) (ps : List Replacement) (ds : List (List ℕ)) (us : List Replacement) (p : ℕ)
    → known_over start (replaced_at ps us) (replaced_from start ds us) p
    ≡ option_map (value_after us p) (known_over start ps ds p)
known-replaced start ps ds us p =
    elim (cases_lt p start) [
      | inl before ↦
          cond-true (ltb p start) (digest_at (replaced_at ps us) p) (slice_get (replaced_from start ds us) (p - start))
          (lt-ltb p start before)
          ∙ digest-replaced_at ps us p
          ∙ sym (ap (option_map (value_after us p)) (cond-true (ltb p start) (digest_at ps p) (slice_get ds (p - start))
          (lt-ltb p start before)))
      | inr after ↦
          (let same : start + (p - start) ≡ p = omega (arith, after) in
          cond-false (ltb p start) (digest_at (replaced_at ps us) p) (slice_get (replaced_from start ds us) (p - start))
          (le-ltb p start after)
          ∙ get-replaced_from start ds us (p - start)
          ∙ ap (λ n. option_map (value_after us n) (slice_get ds (p - start))) same
          ∙ sym (ap (option_map (value_after us p))
          (cond-false (ltb p start) (digest_at ps p) (slice_get ds (p - start))
          (le-ltb p start after))))
    ]
