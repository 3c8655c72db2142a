-- The first bit that is set, found by a walk; and places in a set.
use Rattle.std.proofs.Common.{◌≡◌, ℕ, zero, suc, ◌+◌, ◌-◌, ◌≤◌, ◌<◌, Bool, true, false, T, get_or, List, [], ◌∷◌, ◌++◌}
use Rattle.std.proofs.Common.{drop, length, Some, slice_get, refl, ap, sym, ◌∙◌, subst, ⊎_elim, arith}
use Rattle.std.specs.Prelude.{◌==◌, ◌||◌}
use Rattle.std.specs.List.{list_any}
use Rattle.std.specs.BTreeSet.{insert_key}
use Rattle.std.specs.Cmp.{tied_itself}
use Rattle.std.specs.declared.cmp.Ordering.{Ordering}
use Rattle.std.specs.declared.cmp.Ordering.TheVariants.{Less, Equal, Greater}
use Rattle.std.specs.Ordering.{nat_cmp, is_eq, match_ordering}
use Rattle.std.proofs.lemmas.List.{at_drop_more, at_drop_all}
use Rattle.std.proofs.lemmas.Bool.{cases_Bool, eq-eqb}
use Rattle.std.proofs.lemmas.Cmp.{nat_cmp_total}
use Rattle.std.proofs.lemmas.Map.Lookups.{exact_unsigned}
use Rattle.std.proofs.Math.Facts.{eqb_yes}
use Rattle.auth_store_index.specs.Growth.{first_set}

-- a bit that is set ends the walk
pub set_here : (bits : List Bool) (at : ℕ) → slice_get bits at ≡ Some true → first_set (drop at bits) ≡ 0
set_here [] at is = absurd (cc)
set_here (true ∷ bits) zero is = refl
set_here (false ∷ bits) zero is = absurd (cc)
set_here (bit ∷ bits) (suc at) is = set_here bits at is

-- one that is not set is passed
pub set_later : (bits : List Bool) (at : ℕ) → slice_get bits at ≡ Some false
    → first_set (drop at bits) ≡ first_set (drop (at + 1) bits) + 1
set_later [] at is = absurd (cc)
set_later (true ∷ bits) zero is = absurd (cc)
set_later (false ∷ bits) zero is = refl
set_later (bit ∷ bits) (suc at) is =
    let one : suc (at + 1) ≡ suc at + 1 = omega arith in
    set_later bits at is ∙ ap (λ n. first_set (drop n (bit ∷ bits)) + 1) one

-- behind the last bit it ends
pub set_nowhere : (bits : List Bool) (at : ℕ) → length bits ≤ at → first_set (drop at bits) ≡ 0
set_nowhere [] zero past = refl
set_nowhere [] (suc at) past = refl
set_nowhere (bit ∷ bits) zero past = absurd (omega (arith, past))
set_nowhere (bit ∷ bits) (suc at) past = set_nowhere bits at (omega (arith, past))

-- ---- places in a set
is_place : (at place : ℕ) → is_eq (nat_cmp at place) ≡ (place == at)
is_place at place = ⊎_elim same apart (cases_Bool (place == at))
  where
    same : (place == at) ≡ true → is_eq (nat_cmp at place) ≡ (place == at)
    same here = let one : place ≡ at = eqb_yes (subst T (sym here) tt) in
        ap (λ p. is_eq (nat_cmp at p)) one ∙ (ap is_eq (tied_itself nat_cmp_total at) ∙ sym here)

    of : (o : Ordering) → nat_cmp at place ≡ o → (place == at) ≡ false → is_eq o ≡ false
    of Less is away = refl
    of Greater is away = refl
    of Equal is away =
        let clash : true ≡ false = sym (eq-eqb place at (sym (exact_unsigned at place is))) ∙ away in absurd (cc)

    apart : (place == at) ≡ false → is_eq (nat_cmp at place) ≡ (place == at)
    apart away = of (nat_cmp at place) refl away ∙ sym away

pub among_more : (places : List ℕ) (place at : ℕ)
    → list_any (λ p. is_eq (nat_cmp at p)) (insert_key nat_cmp places place)
    ≡ ((place == at) || list_any (λ p. is_eq (nat_cmp at p)) places)
among_more [] place at = ap (λ b. b || false) (is_place at place)
among_more (p ∷ places) place at = of (nat_cmp place p) refl (among_more places place at)
  where
    test : ℕ → Bool
    test q = is_eq (nat_cmp at q)

    twice : (a b : Bool) → (a || b) ≡ (a || (a || b))
    twice true b = refl
    twice false b = refl

    swap : (a b c : Bool) → (a || (b || c)) ≡ (b || (a || c))
    swap true true c = refl
    swap true false c = refl
    swap false b c = refl

    of : (o : Ordering) → nat_cmp place p ≡ o
        → list_any test (insert_key nat_cmp places place) ≡ ((place == at) || list_any test places)
        → list_any test (match_ordering (nat_cmp place p) (place ∷ p ∷ places) (p ∷ places) (p
        ∷ insert_key nat_cmp places place))
        ≡ ((place == at) || list_any test (p ∷ places))
    of Less is later =
        ap (λ o. list_any test (match_ordering o (place ∷ p ∷ places) (p ∷ places) (p
        ∷ insert_key nat_cmp places place))) is
        ∙ ap (λ b. b || list_any test (p ∷ places)) (is_place at place)
    of Equal is later =
        let one : place ≡ p = exact_unsigned place p is in
        let same : test p ≡ (place == at) = ap test (sym one) ∙ is_place at place in
        ap (λ o. list_any test (match_ordering o (place ∷ p ∷ places) (p ∷ places) (p
        ∷ insert_key nat_cmp places place))) is
        ∙ (twice (test p) (list_any test places) ∙ ap (λ b. b || list_any test (p ∷ places)) same)
    of Greater is later =
        ap (λ o. list_any test (match_ordering o (place ∷ p ∷ places) (p ∷ places) (p
        ∷ insert_key nat_cmp places place))) is
        ∙ (ap (λ b. test p || b) later ∙ swap (test p) (place == at) (list_any test places))

-- ---- bits with others behind them
pub get_front : (xs ys : List Bool) (at : ℕ) (bit : Bool) → at < length xs → slice_get xs at ≡ Some bit
    → slice_get (xs ++ ys) at ≡ Some bit
get_front [] ys at bit within is = absurd (omega (arith, within))
get_front (x ∷ xs) ys zero bit within is = is
get_front (x ∷ xs) ys (suc at) bit within is = get_front xs ys at bit (omega (arith, within)) is

pub get_behind : (xs ys : List Bool) (at : ℕ) (bit : Bool) → length xs ≤ at → slice_get ys (at - length xs) ≡ Some bit
    → slice_get (xs ++ ys) at ≡ Some bit
get_behind [] ys at bit past is = let none : at ≡ at - 0 = omega arith in ap (slice_get ys) none ∙ is
get_behind (x ∷ xs) ys zero bit past is = absurd (omega (arith, past))
get_behind (x ∷ xs) ys (suc at) bit past is =
    let less : at - length xs ≡ suc at - suc (length xs) = omega arith in
    get_behind xs ys at bit (omega (arith, past)) (ap (slice_get ys) less ∙ is)

-- an element that is read where it stands
pub read_there : (xs : List Bool) (i : ℕ) (x : Bool) → x ≡ get_or xs i x → i < length xs → slice_get xs i ≡ Some x
read_there [] i x is within = absurd (omega (arith, within))
read_there (y ∷ xs) zero x is within = ap Some (sym is)
read_there (y ∷ xs) (suc i) x is within = read_there xs i x is (omega (arith, within))

-- ---- a walk goes on, or ends
pub goes_on : (bits : List Bool) (start at : ℕ) → slice_get bits at ≡ Some false
    → at + first_set (drop at bits) ≡ start + first_set (drop start bits)
    → (at + 1) + first_set (drop (at + 1) bits) ≡ start + first_set (drop start bits)
goes_on bits start at is here = let later = set_later bits at is in omega (arith, later, here)

pub ends_here : (bits : List Bool) (start at : ℕ) → slice_get bits at ≡ Some true
    → at + first_set (drop at bits) ≡ start + first_set (drop start bits) → at ≡ start + first_set (drop start bits)
ends_here bits start at is here = let none = set_here bits at is in omega (arith, none, here)

pub ends_behind : (bits : List Bool) (start at : ℕ) → length bits ≤ at
    → at + first_set (drop at bits) ≡ start + first_set (drop start bits) → at ≡ start + first_set (drop start bits)
ends_behind bits start at past here = let none = set_nowhere bits at past in omega (arith, none, here)

-- ---- places are taken into a set
pub set_more : (keys next places : List ℕ) (i at : ℕ) (whole : Bool) → i < length places
    → next ≡ insert_key nat_cmp keys (get_or places i 0)
    → (list_any (λ p. is_eq (nat_cmp at p)) keys || list_any (λ place. place == at) (drop i places)) ≡ whole
    → (list_any (λ p. is_eq (nat_cmp at p)) next || list_any (λ place. place == at) (drop (i + 1) places)) ≡ whole
set_more keys next places i at whole within does here =
    let test : ℕ → Bool = λ p. is_eq (nat_cmp at p) in
    let rest : Bool = list_any (λ place. place == at) (drop (i + 1) places) in
    ap (λ ks. list_any test ks || rest) does
    ∙ (ap (λ b. b || rest) (among_more keys (get_or places i 0) at)
    ∙ (swap (get_or places i 0 == at) (list_any test keys) rest
    ∙ (sym (at_drop_more (λ xs. list_any test keys || list_any (λ place. place == at) xs) places i 0 within) ∙ here)))
  where
    swap : (a b c : Bool) → ((a || b) || c) ≡ (b || (a || c))
    swap true true c = refl
    swap true false c = refl
    swap false b c = refl

pub set_empty : (keys places : List ℕ) (at : ℕ) → keys ≡ []
    → (list_any (λ p. is_eq (nat_cmp at p)) keys || list_any (λ place. place == at) places)
    ≡ list_any (λ place. place == at) places
set_empty keys places at none =
    ap (λ ks. list_any (λ p. is_eq (nat_cmp at p)) ks || list_any (λ place. place == at) places) none

pub set_whole : (keys places : List ℕ) (i at : ℕ) → length places ≤ i
    → (list_any (λ p. is_eq (nat_cmp at p)) keys || list_any (λ place. place == at) (drop i places))
    ≡ list_any (λ place. place == at) places
    → list_any (λ p. is_eq (nat_cmp at p)) keys ≡ list_any (λ place. place == at) places
set_whole keys places i at past here =
    or_false (list_any (λ p. is_eq (nat_cmp at p)) keys)
    ∙ (sym (at_drop_all (λ xs. list_any (λ p. is_eq (nat_cmp at p)) keys
    || list_any (λ place. place == at) xs) places i past) ∙ here)
  where
    or_false : (a : Bool) → a ≡ (a || false)
    or_false true = refl
    or_false false = refl
