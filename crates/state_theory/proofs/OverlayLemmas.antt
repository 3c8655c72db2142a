-- Changes laid over a list of bits.
use Rattle.std.proofs.Common.{◌≡◌, ◌⊎◌, ℕ, zero, suc, ◌+◌, ◌-◌, ◌*◌, ◌<◌, ◌≤◌, Bool, true, false, inl, inr}
use Rattle.std.proofs.Common.{List, [], ◌∷◌, ◌++◌, length, take, get_or, cond, replicate, refl, sym, ◌∙◌, ap, subst, arith, length-append}
use Rattle.std.specs.List.{AllByRecursion}
use Rattle.std.specs.Prelude.{◌&&◌, nat_lt, slice_set}
use Rattle.std.proofs.lemmas.Bool.{cases_eq, cases_lt, cond-true, cond-false, lt-ltb, le-ltb}
use Rattle.std.proofs.lemmas.List.{length-replicate, length-set, length-take-le, set-append_right, get_or-set_same, get_or-set_other, get_or-take, set-get_or}
use Rattle.std.proofs.lemmas.List.{set_comm, take_all, take-set-le}
use Rattle.std.proofs.Math.Seq.{take-set-lt}
use Rattle.state_theory.specs.Bits.{Bits, all_bits, bit_count, cleared}
use Rattle.state_theory.specs.Overlay.{Overlay, IsLaid, base_of, remembered, set_again, unchanged}

-- ---- lists in which bits are set
pub again_more : (first : ℕ) (bits : List Bool) (places : List ℕ) (at : ℕ)
    → set_again first bits (places ++ at ∷ []) ≡ slice_set (set_again first bits places) (at - first) true
again_more first bits [] at = refl
again_more first bits (p ∷ places) at = again_more first (slice_set bits (p - first) true) places at

pub length-again : (first : ℕ) (bits : List Bool) (places : List ℕ) → length (set_again first bits places) ≡ length bits
length-again first bits [] = refl
length-again first bits (p ∷ places) =
    length-again first (slice_set bits (p - first) true) places ∙ length-set bits (p - first) true

set_over : (bits : List Bool) (i : ℕ) (a b : Bool) → slice_set (slice_set bits i a) i b ≡ slice_set bits i b
set_over [] i a b = refl
set_over (bit ∷ bits) zero a b = refl
set_over (bit ∷ bits) (suc i) a b = ap (λ rest. bit ∷ rest) (set_over bits i a b)

-- a bit that is set at last is set, whatever it was
again_over : (first i : ℕ) (v : Bool) (places : List ℕ) (bits : List Bool)
    → slice_set (set_again first (slice_set bits i v) places) i true ≡ slice_set (set_again first bits places) i true
again_over first i v [] bits = set_over bits i v true
again_over first i v (p ∷ places) bits =
    elim (cases_eq i (p - first)) [
      | inl is ↦ ap (λ bs. slice_set (set_again first bs places) i true)
          (ap (λ k. slice_set (slice_set bits i v) k true) (sym is) ∙ set_over bits i v true ∙ ap (λ k. slice_set bits k true) is)
      | inr differ ↦ ap (λ bs. slice_set (set_again first bs places) i true) (set_comm bits i (p - first) v true differ)
          ∙ again_over first i v places (slice_set bits (p - first) true)
    ]

set_inside : (bits : List Bool) (i : ℕ) → get_or bits i false ≡ true → i < length bits
set_inside [] i is = absurd (let e : false ≡ true = is in cc)
set_inside (bit ∷ bits) zero is = omega arith
set_inside (bit ∷ bits) (suc i) is = omega (arith, set_inside bits i is)

-- a bit that is set stays so
still_set : (first i : ℕ) (places : List ℕ) (bits : List Bool) → get_or bits i false ≡ true
    → get_or (set_again first bits places) i false ≡ true
still_set first i [] bits is = is
still_set first i (p ∷ places) bits is =
    still_set first i places (slice_set bits (p - first) true)
    (elim (cases_eq i (p - first)) [
      | inl same ↦ ap (λ k. get_or (slice_set bits k true) i false) (sym same)
          ∙ get_or-set_same bits i true false (set_inside bits i is)
      | inr differ ↦ get_or-set_other bits (p - first) i true false differ ∙ is
    ])

set_as_is : (bits : List Bool) (i : ℕ) (v : Bool) → get_or bits i false ≡ v → slice_set bits i v ≡ bits
set_as_is bits i v is = ap (slice_set bits i) (sym is) ∙ set-get_or bits i false

-- ---- what contracts see
abbrev pub seen : ℕ → Bits → ℕ → List ℕ → Overlay
seen width after listed places = record { base = base_of width after listed places; after = after; cleared = places }

pub length-base : (width : ℕ) (after : Bits) (listed : ℕ) (places : List ℕ) → listed ≤ length after.kept
    → length (base_of width after listed places).kept ≡ listed
length-base width after listed places few =
    length-again (8 * width * after.pruned) (take listed after.kept) places ∙ length-take-le listed after.kept few

-- where nothing is changed yet
pub seen_new : (width : ℕ) (bits : Bits) (listed : ℕ) (places : List ℕ) → listed ≡ length bits.kept → places ≡ []
    → seen width bits listed places ≡ unchanged bits
seen_new width bits listed places all none =
    ap (seen width bits listed) none
    ∙ ap (λ k. record { base = record { pruned = bits.pruned; kept = k }; after = bits; cleared = [] })
    (take_all listed bits.kept (omega (arith, all)))

pub laid_new : (width : ℕ) (bits : Bits) (listed : ℕ) (places : List ℕ) → listed ≡ length bits.kept → places ≡ []
    → IsLaid width bits listed places
laid_new width bits listed places all none =
    subst (IsLaid width bits listed) (sym none) (record { few = omega (arith, all); there = tt })

-- a bit is cleared
and_yes : (b c : Bool) → b ≡ true → c ≡ true → (b && c) ≡ true
and_yes b c one two = ap (λ x. x && c) one ∙ two

module _ (width : ℕ) (before : Bits) (listed : ℕ) (places : List ℕ) (at : ℕ) (laid : IsLaid width before listed places)
    (from : 8 * width * before.pruned ≤ at) where
  abbrev first : ℕ
  first = 8 * width * before.pruned

  abbrev own : Overlay
  own = seen width before listed places

  abbrev with_clear : Bits
  with_clear = record before { kept = slice_set before.kept (at - first) false }

  reach : bit_count width own.base ≡ first + listed
  reach = ap (λ n. first + n) (length-base width before listed places laid.few)

  -- an own new bit
  pub own_base : listed ≤ at - first → base_of width with_clear listed places ≡ own.base
  own_base past =
      ap (λ k. record { pruned = before.pruned; kept = set_again first k places })
      (take-set-le listed before.kept (at - first) false past)

  pub own_remembered : listed ≤ at - first → places ≡ remembered width own at
  own_remembered past =
      let beyond : nat_lt at (bit_count width own.base) ≡ false = le-ltb at _ (omega (arith, reach, past, from)) in
      sym (cond-false _ _ _ (ap (λ b. b && get_or before.kept (at - first) false) beyond))

  -- one of the list that is set
  pub listed_base : at - first < listed → get_or before.kept (at - first) false ≡ true
      → base_of width with_clear listed (places ++ at ∷ []) ≡ own.base
  listed_base lt is =
      let kept : List Bool = take listed before.kept in
      let i : ℕ = at - first in
      let here : get_or kept i false ≡ true = get_or-take listed before.kept i false lt ∙ is in
      ap (λ k. record { pruned = before.pruned; kept = k })
      (again_more first (take listed (slice_set before.kept i false)) places at
      ∙ ap (λ bs. slice_set (set_again first bs places) i true) (take-set-lt listed before.kept i false lt)
      ∙ again_over first i false places kept
      ∙ set_as_is (set_again first kept places) i true (still_set first i places kept here))

  pub listed_remembered : at - first < listed → get_or before.kept (at - first) false ≡ true
      → places ++ at ∷ [] ≡ remembered width own at
  listed_remembered lt is =
      let within : nat_lt at (bit_count width own.base) ≡ true = lt-ltb at _ (omega (arith, reach, lt, from)) in
      sym (cond-true _ _ _ (and_yes (nat_lt at (bit_count width own.base)) _ within is))

-- what stands after a bit is cleared
pub record IsCleared (width : ℕ) (before : Bits) (listed : ℕ) (places : List ℕ) (at : ℕ) (after : Bits) (more : List ℕ) : Type 0 where
  pub laid : IsLaid width after listed more
  pub base : base_of width after listed more ≡ base_of width before listed places
  pub are : more ≡ remembered width (seen width before listed places) at

all_append : (P : ℕ → Type 0) (xs : List ℕ) (x : ℕ) → AllByRecursion P xs → P x → AllByRecursion P (xs ++ x ∷ [])
all_append P [] x all one = (one, tt)
all_append P (y ∷ xs) x all one = (all.0, all_append P xs x all.1 one)

pub laid_cleared : (width : ℕ) (before after : Bits) (listed : ℕ) (places : List ℕ) (at : ℕ)
    → after ≡ record before { kept = slice_set before.kept (at - 8 * width * before.pruned) false }
    → IsLaid width before listed places → IsLaid width after listed places
laid_cleared width before after listed places at is laid =
    subst (λ b. IsLaid width b listed places) (sym is) (record {
      few = omega (arith, laid.few, length-set before.kept (at - 8 * width * before.pruned) false);
      there = laid.there;
    })

pub laid_remembered : (width : ℕ) (before : Bits) (listed : ℕ) (places : List ℕ) (at : ℕ) → 8 * width * before.pruned ≤ at
    → at - 8 * width * before.pruned < listed → IsLaid width before listed places → IsLaid width before listed (places ++ at ∷ [])
laid_remembered width before listed places at from lt laid = record {
  few = laid.few;
  there = all_append (λ at. (8 * width * before.pruned ≤ at) × (at < 8 * width * before.pruned + listed)) places at laid.there
      (from, omega (arith, from, lt));
}

pub clear_done : (width : ℕ) (before after : Bits) (listed : ℕ) (places more : List ℕ) (at start : ℕ) → IsLaid width before listed places
    → 8 * width * before.pruned ≤ at → start ≡ 8 * width * before.pruned
    → get_or before.kept (at - 8 * width * before.pruned) false ≡ true
    → after ≡ record before { kept = slice_set before.kept (at - 8 * width * before.pruned) false }
    → more ≡ cond (nat_lt (at - start) listed) (places ++ at ∷ []) places
    → IsCleared width before listed places at after more
clear_done width before after listed places more at start laid from begins is_set is are =
    by (cases_lt (at - 8 * width * before.pruned) listed)
  where
    here : at - start ≡ at - 8 * width * before.pruned
    here = ap (λ n. at - n) begins

    by : (at - 8 * width * before.pruned < listed) ⊎ (listed ≤ at - 8 * width * before.pruned)
        → IsCleared width before listed places at after more
    by (inl lt) =
        let test : nat_lt (at - start) listed ≡ true = lt-ltb (at - start) listed (omega (arith, here, lt)) in
        let more_is : more ≡ places ++ at ∷ [] = are ∙ cond-true _ _ _ test in
        record {
          laid = subst (IsLaid width after listed) (sym more_is)
              (laid_cleared width before after listed (places ++ at ∷ []) at is (laid_remembered width before listed places at from lt laid));
          base = ap (λ b. base_of width b listed more) is
              ∙ ap (base_of width (with_clear width before listed places at laid from) listed) more_is
              ∙ listed_base width before listed places at laid from lt is_set;
          are = more_is ∙ listed_remembered width before listed places at laid from lt is_set;
        }
    by (inr past) =
        let test : nat_lt (at - start) listed ≡ false = le-ltb (at - start) listed (omega (arith, here, past)) in
        let more_is : more ≡ places = are ∙ cond-false _ _ _ test in
        record {
          laid = subst (IsLaid width after listed) (sym more_is) (laid_cleared width before after listed places at is laid);
          base = ap (λ b. base_of width b listed more) is
              ∙ ap (base_of width (with_clear width before listed places at laid from) listed) more_is
              ∙ own_base width before listed places at laid from past;
          are = more_is ∙ own_remembered width before listed places at laid from past;
        }

-- ---- bits that are cleared one after the other
pub cleared_more : (bits : List Bool) (places : List ℕ) (at : ℕ) → cleared bits (places ++ at ∷ []) ≡ slice_set (cleared bits places) at false
cleared_more bits [] at = refl
cleared_more bits (p ∷ places) at = cleared_more (slice_set bits p false) places at

pub all_set : (width : ℕ) (old new : Bits) (at : ℕ) → 8 * width * old.pruned ≤ at
    → new ≡ record old { kept = slice_set old.kept (at - 8 * width * old.pruned) false }
    → all_bits width new ≡ slice_set (all_bits width old) at false
all_set width old new at le is =
    let size : ℕ = 8 * width * old.pruned in
    ap (all_bits width) is ∙ sym (set-append_right (replicate size false) old.kept size at false (length-replicate size false) le)

-- at most one place more is remembered
pub length-remembered : (width : ℕ) (overlay : Overlay) (at : ℕ) → length (remembered width overlay at) ≤ length overlay.cleared + 1
length-remembered width overlay at =
    by (nat_lt at (bit_count width overlay.base) && get_or overlay.after.kept (at - 8 * width * overlay.after.pruned) false)
  where
    by : (b : Bool) → length (cond b (overlay.cleared ++ at ∷ []) overlay.cleared) ≤ length overlay.cleared + 1
    by true = omega (arith, length-append overlay.cleared (at ∷ []))
    by false = omega arith
