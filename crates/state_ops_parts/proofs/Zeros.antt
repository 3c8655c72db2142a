-- Zeros, and the frame of an operation.
use Rattle.std.proofs.Common.{◌≡◌, ℕ, zero, suc, ◌-◌, ltb, true, false, cond, nat_eq, List, [], ◌∷◌, ◌++◌, length}
use Rattle.std.proofs.Common.{take, drop, replicate, Result, Ok, Err, refl, sym, ◌∙◌, ap, subst, append-nil, arith}
use Rattle.std.specs.Prelude.{MatchResult, ◌&&◌}
use Rattle.std.proofs.Math.Dec.{eqb-suc-zero}
use Rattle.std.specs.List.{list_all}
use Rattle.std.proofs.lemmas.Bool.{le-ltb}
use Rattle.std.proofs.lemmas.List.{take_at, drop_at, length-append}
use Rattle.merkle_forest.specs.declared.codec.error.Error.{Error}
use Rattle.merkle_forest.specs.declared.codec.error.Error.TheVariants.{EndOfBuffer, Invalid}
use Rattle.merkle_forest.specs.Codec.{Outcome, Reads, Refuses, ◌>>=◌}
use Rattle.state_ops_parts.specs.Operation.{padded}
use Rattle.state_ops_parts.specs.Laws.Found.{zeros_with}
use Rattle.state_ops_parts.specs.Grammar.{Found, with_zeros, after_zeros, after_absent}

-- zeros are what a test of each byte finds
pub zeros_all : (bytes : List ℕ) → list_all (λ byte. nat_eq byte 0) bytes ≡ true → after_zeros bytes ≡ Ok []
zeros_all [] all = refl
zeros_all (zero ∷ bytes) all = zeros_all bytes all
zeros_all (suc b ∷ bytes) all = let no : list_all (λ byte. nat_eq byte 0) (suc b ∷ bytes) ≡ false =
    ap (λ is. is && list_all (λ byte. nat_eq byte 0) bytes) (eqb-suc-zero b) in absurd (cc)

pub zeros_not_all : (bytes : List ℕ) → list_all (λ byte. nat_eq byte 0) bytes ≡ false → after_zeros bytes ≡ Err Invalid
zeros_not_all [] all = absurd (cc)
zeros_not_all (zero ∷ bytes) all = zeros_not_all bytes all
zeros_not_all (suc b ∷ bytes) all = refl

-- what is found to be zeros is zeros
pub zeros_are : (bytes rest : List ℕ) → after_zeros bytes ≡ Ok rest → (bytes ≡ replicate (length bytes) 0) × (rest ≡ [])
zeros_are [] rest is = (refl, cc)
zeros_are (zero ∷ bytes) rest is = (ap (λ s. 0 ∷ s) (zeros_are bytes rest is).0, (zeros_are bytes rest is).1)
zeros_are (suc b ∷ bytes) rest is = absurd (cc)

-- a byte that is no zero is refused as such
pub refuses_nonzero : (lacks : Type 0) (e : Error) (expected : Outcome) → (e ≡ Invalid) × (expected ≡ Err Invalid)
    → Refuses lacks e expected
refuses_nonzero lacks e expected found = subst (λ (f : Error). Refuses lacks f expected) (sym found.0) found.1

-- a frame of a known size is taken from the front
pub framed : (size : ℕ) (fault : Outcome) (f : List ℕ → Outcome) (old bytes new : List ℕ) → old ≡ bytes ++ new
    → length bytes ≡ size
    → cond (ltb (length old) size) fault (f (take size old) >>= λ _. Ok (drop size old)) ≡ (f bytes >>= λ _. Ok new)
framed size fault f old bytes new is sized =
    let long : ltb (length old) size ≡ false = le-ltb _ _ (omega (arith, ap length is, length-append bytes new)) in
    let front : take size old ≡ bytes = ap (take size) is ∙ take_at bytes new size sized in
    let back : drop size old ≡ new = ap (drop size) is ∙ drop_at bytes new size sized in
    rw (long, front, back) refl

-- zeros in place of a value
pub absent_reads : (size : ℕ) (old bytes new : List ℕ) (result : Result (Unit {0}) Error) → old ≡ bytes ++ new
    → length bytes ≡ size
    → MatchResult result (λ _. after_zeros bytes ≡ Ok []) (λ e. (e ≡ Invalid) × (after_zeros bytes ≡ Err Invalid))
    → Reads (λ _. replicate size 0) old new (after_absent size old) ⊥ result
absent_reads size old bytes new (Ok u) is sized found = (
  framed size (Err EndOfBuffer) after_zeros old bytes new is sized ∙ ap (λ x. x >>= λ _. Ok new) found,
  is ∙ ap (λ s. s ++ new) ((zeros_are bytes [] found).0 ∙ ap (λ n. replicate n 0) sized),
)
absent_reads size old bytes new (Err e) is sized found =
    refuses_nonzero ⊥ e (after_absent size old)
    (found.0, framed size (Err EndOfBuffer) after_zeros old bytes new is sized ∙ ap (λ x. x >>= λ _. Ok new) found.1)

-- zeros up to the size are the padding
pub padded_is : (size : ℕ) (bytes front rest : List ℕ) → length bytes ≡ size → bytes ≡ front ++ rest
    → after_zeros rest ≡ Ok [] → bytes ≡ padded size front ++ []
padded_is size bytes front rest sized is found =
    let count : length rest ≡ size - length front = omega (arith, ap length is, length-append front rest) in
    is ∙ (ap (λ s. front ++ s) ((zeros_are rest [] found).0 ∙ ap (λ n. replicate n 0) count)
    ∙ sym (append-nil (padded size front)))

-- what is as long as the whole is the whole
pub all_taken : (whole front rest : List ℕ) → whole ≡ front ++ rest → length front ≡ length whole → front ≡ whole
all_taken whole front [] is sized = sym (is ∙ append-nil front)
all_taken whole front (b ∷ rest) is sized = absurd (omega (arith, ap length is, length-append front (b ∷ rest)))

-- an operation without its padding, and zeros after it
pub padded_reads : {T : Type 0} (f : List ℕ → Found T) (item : T) (size : ℕ) (bytes start front rest padding new : List ℕ) → start ≡ bytes
    → f start ≡ Ok (item, rest) → start ≡ front ++ rest
    → rest ≡ padding ++ new → length padding ≡ length rest → after_zeros padding ≡ Ok [] → length bytes ≡ size
    → ((f bytes >>= with_zeros) ≡ Ok (item, [])) × (bytes ≡ padded size front ++ [])
padded_reads f item size bytes start front rest padding new at_start reads is taken whole found sized =
    let same : padding ≡ rest = all_taken rest padding new taken whole in
    let zeros : after_zeros rest ≡ Ok [] = ap after_zeros (sym same) ∙ found in (
      ap (λ y. y >>= with_zeros) (ap f (sym at_start) ∙ reads) ∙ zeros_with item rest zeros,
      padded_is size bytes front rest sized (sym at_start ∙ is) zeros,
    )
