-- The widths that chunks may have, their grafting heights, and where a chunk begins.
use Rattle.std.proofs.Common.{◌≡◌, ℕ, ◌*◌, ◌/◌, ◌^◌, ◌≤◌, ◌==◌, true, false, List, [], ◌∷◌, Option, Some}
use Rattle.std.proofs.Common.{None, inl, inr, refl, ap, sym, ◌∙◌, subst, ⊎_elim, lit≤, arith}
use Rattle.std.specs.Prelude.{IfNone, IsSome, ◌||◌}
use Rattle.std.specs.List.{list_any}
use Rattle.std.proofs.lemmas.Bool.{cases_Bool, cases_lt}
use Rattle.std.proofs.lemmas.Bool.Decides.{Decides-eqb}
use Rattle.std.proofs.lemmas.Nat.{div-add-mod', mul-le, pow_below}
use Rattle.std.proofs.Math.Nat.{mul_comm}
use Rattle.auth_store_states.specs.States.{IsChunkWidth, grafting_height}

-- powers of two are equal only of equal exponents
pub pow_same : (g h : ℕ) → 2 ^ g ≡ 2 ^ h → g ≡ h
pow_same g h same = elim (cases_lt g h) [
  | inl less ↦ absurd (omega (arith, same, pow_below g h less))
  | inr least ↦ elim (cases_lt h g) [
    | inl more ↦ absurd (omega (arith, same, pow_below h g more))
    | inr most ↦ omega
        (arith, least, most)
  ]
]

-- the bits of a chunk are a power of two, 2^62 at most
abbrev pub IsWhole : ℕ → Type 0
IsWhole width = (8 * width ≡ 2 ^ grafting_height width) × (grafting_height width ≤ 62)

abbrev Each : (ℕ → Type 0) → List ℕ → Type 0
Each P [] = Unit {0}
Each P (x ∷ xs) = P x × Each P xs

any_of : (P : ℕ → Type 0) (w : ℕ) (ps : List ℕ) → Each P ps → list_any (λ p. w == p) ps ≡ true → P w
any_of P w [] each any = absurd cc
any_of P w (p ∷ ps) each any = ⊎_elim
    (λ (here : (w == p) ≡ true). subst P (sym ((Decides-eqb w p).0 here)) each.0)
    (λ (away : (w == p) ≡ false). any_of P w ps each.1 (sym (ap (λ b. b || list_any (λ q. w == q) ps) away) ∙ any))
    (cases_Bool (w == p))

abbrev widths : List ℕ
widths = 1 ∷ 2 ∷ 4 ∷ 8 ∷ 16 ∷ 32 ∷ 64 ∷ 128 ∷ 256 ∷ 512 ∷ 1024 ∷ 2048 ∷ 4096 ∷ []

powers : Each IsWhole widths
unfolding lib.Count.count_trailing_zeros
powers = (
  (refl, lit≤ tt),
  (
    (refl, lit≤ tt),
    (
      (refl, lit≤ tt),
      (
        (refl, lit≤ tt),
        (
          (refl, lit≤ tt),
          (
            (refl, lit≤ tt),
            (
              (refl, lit≤ tt),
              (
                (refl, lit≤ tt),
                (
                  (refl, lit≤ tt),
                  (
                    (refl, lit≤ tt),
                    ((refl, lit≤ tt), ((refl, lit≤ tt), ((refl, lit≤ tt), tt))),
                  ),
                ),
              ),
            ),
          ),
        ),
      ),
    ),
  ),
)

pub width_is_whole : (width : ℕ) → IsChunkWidth width → IsWhole width
width_is_whole width is = any_of IsWhole width widths powers is

-- a test that refuses no such width answers
pub is_some : {A : Type 0} (answer : Option A) (width : ℕ) → IsChunkWidth width
    → IfNone answer ((height : ℕ) → 8 * width ≡ 2 ^ height → height ≤ 62 → ⊥) → IsSome answer
is_some None width is none = let whole = width_is_whole width is in absurd
    (none (grafting_height width) whole.0 whole.1)
is_some (Some a) width is some = refl

pub height_is : (width height : ℕ) → IsChunkWidth width → 8 * width ≡ 2 ^ height → height ≡ grafting_height width
height_is width height is whole = pow_same height (grafting_height width) (sym whole ∙ (width_is_whole width is).0)

-- a chunk up to that of a location begins before it ends
pub chunk_below : (size location chunk : ℕ) → chunk ≤ location / size → size * chunk ≤ location
chunk_below size location chunk le =
    omega (
      arith,
      mul-le size chunk size (location / size) (omega arith) le,
      mul_comm (location / size) size,
      div-add-mod' location size,
    )
