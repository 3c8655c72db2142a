-- Chunks of one width, one after the other.
use Rattle.std.proofs.Common.{◌≡◌, ℕ, zero, suc, ◌+◌, ◌*◌, ◌/◌, ◌<◌, ◌==◌, false}
use Rattle.std.proofs.Common.{List, [], ◌∷◌, ◌++◌, length, refl, sym, ◌∙◌, ap, arith, length-append}
use Rattle.std.specs.List.{AllByRecursion, flat_map}
use Rattle.std.proofs.lemmas.List.Concat.{flat_map-cons}
use Rattle.std.proofs.lemmas.Nat.{div-mul-add}
use Rattle.merkle_forest.specs.Laws.Matching.{append_parts}

abbrev pub AreWide : ℕ → List (List ℕ) → Type 0
AreWide width chunks = AllByRecursion (λ chunk. length chunk ≡ width) chunks

abbrev pub joined : List (List ℕ) → List ℕ
joined chunks = flat_map (λ chunk. chunk) chunks

pub length-joined : (width : ℕ) (chunks : List (List ℕ)) → AreWide width chunks → length (joined chunks) ≡ length chunks * width
length-joined width [] wide = omega arith
length-joined width (c ∷ chunks) wide =
    omega (
      arith,
      ap length (flat_map-cons (λ chunk. chunk) c chunks),
      length-append c (joined chunks),
      wide.0,
      length-joined width chunks wide.1,
    )

pub some_of : (n : ℕ) → (n == 0) ≡ false → 0 < n
some_of zero is = absurd cc
some_of (suc n) is = omega arith

-- what is left is no chunk, so the whole is not a number of chunks
pub left_over : (width : ℕ) (front chunks : List (List ℕ)) (rest bytes : List ℕ) → AreWide width front → joined front ++ rest ≡ bytes
    → 0 < length rest → length rest < width → AreWide width chunks → bytes ≡ joined chunks → ⊥
left_over width front chunks rest bytes wide whole some few all is =
    let sum : length front * width + length rest ≡ length chunks * width + 0 =
    omega (arith, length-append (joined front) rest, ap length whole, ap length is, length-joined width front wide, length-joined width chunks all) in
    let one : (length front * width + length rest) / width ≡ length front = div-mul-add (length front) width (length rest) few in
    let other : (length chunks * width + 0) / width ≡ length chunks = div-mul-add (length chunks) width 0 (omega (arith, few)) in
    let count : length front ≡ length chunks = sym one ∙ ap (λ n. n / width) sum ∙ other in
    omega (arith, sum, ap (λ n. n * width) count, some)

-- bytes are chunks of one width in one way
pub joined_once : (width : ℕ) (one other : List (List ℕ)) → 0 < width → AreWide width one → AreWide width other
    → joined one ≡ joined other → one ≡ other
joined_once width [] [] some wide high same = refl
joined_once width [] (d ∷ other) some wide high same =
    absurd (omega (arith, some, ap length same, length-joined width (d ∷ other) high))
joined_once width (c ∷ one) [] some wide high same =
    absurd (omega (arith, some, ap length same, length-joined width (c ∷ one) wide))
joined_once width (c ∷ one) (d ∷ other) some wide high same =
    let parts = append_parts c (joined one) d (joined other) (wide.0 ∙ sym high.0)
    (sym (flat_map-cons (λ chunk. chunk) c one) ∙ same ∙ flat_map-cons (λ chunk. chunk) d other) in
    ap (λ x. x ∷ one) parts.0 ∙ ap (λ xs. d ∷ xs) (joined_once width one other some wide.1 high.1 parts.1)
