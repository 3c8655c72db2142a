-- What is rebuilt of a grafted tree has its form.
use Rattle.std.proofs.Common.{◌≡◌, ℕ, ◌==◌, ltb, Bool, true, false, List, [], ◌∷◌, ◌++◌, length, refl, sym, ◌∙◌, ap}
use Rattle.std.proofs.Common.{arith, length-append}
use Rattle.std.proofs.lemmas.Bool.{eqb-true, and_parts}
use Rattle.merkle_forest.specs.Hashing.{Hash, number}
use Rattle.state_theory.specs.SetBits.{is_zero}
use Rattle.merkle_forest.specs.Made.{Made, bytes, both, value}
use Rattle.merkle_theory.specs.Laws.MadeTrees.{Sized, Fits}
use Rattle.merkle_forest.specs.Laws.Matching.{Matches, Agrees}
use Rattle.state_theory.specs.MadeGrafted.{grafted_case, grafted_over}

-- chunks of one length without a set bit are the same
zero_same : (xs ys : List ℕ) → is_zero xs ≡ true → is_zero ys ≡ true → length xs ≡ length ys → xs ≡ ys
zero_same [] [] a b long = refl
zero_same [] (y ∷ ys) a b long = absurd (omega (arith, long))
zero_same (x ∷ xs) [] a b long = absurd (omega (arith, long))
zero_same (x ∷ xs) (y ∷ ys) a b long =
    let first = and_parts (x == 0) (is_zero xs) a in
    let second = and_parts (y == 0) (is_zero ys) b in
    rw (eqb-true x 0 first.0, eqb-true y 0 second.0, zero_same xs ys first.1 second.1 (omega (arith, long))) refl

module _ (hash : Hash)
    (hash_sized : (xs : List ℕ) → length (hash xs) ≡ 32) (width : ℕ) (not_forty : width ≡ 40 → ⊥) where
  string_of : ℕ → Made → Made → Made
  string_of p a b = both (bytes (number p)) (both a b)

  case_sized : (p : ℕ) (string : Made) (chunk : List ℕ) (same below none : Bool)
      → Sized hash 32 (grafted_case p string chunk same below none)
  case_sized p string chunk true below true = hash_sized (value hash string)
  case_sized p string chunk true below false = hash_sized (chunk ++ hash (value hash string))
  case_sized p string chunk false true none = hash_sized (value hash string)
  case_sized p string chunk false false none = hash_sized (value hash string)

  -- a node's string has 72 bytes, one with a chunk joined in has 32 more than the chunk
  lengths_differ : (p : ℕ) (a b : Made) (chunk : List ℕ) (string : List ℕ) → Sized hash 32 a
      → Sized hash 32 b → length chunk ≡ width
      → number p ++ (value hash a ++ value hash b) ≡ chunk ++ hash string → ⊥
  lengths_differ p a b chunk string sa sb wide same =
      not_forty (omega (
        arith,
        ap length same,
        length-append (number p) (value hash a ++ value hash b),
        length-append (value hash a) (value hash b),
        sa,
        sb,
        length-append chunk (hash string),
        hash_sized string,
        wide,
        eight p,
      ))
    where
      eight : (p : ℕ) → length (number p) ≡ 8
      eight p = refl

  case_matches : (p : ℕ) (a b c d : Made) (one other : List ℕ) (same below none nothing : Bool)
      → Sized hash 32 a → Sized hash 32 b
      → Sized hash 32 c → Sized hash 32 d → length one ≡ width → length other ≡ width
      → Matches hash a c → Matches hash b d
      → Matches hash (grafted_case p (both (bytes (number p)) (both a b)) one same below none)
      (grafted_case p (both (bytes (number p))
      (both c d)) other same below nothing)
  case_matches p a b c d one other true below true true sa sb sc sd w v ac bd =
      (refl, λ same. (refl, tt, (sa ∙ sym sc, ac, bd)))
  case_matches p a b c d one other true below true false sa sb sc sd w v ac bd = (
    refl,
    λ same. absurd (lengths_differ p a b other (number p ++
        (value hash c ++ value hash d)) sa sb v same),
  )
  case_matches p a b c d one other true below false true sa sb sc sd w v ac bd = (
    refl,
    λ same. absurd (lengths_differ p c d one (number p ++
        (value hash a ++ value hash b)) sc sd w (sym same)),
  )
  case_matches p a b c d one other true below false false sa sb sc sd w v ac bd = (
    refl,
    λ same. (
      w ∙ sym v,
      tt,
      (
        refl,
        λ inner. (
          refl,
          tt,
          (
            sa
                ∙ sym sc,
            ac,
            bd,
          ),
        ),
      ),
    ),
  )
  case_matches p a b c d one other false true none nothing sa sb sc sd w v ac bd =
      (refl, λ same. (refl, tt, (sa ∙ sym sc, ac, bd)))
  case_matches p a b c d one other false false none nothing sa sb sc sd w v ac bd =
      (refl, λ same. (refl, tt, (sa ∙ sym sc, ac, bd)))

  case_agrees : (p : ℕ) (a b c d : Made) (one other : List ℕ) (same below none nothing : Bool)
      → length one ≡ length other → is_zero one ≡ none
      → is_zero other ≡ nothing
      → Agrees hash (grafted_case p (both (bytes (number p)) (both a b)) one same below none)
      (grafted_case p (both (bytes (number p))
      (both c d)) other same below nothing)
      → (same ≡ true → one ≡ other) × Agrees hash a c × Agrees hash b d
  case_agrees p a b c d one other true below true true long zero_one zero_other agrees =
      (λ is. zero_same one other zero_one zero_other long, agrees.1.1.0, agrees.1.1.1)
  case_agrees p a b c d one other true below true false long zero_one zero_other agrees = absurd agrees.1.1
  case_agrees p a b c d one other true below false true long zero_one zero_other agrees = absurd agrees.1.1
  case_agrees p a b c d one other true below false false long zero_one zero_other agrees =
      (λ is. agrees.1.0, agrees.1.1.1.1.0, agrees.1.1.1.1.1)
  case_agrees p a b c d one other false true none nothing long zero_one zero_other agrees =
      (λ is. absurd cc, agrees.1.1.0, agrees.1.1.1)
  case_agrees p a b c d one other false false none nothing long zero_one zero_other agrees =
      (λ is. absurd cc, agrees.1.1.0, agrees.1.1.1)

  -- at the grafting height the chunks are the same
  abbrev pub SameChunk : ℕ → (ℕ → List ℕ) → (ℕ → List ℕ) → ℕ → ℕ → Type 0
  SameChunk grafting_height claimed real at high = (high == grafting_height) ≡ true → claimed at ≡ real at

  pub grafted_fits : (grafting_height : ℕ) (claimed real : ℕ → List ℕ) → ((at : ℕ) → length (claimed at) ≡ width)
      → ((at : ℕ) → length (real at) ≡ width)
      → Fits hash 32 (SameChunk grafting_height claimed real) (grafted_over grafting_height claimed)
      (grafted_over grafting_height real)
  grafted_fits grafting_height claimed real wide wide_real = record {
    sized =
        λ at high p string. case_sized p string (claimed at) (high == grafting_height)
        (ltb high grafting_height) (is_zero (claimed at));
    real_sized =
        λ at high p string. case_sized p string (real at) (high == grafting_height)
        (ltb high grafting_height) (is_zero (real at));
    matches = λ at high p a b c d sa sb sc sd ac bd.
        case_matches p a b c d (claimed at) (real at) (high == grafting_height) (ltb high grafting_height)
        (is_zero (claimed at)) (is_zero
        (real at)) sa sb sc sd (wide at) (wide_real at) ac bd;
    agrees = λ at high p a b c d agrees.
        case_agrees p a b c d (claimed at) (real at) (high == grafting_height) (ltb high grafting_height)
        (is_zero (claimed at)) (is_zero (real at))
        (wide at ∙ sym (wide_real at)) refl refl agrees;
  }
