-- What holds of a digest that may be there, encoded as an option: as a proof holds it where a chunk may be pending.
use Rattle.std.proofs.Common.{◌≡◌, ℕ, zero, suc, List, [], ◌∷◌, ◌++◌, length, Option, None, Some, Ok, refl, ap}
use Rattle.std.specs.Prelude.{IfSome, ⊤}
use Rattle.std.specs.Option.{option_map}
use Rattle.merkle_forest_parts.specs.Codec.{Outcome, after_fixed, option_encoding, after_option, OptionLacks}
use Rattle.merkle_forest_parts.specs.Laws.Codec.{fixed_again, option_again, one_encoding}

pub encoded-pending : {D : Type 0} (encoding : D → List ℕ) (pending : Option D)
    → option_encoding encoding pending ≡ option_encoding (λ bytes. bytes) (option_map encoding pending)
encoded-pending encoding None = refl
encoded-pending encoding (Some digest) = refl

pub read-pending : (size : ℕ) (after : List ℕ → Outcome) → ((rest : List ℕ) → after rest ≡ after_fixed size rest)
    → (bytes : List ℕ) → after_option after bytes ≡ after_option (after_fixed size) bytes
read-pending size after same [] = refl
read-pending size after same (zero ∷ bytes) = refl
read-pending size after same (suc zero ∷ bytes) = same bytes
read-pending size after same (suc (suc b) ∷ bytes) = refl

pub value-pending : {D : Type 0} (size : ℕ) (encoding : D → List ℕ) (is_value : D → Type 0)
    → ((digest : D) → is_value digest → length (encoding digest) ≡ size) → (pending : Option D)
    → IfSome pending is_value → IfSome (option_map encoding pending) (λ bytes. length bytes ≡ size)
value-pending size encoding is_value sized None value = tt
value-pending size encoding is_value sized (Some digest) value = sized digest value

pub sized-none : (size : ℕ) (digest : Option (List ℕ)) → digest ≡ None → IfSome digest (λ bytes. length bytes ≡ size)
sized-none size None is = tt
sized-none size (Some digest) is = absurd cc

pub never-lacks_pending : (lacks : List ℕ → Type 0) → ((rest : List ℕ) → lacks rest → ⊥) → (bytes : List ℕ)
    → OptionLacks lacks bytes → ⊥
never-lacks_pending lacks never [] it = it
never-lacks_pending lacks never (zero ∷ bytes) it = it
never-lacks_pending lacks never (suc zero ∷ bytes) it = never bytes it
never-lacks_pending lacks never (suc (suc b) ∷ bytes) it = it

some_same : {A : Type 0} (a b : A) → ◌≡◌ {A = Option A} (Some a) (Some b) → a ≡ b
some_same a b same = cc

pub same-pending : {D : Type 0} (encoding : D → List ℕ) → ((d e : D) → encoding d ≡ encoding e → d ≡ e)
    → (pending other : Option D) → option_map encoding pending ≡ option_map encoding other → pending ≡ other
same-pending encoding bytes None None same = refl
same-pending encoding bytes None (Some e) same = absurd cc
same-pending encoding bytes (Some d) None same = absurd cc
same-pending encoding bytes (Some d) (Some e) same =
    ap (λ x. Some x) (bytes d e (some_same (encoding d) (encoding e) same))

any_within : (digest : Option (List ℕ)) → IfSome digest (λ bytes. ⊤)
any_within None = tt
any_within (Some bytes) = tt

pub again-pending : (size : ℕ) (digest : Option (List ℕ)) (rest : List ℕ)
    → IfSome digest (λ bytes. length bytes ≡ size)
    → after_option (after_fixed size) (option_encoding (λ bytes. bytes) digest ++ rest) ≡ Ok rest
again-pending size digest rest sized =
    option_again (λ bytes. bytes) (after_fixed size) (λ bytes. length bytes ≡ size) (λ bytes. ⊤)
    (λ bytes more long within. fixed_again size bytes more long) digest rest sized (any_within digest)

one-digest : (digest other : Option (List ℕ))
    → option_encoding (λ bytes. bytes) digest ≡ option_encoding (λ bytes. bytes) other → digest ≡ other
one-digest None None same = refl
one-digest None (Some b) same = absurd cc
one-digest (Some a) None same = absurd cc
one-digest (Some a) (Some b) same = let bytes : a ≡ b = cc in ap (λ x. Some x) bytes

pub once-pending : (size : ℕ) (digest other : Option (List ℕ)) (rest more : List ℕ)
    → IfSome digest (λ bytes. length bytes ≡ size) → IfSome other (λ bytes. length bytes ≡ size)
    → option_encoding (λ bytes. bytes) digest ++ rest ≡ option_encoding (λ bytes. bytes) other ++ more
    → (digest ≡ other) × (rest ≡ more)
once-pending size digest other rest more is was same =
    let it = one_encoding (option_encoding (λ bytes. bytes)) (after_option (after_fixed size))
    (λ d. IfSome d (λ bytes. length bytes ≡ size)) (again-pending size) digest other rest more is was same in
    (one-digest digest other it.0, it.1)
