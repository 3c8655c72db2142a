-- What is read as a tree has the form of the tree.
use Rattle.std.proofs.Common.{◌≡◌, ℕ, ◌+◌, Bool, true, false, cond, List, [], ◌∷◌, ◌++◌, length, None, Some, option_map}
use Rattle.std.proofs.Common.{option_and_then, IfSome, refl, sym, ◌∙◌}
use Rattle.std.specs.List.{All, AllByRecursion}
use Rattle.std.proofs.lemmas.List.Elements.{All-head, All-tail}
use Rattle.merkle_forest.specs.Forest.{Tree, leaf, branch, height, leaf_count}
use Rattle.merkle_forest.specs.Hashing.{Hash, number}
use Rattle.merkle_forest.specs.Trees.{plain_digest}
use Rattle.merkle_theory.specs.Ranges.{meets}
use Rattle.merkle_forest.specs.Made.{Made, bytes, both, value}
use Rattle.merkle_theory.specs.MadeTrees.{Over, plain_over, Elements, whole, leaf_made, branch_made, made_tree, Reading}
use Rattle.merkle_theory.specs.MadeTrees.{given, read_tree}
use Rattle.merkle_forest.specs.Laws.Matching.{Matches, Agrees}

-- its digest has so many bytes
abbrev pub Sized : Hash → ℕ → Made → Type 0
Sized hash size made = length (value hash made) ≡ size

abbrev pub AllSized : ℕ → List (List ℕ) → Type 0
AllSized size digests = AllByRecursion (λ d. length d ≡ size) digests

pub all_sized : (size : ℕ) (digests : List (List ℕ))
    → All (λ digest. length digest ≡ size) digests → AllSized size digests
all_sized size [] all = tt
all_sized size (d ∷ digests) all = (
  All-head (λ digest. length digest ≡ size) d digests all,
  all_sized size digests (All-tail (λ digest. length digest ≡ size) d digests all),
)

-- A branch as claimed and as it is there: digests have one size, the first has the form of the second, and where they
-- agree their strings do, and what the branch tells besides holds.
pub record Fits (hash : Hash) (size : ℕ) (Told : ℕ → ℕ → Type 0) (claimed real : Over) : Type 0 where
  pub sized : (at high p : ℕ) (string : Made) → Sized hash size (claimed at high p string)
  pub real_sized : (at high p : ℕ) (string : Made) → Sized hash size (real at high p string)
  pub matches : (at high p : ℕ) (a b c d : Made) → Sized hash size a → Sized hash size b → Sized hash size c
      → Sized hash size d → Matches hash a c
      → Matches hash b d
      → Matches hash (branch_made claimed at high p a b) (branch_made real at high p c d)
  pub agrees : (at high p : ℕ) (a b c d : Made)
      → Agrees hash (branch_made claimed at high p a b) (branch_made real at high p c d)
      → Told at high × Agrees hash a c × Agrees hash b d

-- the elements of the range are those of the tree, and what its branches tell holds
abbrev pub AgreeOver : (ℕ → ℕ → Type 0) → Elements → Elements → ℕ → ℕ → ℕ → Tree → Type 0
AgreeOver Told claimed real start stop at (leaf p) = meets start stop (at, leaf p) ≡ true → claimed at ≡ real at
AgreeOver Told claimed real start stop at (branch p left right) =
    meets start stop (at, branch p left right) ≡ true
    → Told at (height (branch p left right)) × AgreeOver Told claimed real start stop at left
    × AgreeOver Told claimed real start stop (at + leaf_count left) right

pub choose : {A : Type 0} (P : A → Type 0) (answer : Bool) (x y : A) → (answer ≡ true → P x)
    → (answer ≡ false → P y) → P (cond answer x y)
choose P true x y on off = on refl
choose P false x y on off = off refl

module _ (hash : Hash) (size : ℕ) (hash_sized : (xs : List ℕ) → length (hash xs) ≡ size) (Told : ℕ → ℕ → Type 0)
    (over_claimed over_real : Over)
    (fits : Fits hash size Told over_claimed over_real) (claimed real : Elements) (start stop : ℕ) where
  pub made_sized : (at : ℕ) (t : Tree) → Sized hash size (made_tree over_real real at t)
  made_sized at (leaf p) = hash_sized (number p ++ real at)
  made_sized at (branch p left right) =
      fits.real_sized at (height (branch p left right)) p (both (bytes (number p)) (both
      (made_tree over_real real at left) (made_tree over_real real (at + leaf_count left) right)))

  -- what is read of a tree
  abbrev pub IsOf : ℕ → Tree → Made → Type 0
  IsOf at t made = Sized hash size made × Matches hash made (made_tree over_real real at t)
      × (Agrees hash made (made_tree over_real real at t) → AgreeOver Told claimed real start stop at t)

  abbrev pub IsGood : ℕ → Tree → Made × List (List ℕ) → Type 0
  IsGood at t got = IsOf at t got.0 × AllSized size got.1

  given_good : (at : ℕ) (t : Tree) (digests : List (List ℕ)) → meets start stop (at, t) ≡ false → AllSized size digests
      → IfSome (given digests) (IsGood at t)
  given_good at t [] out sized = tt
  given_good at (leaf p) (d ∷ digests) out sized =
      ((sized.0, tt, λ agrees meet. let clash = sym meet ∙ out in absurd cc), sized.1)
  given_good at (branch p left right) (d ∷ digests) out sized =
      ((sized.0, tt, λ agrees meet. let clash = sym meet ∙ out in absurd cc), sized.1)

  joined_good : (at p : ℕ) (left right : Tree) (first : Reading) (second : List (List ℕ) → Reading)
      → IfSome first (IsGood at left)
      → ((digests : List (List ℕ)) → AllSized size digests
      → IfSome (second digests) (IsGood (at + leaf_count left) right))
      → IfSome (option_and_then
      (λ x. option_map (λ y. (branch_made over_claimed at (height (branch p left right)) p x.0 y.0, y.1))
      (second x.1)) first) (IsGood at (branch p left right))
  joined_good at p left right None second here there = tt
  joined_good at p left right (Some x) second here there = inner (second x.1) (there x.1 here.1)
    where
      inner : (got : Reading) → IfSome got (IsGood (at + leaf_count left) right)
          → IfSome (option_map (λ y. (branch_made over_claimed at (height (branch p left right)) p x.0 y.0, y.1)) got)
          (IsGood at (branch p left right))
      inner None is = tt
      inner (Some y) is =
          let high = height (branch p left right) in
          let c = made_tree over_real real at left in
          let d = made_tree over_real real (at + leaf_count left) right in (
            (
              fits.sized at high p (both (bytes (number p)) (both x.0 y.0)),
              fits.matches at high p x.0 y.0 c d here.0.0 is.0.0 (made_sized at left) (made_sized (at
                  + leaf_count left) right) here.0.1 is.0.1,
              λ agrees meet. let parts =
                  fits.agrees at high p x.0 y.0 c d agrees in (parts.0, here.0.2 parts.1, is.0.2 parts.2),
            ),
            is.1,
          )

  -- it has the form of the tree, and where it agrees with it the elements do
  pub read_good : (at : ℕ) (t : Tree) (digests : List (List ℕ)) → AllSized size digests
      → IfSome (read_tree over_claimed claimed start stop at t digests) (IsGood at t)
  read_good at (leaf p) digests sized =
      choose (λ got. IfSome got (IsGood at (leaf p))) (meets start stop (at, leaf p)) (Some (
        leaf_made p (claimed at),
        digests,
      )) (given digests)
      (λ is. ((hash_sized (number p ++ claimed at), (refl, λ same. (refl, tt, tt)), λ agrees meet. agrees.1.1), sized))
      (λ is. given_good at (leaf p) digests is sized)
  read_good at (branch p left right) digests sized =
      choose (λ got. IfSome got (IsGood at (branch p left right))) (meets start stop (at, branch p left right))
      (option_and_then (λ x. option_map (λ y. (
        branch_made over_claimed at (height (branch p left right)) p x.0 y.0,
        y.1,
      ))
      (read_tree over_claimed claimed start stop (at + leaf_count left) right x.1))
      (read_tree over_claimed claimed start stop at left digests))
      (given digests)
      (λ is. joined_good at p left right (read_tree over_claimed claimed start stop at left digests)
      (read_tree over_claimed claimed start stop (at + leaf_count left) right)
      (read_good at left digests sized) (λ more each. read_good
      (at + leaf_count left) right more each))
      (λ is. given_good at (branch p left right) digests is sized)

-- the plain tree fits
pub plain_fits : (hash : Hash) (size : ℕ) → ((xs : List ℕ) → length (hash xs) ≡ size)
    → Fits hash size (λ at high. Unit {0}) plain_over plain_over
plain_fits hash size hash_sized = record {
  sized = λ at high p string. hash_sized (value hash string);
  real_sized = λ at high p string. hash_sized (value hash string);
  matches = λ at high p a b c d sa sb sc sd ac bd. (refl, λ same. (refl, tt, (sa ∙ sym sc, ac, bd)));
  agrees = λ at high p a b c d agrees. (tt, agrees.1.1.0, agrees.1.1.1);
}

-- its digests are those of the plain tree
pub value_plain : (hash : Hash) (elements : List (List ℕ)) (at : ℕ) (t : Tree)
    → value hash (made_tree plain_over (whole elements) at t) ≡ plain_digest hash elements at t
value_plain hash elements at (leaf p) = refl
value_plain hash elements at (branch p left right) =
    rw (value_plain hash elements at left, value_plain hash elements (at + leaf_count left) right) refl
