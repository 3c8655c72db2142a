-- What is read of a tree from elements that are shown has the form of the tree, and where it agrees with it the elements are its own.
use Rattle.std.proofs.Common.{◌≡◌, ℕ, ◌+◌, ◌<◌, ◌≤◌, ◌⊎◌, inl, inr, ⊎_elim, Bool, true, false, ◌||◌, List, [], ◌∷◌}
use Rattle.std.proofs.Common.{◌++◌, length, map, Option, None, Some, option_map, IfSome, refl, sym, ◌∙◌, ap, subst}
use Rattle.std.proofs.Common.{arith}
use Rattle.std.specs.List.{AllByRecursion, list_any}
use Rattle.std.specs.Prelude.{◌==◌}
use Rattle.std.proofs.lemmas.Bool.{cases_lt, cases_Bool, eqb-true}
use Rattle.merkle_forest.specs.Forest.{Tree, leaf, branch, height, leaf_count, leaves}
use Rattle.merkle_forest.specs.Hashing.{Hash, number}
use Rattle.merkle_forest.specs.Laws.Matching.{Matches, Agrees}
use Rattle.merkle_forest.specs.Made.{Made, bytes, both}
use Rattle.merkle_forest.specs.Trees.{Located, located, end_of}
use Rattle.merkle_theory.specs.Laws.MadeTrees.{Sized, Fits, choose, made_sized}
use Rattle.merkle_theory.specs.MadeRoots.{Naming, made_peak}
use Rattle.merkle_theory.specs.MadeTrees.{Over, Elements, leaf_made, branch_made, made_tree}
use Rattle.merkle_theory.specs.Multi.{is_named}
use Rattle.merkle_theory.specs.MultiReads.{both_there, read_shown, read_peaks}
use Rattle.merkle_theory.specs.Plans.{Lookup}
use Rattle.merkle_theory.proofs.PeakMatches.{AreAlike, AllAgree}
use Rattle.merkle_theory.proofs.Unnamed.{names, names_in}

-- the location is one of these
abbrev pub is_member : ℕ → List ℕ → Bool
is_member l locations = list_any (λ m. m == l) locations

member_step : (tree : Located) (l m : ℕ) (locations : List ℕ) → tree.0 ≤ l → l < end_of tree
    → (m == l) ≡ true ⊎ (m == l) ≡ false
    → (is_member l locations ≡ true → is_named locations tree ≡ true) → is_member l (m ∷ locations) ≡ true
    → is_named (m ∷ locations) tree ≡ true
member_step tree l m locations low high (inl is) more member =
    ap (λ b. b || is_named locations tree) (ap (names tree.0 (end_of tree)) (eqb-true m l is)
    ∙ names_in tree.0 (end_of tree) l low high)
member_step tree l m locations low high (inr is) more member =
    or_true (names tree.0 (end_of tree) m) (is_named locations tree) (more (ap (λ b. b || is_member l locations)
    (sym is) ∙ member))
  where
    or_true : (a b : Bool) → b ≡ true → (a || b) ≡ true
    or_true true b is_b = refl
    or_true false b is_b = is_b

-- a tree over one of the locations is named
pub member_named : (tree : Located) (l : ℕ) (locations : List ℕ) → tree.0 ≤ l → l < end_of tree
    → is_member l locations ≡ true
    → is_named locations tree ≡ true
member_named tree l [] low high member = absurd cc
member_named tree l (m ∷ locations) low high member =
    member_step tree l m locations low high (cases_Bool (m == l))
    (λ more. member_named tree l locations low high more) member

pub both_good : {A B C : Type 0} (P : A → Type 0) (Q : B → Type 0) (R : C → Type 0) (join : A → B
    → C) (one : Option A) (other : Option B)
    → IfSome one P → IfSome other Q → ((x : A) (y : B) → P x → Q y → R (join x y))
    → IfSome (both_there join one other) R
both_good P Q R join None other p q each = tt
both_good P Q R join (Some x) None p q each = tt
both_good P Q R join (Some x) (Some y) p q each = each x y p q

module _ (hash : Hash) (size : ℕ) (hash_sized : (xs : List ℕ) → length (hash xs) ≡ size) (Told : ℕ → ℕ
    → Type 0) (over_claimed over_real : Over)
    (fits : Fits hash size Told over_claimed over_real) (claimed real : Elements) (locations : List ℕ) (known : Lookup)
    (known_sized : (p : ℕ) → IfSome (known p) (λ d. length d ≡ size)) where
  -- at each of the locations within a tree the elements are the same
  abbrev pub AgreeShown : ℕ → Tree → Type 0
  AgreeShown at t = (l : ℕ) → at ≤ l → l < at + leaf_count t → is_member l locations ≡ true → claimed l ≡ real l

  pub record IsShownOf (at : ℕ) (t : Tree) (made : Made) : Type 0 where
    pub sized : Sized hash size made
    pub matches : Matches hash made (made_tree over_real real at t)
    pub tells : Agrees hash made (made_tree over_real real at t) → AgreeShown at t

  given_good : (at : ℕ) (t : Tree) (o : Option (List ℕ)) → is_named locations (at, t) ≡ false
      → IfSome o (λ d. length d ≡ size)
      → IfSome (option_map bytes o) (IsShownOf at t)
  given_good at t None out is = tt
  given_good at t (Some d) out is = record {
    sized = is;
    matches = tt;
    tells = λ agrees l low high member.
        absurd (let clash : true ≡ false = sym (member_named (at, t) l locations low high member) ∙ out in cc);
  }

  real_sized : (at : ℕ) (t : Tree) → Sized hash size (made_tree over_real real at t)
  real_sized at t = made_sized hash size hash_sized Told over_claimed over_real fits claimed real 0 0 at t

  branch_good : (at p : ℕ) (left right : Tree) (x y : Made) → IsShownOf at left x
      → IsShownOf (at + leaf_count left) right y
      → IsShownOf at (branch p left right) (branch_made over_claimed at (height (branch p left right)) p x y)
  branch_good at p left right x y one other =
      let high = height (branch p left right) in
      let c = made_tree over_real real at left in
      let d = made_tree over_real real (at + leaf_count left) right in
      record {
        sized = fits.sized at high p (both (bytes (number p)) (both x y));
        matches = fits.matches at high p x y c d one.sized other.sized (real_sized at left) (real_sized
            (at + leaf_count left) right)
            one.matches other.matches;
        tells = λ agrees l low high_l member.
            let parts = fits.agrees at high p x y c d agrees in
            ⊎_elim (λ below. one.tells parts.1 l low below member) (λ above. other.tells parts.2 l above (omega
            (arith, high_l)) member)
            (cases_lt l (at + leaf_count left));
      }

  pub shown_good : (at : ℕ) (t : Tree) → IfSome (read_shown over_claimed claimed locations known at t) (IsShownOf at t)
  shown_good at (leaf p) =
      choose (λ got. IfSome got (IsShownOf at (leaf p))) (is_named locations (at, leaf p)) (Some (leaf_made p
      (claimed at))) (option_map bytes (known p))
      (λ is. record {
        sized = hash_sized (number p ++ claimed at);
        matches = (refl, λ same. (refl, tt, tt));
        tells = λ agrees l low high member. subst (λ k. claimed k ≡ real k) (omega (arith, low, high)) agrees.1.1;
      })
      (λ is. given_good at (leaf p) (known p) is (known_sized p))
  shown_good at (branch p left right) =
      choose (λ got. IfSome got (IsShownOf at (branch p left right))) (is_named locations (at, branch p left right))
      (both_there (branch_made over_claimed at (height (branch p left right)) p)
      (read_shown over_claimed claimed locations known at left)
      (read_shown over_claimed claimed locations known (at + leaf_count left) right)) (option_map bytes (known p))
      (λ is. both_good (IsShownOf at left) (IsShownOf (at + leaf_count left) right) (IsShownOf at (branch p left right))
      (branch_made over_claimed at (height (branch p left right)) p)
      (read_shown over_claimed claimed locations known at left)
      (read_shown over_claimed claimed locations known (at + leaf_count left) right) (shown_good at left)
      (shown_good (at + leaf_count left) right)
      (branch_good at p left right))
      (λ is. given_good at (branch p left right) (known p) is (known_sized p))

  abbrev pub AllShown : List Located → Type 0
  AllShown peaks = AllByRecursion (λ peak. AgreeShown peak.0 peak.1) peaks

  module _ (naming : Naming) where
    abbrev real_peaks : List Located → List Made
    real_peaks peaks = map (made_peak over_real real) peaks

    -- all peaks
    pub record ArePeaksOf (peaks : List Located) (xs : List Made) : Type 0 where
      pub alike : AreAlike hash size hash_sized naming xs (real_peaks peaks)
      pub tells : AllAgree hash size hash_sized naming xs (real_peaks peaks) → AllShown peaks

    pub peaks_good : (peaks : List Located)
        → IfSome (read_peaks over_claimed claimed locations known peaks) (ArePeaksOf peaks)
    peaks_good [] = record { alike = tt; tells = λ agree. tt }
    peaks_good (peak ∷ peaks) =
        both_good (IsShownOf peak.0 peak.1) (ArePeaksOf peaks) (ArePeaksOf (peak ∷ peaks)) (λ x xs. x ∷ xs)
        (read_shown over_claimed claimed locations known peak.0 peak.1)
        (read_peaks over_claimed claimed locations known peaks)
        (shown_good peak.0 peak.1) (peaks_good peaks)
        (λ x xs one others. record {
          alike = (
            record { sized = one.sized; real_sized = real_sized peak.0 peak.1; matches = one.matches },
            others.alike,
          );
          tells = λ agree. (one.tells agree.0, others.tells agree.1);
        })

  all_front : (front back : List Located) → AllShown (front ++ back) → AllShown front
  all_front [] back all = tt
  all_front (peak ∷ front) back all = (all.0, all_front front back all.1)

  all_back : (front back : List Located) → AllShown (front ++ back) → AllShown back
  all_back [] back all = all
  all_back (peak ∷ front) back all = all_back front back all.1

  -- and so at each of the locations within all trees
  pub shown_agree : (trees : List Tree) (l : ℕ) → l < leaves trees → is_member l locations ≡ true
      → AllShown (located trees) → claimed l ≡ real l
  shown_agree [] l within member all = absurd (omega (arith, within))
  shown_agree (t ∷ trees) l within member all =
      ⊎_elim (λ below. shown_agree trees l below member (all_front (located trees) ((leaves trees, t) ∷ []) all))
      (λ above. (all_back (located trees) ((leaves trees, t) ∷ []) all).0 l above (omega (arith, within)) member)
      (cases_lt l (leaves trees))
