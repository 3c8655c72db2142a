-- One string a site, in a tree that is hashed or rebuilt.
use Rattle.std.proofs.Common.{◌≡◌, ◌⊎◌, inl, inr, ⊎_elim, ℕ, ◌+◌, ◌≤◌, ◌==◌, ltb, Bool, true, false, List, [], ◌∷◌}
use Rattle.std.proofs.Common.{◌++◌, Some, option_map}
use Rattle.std.proofs.Common.{option_and_then, IfSome, refl, sym, ◌∙◌, ap, subst, arith}
use Rattle.std.proofs.lemmas.Bool.{eqb-true, ltb-true}
use Rattle.merkle_forest.specs.Forest.{Tree, leaf, branch, position, height, leaf_count}
use Rattle.merkle_forest.specs.Hashing.{Hash, number}
use Rattle.merkle_forest.specs.Laws.Nodes.{within-fits}
use Rattle.merkle_forest.specs.Laws.Peaks.{leaf_count-pos}
use Rattle.merkle_forest.specs.Made.{Site, at_canonical, at_operations_root, at_grafted_root, at_pending, at_partial}
use Rattle.merkle_forest.specs.Made.{at_fold}
use Rattle.merkle_forest.specs.Made.{at_grafted_fold, at_plain, at_joined, Made, bytes, both, value, strings}
use Rattle.merkle_forest.specs.Nodes.{IsWithin}
use Rattle.merkle_forest.specs.Perfect.{IsPerfect}
use Rattle.merkle_theory.specs.Laws.MadeBags.{bind_good, map_good}
use Rattle.merkle_theory.specs.Laws.MadeTrees.{choose}
use Rattle.merkle_theory.specs.MadeTrees.{Over, plain_over, Elements, leaf_made, branch_made, made_tree}
use Rattle.merkle_theory.specs.MadeTrees.{given, read_tree}
use Rattle.merkle_theory.specs.Ranges.{meets}
use Rattle.state_theory.specs.SetBits.{is_zero}
use Rattle.state_theory.specs.MadeGrafted.{grafted_case, grafted_over}
use Rattle.state_theory.specs.Laws.OneEachLists.{IsOne, Implies, none_one, top_one, append_one}

-- The part of the canonical root that a site is of: the root itself, the pending chunk, the partial one, the
-- operations' tree, the grafted tree, or the nodes, which stand in both trees.
abbrev pub part_of : Site → ℕ
part_of at_canonical = 0
part_of at_pending = 1
part_of at_partial = 2
part_of at_operations_root = 3
part_of (at_fold a b) = 3
part_of at_grafted_root = 4
part_of (at_grafted_fold a b) = 4
part_of (at_plain p) = 5
part_of (at_joined p) = 5
part_of other = 6

-- the position of the node that a site is of
abbrev pub position_of : Site → ℕ
position_of (at_plain p) = p
position_of (at_joined p) = p
position_of other = 0

-- nodes at one position are one
abbrev pub Numbered : ℕ → Tree → Type 0
Numbered at t =
    (f g : ℕ) (a b : Tree) → IsWithin f a at t → IsWithin g b at t → position a ≡ position b → (f ≡ g) × (a ≡ b)

-- what holds of a node's plain string, and whether there are joined ones
module _ (Own : ℕ → Tree → List ℕ → Type 0) (Joined : Type 0) where
  -- a string of the node
  abbrev pub IsOf : ℕ → Tree → Site → List ℕ → Type 0
  IsOf first node s u = ((s ≡ at_plain (position node)) × Own first node u) ⊎ (Joined × (s ≡ at_joined (position node)))

  -- of a node of the tree
  abbrev pub IsIn : ℕ → Tree → Site → List ℕ → Type 0
  IsIn at t s u = (first : ℕ) × (node : Tree) × IsWithin first node at t × IsOf first node s u

  pub of_position : (first : ℕ) (node : Tree) (s : Site) (u : List ℕ) → IsOf first node s u
      → position_of s ≡ position node
  of_position first node s u (inl is) = ap position_of is.0
  of_position first node s u (inr is) = ap position_of is.1

  pub of_part : (first : ℕ) (node : Tree) (s : Site) (u : List ℕ) → IsOf first node s u → part_of s ≡ 5
  of_part first node s u (inl is) = ap part_of is.0
  of_part first node s u (inr is) = ap part_of is.1

  -- no site in a child is the branch's own
  not_top : (at p : ℕ) (left right : Tree) → Numbered at (branch p left right)
      → (s : Site) (u : List ℕ) → position_of s ≡ p
      → IsIn at left s u ⊎ IsIn (at + leaf_count left) right s u → ⊥
  not_top at p left right numbered s u top (inl is) =
      let one = numbered at is.0 (branch p left right) is.1 (inl (refl, refl)) (inr (inl is.2)) (sym top
      ∙ of_position is.0 is.1 s u is.3) in
      omega (arith, ap leaf_count one.1, within-fits is.0 at is.1 left is.2, leaf_count-pos right, one.0)
  not_top at p left right numbered s u top (inr is) =
      let one = numbered at is.0 (branch p left right) is.1 (inl (refl, refl)) (inr (inr is.2)) (sym top
      ∙ of_position is.0 is.1 s u is.3) in
      omega (arith, one.0, within-fits is.0 (at + leaf_count left) is.1 right is.2, leaf_count-pos left)

  not_both : (at p : ℕ) (left right : Tree) → Numbered at (branch p left right)
      → (s : Site) (u v : List ℕ) → IsIn at left s u
      → IsIn (at + leaf_count left) right s v → ⊥
  not_both at p left right numbered s u v l r =
      let one = numbered l.0 r.0 l.1 r.1 (inr (inl l.2)) (inr (inr r.2)) (sym (of_position l.0 l.1 s u l.3)
      ∙ of_position r.0 r.1 s v r.3) in
      omega (
        arith,
        one.0,
        within-fits l.0 at l.1 left l.2,
        within-fits r.0 (at + leaf_count left) r.1 right r.2,
        leaf_count-pos l.1,
      )

-- a branch's string is hashed at its plain site, which it has at these heights alone, or at its joined one, or at both
abbrev pub IsOver : Hash → (ℕ → Type 0) → Type 0 → Over → Type 1
IsOver hash Below Joined over =
    (at high p : ℕ) (string : Made) (P R : Site → List ℕ → Type 0) → IsOne P (strings hash string)
    → ((s : Site) (u : List ℕ) → position_of s ≡ p → P s u → ⊥) → Implies P R
    → (Below high → R (at_plain p) (value hash string)) → ((u : List ℕ) → Joined → R (at_joined p) u)
    → IsOne R (strings hash (over at high p string))

pub plain_is_over : (hash : Hash) (Joined : Type 0) → IsOver hash (λ high. Unit {0}) Joined plain_over
plain_is_over hash Joined at high p string P R is apart wider plain joined =
    top_one P (at_plain p) (value hash string) (strings hash string) is
    (λ u here. apart (at_plain p) u refl here) R (plain tt) wider

pub two_sites : (p q : ℕ) → at_joined p ≡ at_plain q → ⊥
two_sites p q same = absurd cc

-- in the grafted tree a branch has its plain site up to the grafting height, and its joined one from there on
pub grafted_is_over : (hash : Hash) (grafting_height : ℕ) (chunk : ℕ → List ℕ)
    → IsOver hash (λ high. high ≤ grafting_height) (Unit {0}) (grafted_over grafting_height chunk)
grafted_is_over hash grafting_height chunk at high p string P R is apart wider plain joined =
    cases (high == grafting_height) (ltb high grafting_height) (is_zero (chunk at)) (λ same. omega (
      arith,
      eqb-true high grafting_height same,
    ))
    (λ less. omega (arith, ltb-true high grafting_height less))
  where
    Plain : Site → List ℕ → Type 0
    Plain s u = ((s ≡ at_plain p) × (u ≡ value hash string)) ⊎ P s u

    plain_one : IsOne Plain ((at_plain p, value hash string) ∷ strings hash string)
    plain_one =
        top_one P (at_plain p) (value hash string) (strings hash string) is
        (λ u here. apart (at_plain p) u refl here) Plain
        (inl (refl, refl)) (λ s u here. inr here)

    both_one : (own : List ℕ) → R (at_plain p) (value hash string)
        → IsOne R ((at_joined p, own) ∷ (at_plain p, value hash string) ∷ strings hash string)
    both_one own at_its_plain =
        top_one Plain (at_joined p) own ((at_plain p, value hash string) ∷ strings hash string) plain_one
        (λ u here. ⊎_elim (λ other. two_sites p p other.0) (λ below. apart (at_joined p) u refl below) here) R
        (joined own tt)
        (λ s u here. ⊎_elim (λ own. subst (λ (z : Site). R z u) (sym own.0)
        (subst (λ (w : List ℕ). R (at_plain p) w) (sym own.1) at_its_plain))
        (λ below. wider s u below) here)

    cases : (same below none : Bool) → (same ≡ true → high ≤ grafting_height) → (below ≡ true → high ≤ grafting_height)
        → IsOne R (strings hash (grafted_case p string (chunk at) same below none))
    cases true below true at_height low = both_one (value hash string) (plain (at_height refl))
    cases true below false at_height low = both_one (chunk at ++ hash (value hash string)) (plain (at_height refl))
    cases false true none at_height low =
        top_one P (at_plain p) (value hash string) (strings hash string) is (λ u here. apart (at_plain p) u refl here) R
        (plain (low refl)) wider
    cases false false none at_height low =
        top_one P (at_joined p) (value hash string) (strings hash string) is
        (λ u here. apart (at_joined p) u refl here) R
        (joined (value hash string) tt) wider

module _ (hash : Hash) (Below : ℕ → Type 0) (over : Over) (Own : ℕ → Tree → List ℕ → Type 0) (Joined : Type 0)
    (is_over : IsOver hash Below Joined over) where
  leaf_one : (at p : ℕ) (element : List ℕ) → Own at (leaf p) (number p ++ element)
      → IsOne (IsIn Own Joined at (leaf p)) (strings hash (leaf_made p element))
  leaf_one at p element own =
      top_one (λ s u. ⊥) (at_plain p) (number p ++ element) [] (none_one (λ s u. ⊥)) (λ u here. here)
      (IsIn Own Joined at (leaf p))
      (at, leaf p, (refl, refl), inl (refl, own)) (λ s u here. absurd here)

  branch_one : (at high p : ℕ) (left right : Tree) (x y : Made) → Numbered at (branch p left right)
      → (Below high → Own at (branch p left right) (number p ++ (value hash x ++ value hash y)))
      → IsOne (IsIn Own Joined at left) (strings hash x)
      → IsOne (IsIn Own Joined (at + leaf_count left) right) (strings hash y)
      → IsOne (IsIn Own Joined at (branch p left right)) (strings hash (branch_made over at high p x y))
  branch_one at high p left right x y numbered own one_x one_y =
      let Lefts : Site → List ℕ → Type 0 = IsIn Own Joined at left in
      let Rights : Site → List ℕ → Type 0 = IsIn Own Joined (at + leaf_count left) right in
      let Children : Site → List ℕ → Type 0 = λ s u. Lefts s u ⊎ Rights s u in
      is_over at high p (both (bytes (number p)) (both x y)) Children (IsIn Own Joined at (branch p left right))
      (append_one Lefts Rights (strings hash x) (strings hash y) one_x one_y
      (λ s u v l r. absurd (not_both Own Joined at p left right numbered s u v l r)) Children
      (λ s u here. inl here) (λ s u here. inr here))
      (λ s u top here. not_top Own Joined at p left right numbered s u top here)
      (λ s u here. ⊎_elim (λ l. (l.0, l.1, inr (inl l.2), l.3)) (λ r. (r.0, r.1, inr (inr r.2), r.3)) here)
      (λ low. (at, branch p left right, inl (refl, refl), inl (refl, own low))) (λ u is. (
        at,
        branch p left right,
        inl (refl, refl),
        inr (is, refl),
      ))

  -- a tree that is hashed
  pub tree_one : (elements : Elements)
      → ((at p : ℕ) → Own at (leaf p) (number p ++ elements at))
      → ((at p : ℕ) (left right : Tree) → IsPerfect (branch p left right) → Below (height (branch p left right))
      → Own at (branch p left right) (number p ++ (value hash (made_tree over elements at left)
      ++ value hash (made_tree over elements (at + leaf_count left) right))))
      → (at : ℕ) (t : Tree) → Numbered at t → IsPerfect t
      → IsOne (IsIn Own Joined at t) (strings hash (made_tree over elements at t))
  tree_one elements leaf_own branch_own at (leaf p) numbered perfect = leaf_one at p (elements at) (leaf_own at p)
  tree_one elements leaf_own branch_own at (branch p left right) numbered perfect =
      branch_one at (height (branch p left right)) p left right (made_tree over elements at left)
      (made_tree over elements (at + leaf_count left) right) numbered (branch_own at p left right perfect)
      (tree_one elements leaf_own branch_own at left (λ f g a b x y. numbered f g a b (inr (inl x))
      (inr (inl y))) perfect.1)
      (tree_one elements leaf_own branch_own (at
      + leaf_count left) right (λ f g a b x y. numbered f g a b (inr (inr x)) (inr (inr y))) perfect.2)

  given_one : (P : Site → List ℕ → Type 0) (digests : List (List ℕ))
      → IfSome (given digests) (λ got. IsOne P (strings hash got.0))
  given_one P [] = tt
  given_one P (d ∷ digests) = none_one P

  -- and one that is read, where nothing is asked of the strings
  pub read_one : ((first : ℕ) (node : Tree) (u : List ℕ) → Own first node u)
      → (claimed : Elements) (start stop at : ℕ) (t : Tree) (digests : List (List ℕ))
      → Numbered at t → IfSome (read_tree over claimed start stop at t digests)
      (λ got. IsOne (IsIn Own Joined at t) (strings hash got.0))
  read_one own claimed start stop at (leaf p) digests numbered =
      choose (λ got. IfSome got (λ x. IsOne (IsIn Own Joined at (leaf p)) (strings hash x.0)))
      (meets start stop (at, leaf p))
      (Some (leaf_made p (claimed at), digests)) (given digests)
      (λ is. leaf_one at p (claimed at) (own at (leaf p) (number p ++ claimed at)))
      (λ is. given_one (IsIn Own Joined at (leaf p)) digests)
  read_one own claimed start stop at (branch p left right) digests numbered =
      let high : ℕ = height (branch p left right) in
      let Left : Made × List (List ℕ) → Type 0 = λ x. IsOne (IsIn Own Joined at left) (strings hash x.0) in
      let Right : Made × List (List ℕ)
      → Type 0 = λ y. IsOne (IsIn Own Joined (at + leaf_count left) right) (strings hash y.0) in
      let Whole : Made × List (List ℕ)
      → Type 0 = λ x. IsOne (IsIn Own Joined at (branch p left right)) (strings hash x.0) in
      choose (λ got. IfSome got Whole) (meets start stop (at, branch p left right))
      (option_and_then (λ x. option_map (λ y. (branch_made over at high p x.0 y.0, y.1))
      (read_tree over claimed start stop (at + leaf_count left) right x.1))
      (read_tree over claimed start stop at left digests))
      (given digests)
      (λ is. bind_good Left Whole (λ x. option_map (λ y. (branch_made over at high p x.0 y.0, y.1))
      (read_tree over claimed start stop (at + leaf_count left) right x.1))
      (read_tree over claimed start stop at left digests)
      (read_one own claimed start stop at left digests (λ f g a b x y. numbered f g a b (inr (inl x)) (inr (inl y))))
      (λ x one. map_good Right Whole (λ y. (branch_made over at high p x.0 y.0, y.1))
      (read_tree over claimed start stop (at + leaf_count left) right x.1)
      (read_one own claimed start stop (at
      + leaf_count left) right x.1 (λ f g a b x y. numbered f g a b (inr (inr x)) (inr (inr y))))
      (λ y other. branch_one at high p left right x.0 y.0 numbered
      (λ low. own at (branch p left right) (number p ++ (value hash x.0 ++ value hash y.0))) one other)))
      (λ is. given_one (IsIn Own Joined at (branch p left right)) digests)
