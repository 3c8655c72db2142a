-- One string a site, in a plain tree that is hashed or rebuilt.
use Rattle.std.proofs.Common.{◌≡◌, ◌⊎◌, inl, inr, ⊎_elim, ℕ, zero, suc, ◌+◌, List, [], ◌∷◌, ◌++◌, Contains, None, Some}
use Rattle.std.proofs.Common.{option_map, option_and_then, IfSome, refl, sym, ◌∙◌, ap, subst, arith}
use Rattle.std.proofs.lemmas.List.Elements.{Contains-append_cases}
use Rattle.merkle_forest.specs.Forest.{Tree, leaf, branch, position, height, leaf_count}
use Rattle.merkle_forest.specs.Hashing.{Hash, number}
use Rattle.merkle_forest.specs.Nodes.{IsWithin}
use Rattle.merkle_forest.specs.Laws.Nodes.{within-fits}
use Rattle.merkle_forest.specs.Laws.Peaks.{leaf_count-pos}
use Rattle.merkle_theory.specs.Ranges.{meets}
use Rattle.merkle_forest.specs.Made.{Site, at_plain, Made, bytes, both, hashed, value, Strings, strings}
use Rattle.merkle_theory.specs.MadeTrees.{plain_over, Elements, leaf_made, branch_made, made_tree, Reading, given, read_tree}
use Rattle.merkle_theory.specs.OneEach.{OneEach}
use Rattle.merkle_theory.specs.Laws.MadeTrees.{choose}

-- a tree of which parts may be given
abbrev pub Partial : ℕ → Tree → Made → Type 0
Partial at (leaf p) made = ((d : List ℕ) × (made ≡ bytes d)) ⊎ ((e : List ℕ) × (made ≡ leaf_made p e))
Partial at (branch p left right) made = ((d : List ℕ) × (made ≡ bytes d))
    ⊎ ((x : Made) × (y : Made) × Partial at left x × Partial (at + leaf_count left) right y
    × (made ≡ hashed (at_plain p) [] (both (bytes (number p)) (both x y))))

-- nodes at one position are one
abbrev pub Numbered : ℕ → Tree → Type 0
Numbered at t = (f g : ℕ) (a b : Tree) → IsWithin f a at t → IsWithin g b at t → position a ≡ position b → (f ≡ g) × (a ≡ b)

-- the site of a node of the tree
abbrev pub IsSiteIn : ℕ → Tree → Site → Type 0
IsSiteIn at t site = (first : ℕ) × (node : Tree) × IsWithin first node at t × (site ≡ at_plain (position node))

pub nothing : {A : Type 0} (x : A) → Contains [] x → ⊥
nothing x here = omega (arith, here.1)

pub only : {A : Type 0} (a x : A) → Contains (a ∷ []) x → a ≡ x
only a x (zero, few, is) = is
only a x (suc k, few, is) = absurd (omega (arith, few))

plain_same : (p q : ℕ) → at_plain p ≡ at_plain q → p ≡ q
plain_same p q same = cc

-- two strings at one site, each at the top, on the left or on the right: they are on one side, so they are one
pub merge : (Top : Type 0) (own : List ℕ) (lefts rights : Strings) (s : Site) (u v : List ℕ)
    → (Top × (own ≡ u)) ⊎ (Contains lefts (s, u) ⊎ Contains rights (s, u))
    → (Top × (own ≡ v)) ⊎ (Contains lefts (s, v) ⊎ Contains rights (s, v))
    → (Contains lefts (s, u) → Contains lefts (s, v) → u ≡ v) → (Contains rights (s, u) → Contains rights (s, v) → u ≡ v)
    → ((w : List ℕ) → Top → Contains lefts (s, w) → ⊥) → ((w : List ℕ) → Top → Contains rights (s, w) → ⊥) → ((w z : List ℕ)
    → Contains lefts (s, w) → Contains rights (s, z) → ⊥) → u ≡ v
merge Top own lefts rights s u v (inl a) (inl b) l r tl tr lr = sym a.1 ∙ b.1
merge Top own lefts rights s u v (inl a) (inr (inl b)) l r tl tr lr = absurd (tl v a.0 b)
merge Top own lefts rights s u v (inl a) (inr (inr b)) l r tl tr lr = absurd (tr v a.0 b)
merge Top own lefts rights s u v (inr (inl a)) (inl b) l r tl tr lr = absurd (tl u b.0 a)
merge Top own lefts rights s u v (inr (inl a)) (inr (inl b)) l r tl tr lr = l a b
merge Top own lefts rights s u v (inr (inl a)) (inr (inr b)) l r tl tr lr = absurd (lr u v a b)
merge Top own lefts rights s u v (inr (inr a)) (inl b) l r tl tr lr = absurd (tr u b.0 a)
merge Top own lefts rights s u v (inr (inr a)) (inr (inl b)) l r tl tr lr = absurd (lr v u b a)
merge Top own lefts rights s u v (inr (inr a)) (inr (inr b)) l r tl tr lr = r a b

module _ (hash : Hash) where
  inner : (p : ℕ) (x y : Made) (s : Site) (u : List ℕ) → Contains (strings hash (hashed (at_plain p) [] (both (bytes (number p)) (both x y)))) (s, u)
      → ((at_plain p ≡ s) × (number p ++ (value hash x ++ value hash y) ≡ u)) ⊎ (Contains (strings hash x) (s, u) ⊎ Contains (strings hash y) (s, u))
  inner p x y s u here =
      ⊎_elim (λ first. let is = only (at_plain p, number p ++ (value hash x ++ value hash y)) (s, u) first in inl (
        ap (λ (z : Site
            × List ℕ). z.0) is,
        ap (λ (z : Site × List ℕ). z.1) is,
      ))
      (λ rest. inr (Contains-append_cases (strings hash x) (strings hash y) (s, u) rest))
      (Contains-append_cases ((at_plain p, number p ++ (value hash x ++ value hash y)) ∷ []) (strings hash x ++ strings hash y) (s, u) here)

  -- every site is that of a node of the tree
  pub site_in : (at : ℕ) (t : Tree) (made : Made) → Partial at t made → (s : Site) (u : List ℕ)
      → Contains (strings hash made) (s, u) → IsSiteIn at t s
  site_in at (leaf p) made (inl given) s u here = absurd (nothing (s, u) (subst (λ m. Contains (strings hash m) (s, u)) given.1 here))
  site_in at (leaf p) made (inr own) s u here =
      let is = only (at_plain p, number p ++ own.0) (s, u) (subst (λ m. Contains (strings hash m) (s, u)) own.1 here) in
      (at, leaf p, (refl, refl), sym (ap (λ (z : Site × List ℕ). z.0) is))
  site_in at (branch p left right) made (inl given) s u here = absurd (nothing (s, u) (subst (λ m. Contains (strings hash m) (s, u)) given.1 here))
  site_in at (branch p left right) made (inr own) s u here =
      ⊎_elim (λ top. (at, branch p left right, inl (refl, refl), sym top.0))
      (λ below. ⊎_elim
      (λ l. let is = site_in at left own.0 own.2 s u l in (is.0, is.1, inr (inl is.2), is.3))
      (λ r. let is = site_in (at + leaf_count left) right own.1 own.3 s u r in (is.0, is.1, inr (inr is.2), is.3)) below)
      (inner p own.0 own.1 s u (subst (λ m. Contains (strings hash m) (s, u)) own.4 here))

  -- no site in a child is the branch's own
  not_top : (at p : ℕ) (left right : Tree) → Numbered at (branch p left right) → (s : Site) → at_plain p ≡ s
      → IsSiteIn at left s ⊎ IsSiteIn (at + leaf_count left) right s → ⊥
  not_top at p left right numbered s top (inl is) =
      let one = numbered at is.0 (branch p left right) is.1 (inl (refl, refl)) (inr (inl is.2)) (plain_same p (position is.1) (top ∙ is.3)) in
      omega (arith, ap leaf_count one.1, within-fits is.0 at is.1 left is.2, leaf_count-pos right, one.0)
  not_top at p left right numbered s top (inr is) =
      let one = numbered at is.0 (branch p left right) is.1 (inl (refl, refl)) (inr (inr is.2)) (plain_same p (position is.1) (top ∙ is.3)) in
      omega (arith, one.0, within-fits is.0 (at + leaf_count left) is.1 right is.2, leaf_count-pos left)

  not_both : (at p : ℕ) (left right : Tree) → Numbered at (branch p left right) → (s : Site) → IsSiteIn at left s
      → IsSiteIn (at + leaf_count left) right s → ⊥
  not_both at p left right numbered s l r =
      let one = numbered l.0 r.0 l.1 r.1 (inr (inl l.2)) (inr (inr r.2)) (plain_same (position l.1) (position r.1) (sym l.3 ∙ r.3)) in
      omega (arith, one.0, within-fits l.0 at l.1 left l.2, within-fits r.0 (at + leaf_count left) r.1 right r.2, leaf_count-pos l.1)

  pub one_each : (at : ℕ) (t : Tree) (made : Made) → Numbered at t → Partial at t made → OneEach (strings hash made)
  one_each at (leaf p) made numbered (inl given) s u v one other = absurd (nothing (s, u) (subst (λ m. Contains (strings hash m) (s, u)) given.1 one))
  one_each at (leaf p) made numbered (inr own) s u v one other =
      let a = only (at_plain p, number p ++ own.0) (s, u) (subst (λ m. Contains (strings hash m) (s, u)) own.1 one) in
      let b = only (at_plain p, number p ++ own.0) (s, v) (subst (λ m. Contains (strings hash m) (s, v)) own.1 other) in
      sym (ap (λ (z : Site × List ℕ). z.1) a) ∙ ap (λ (z : Site × List ℕ). z.1) b
  one_each at (branch p left right) made numbered (inl given) s u v one other = absurd (nothing (s, u) (subst (λ m. Contains (strings hash m)
      (s, u)) given.1 one))
  one_each at (branch p left right) made numbered (inr own) s u v one other =
      merge (at_plain p ≡ s) (number p ++ (value hash own.0 ++ value hash own.1)) (strings hash own.0) (strings hash own.1) s u v
      (inner p own.0 own.1 s u (subst (λ m. Contains (strings hash m) (s, u)) own.4 one)) (inner p own.0 own.1 s v (subst (λ m. Contains
      (strings hash m) (s, v)) own.4 other))
      (one_each at left own.0 (λ f g a b x y. numbered f g a b (inr (inl x)) (inr (inl y))) own.2 s u v)
      (one_each (at + leaf_count left) right own.1 (λ f g a b x y. numbered f g a b (inr (inr x)) (inr (inr y))) own.3 s u v)
      (λ w top l. not_top at p left right numbered s top (inl (site_in at left own.0 own.2 s w l)))
      (λ w top r. not_top at p left right numbered s top (inr (site_in (at + leaf_count left) right own.1 own.3 s w r)))
      (λ w z l r. not_both at p left right numbered s (site_in at left own.0 own.2 s w l) (site_in (at + leaf_count left) right own.1 own.3 s z r))

-- what is hashed is such a tree
pub made_partial : (elements : Elements) (at : ℕ) (t : Tree) → Partial at t (made_tree plain_over elements at t)
made_partial elements at (leaf p) = inr (elements at, refl)
made_partial elements at (branch p left right) =
    inr (
      made_tree plain_over elements at left,
      made_tree plain_over elements
          (at + leaf_count left) right,
      made_partial elements at left,
      made_partial elements (at + leaf_count left) right,
      refl,
    )

given_partial : (at : ℕ) (t : Tree) (digests : List (List ℕ)) → IfSome (given digests) (λ got. Partial at t got.0)
given_partial at t [] = tt
given_partial at (leaf p) (d ∷ digests) = inl (d, refl)
given_partial at (branch p left right) (d ∷ digests) = inl (d, refl)

joined_partial : (at p : ℕ) (left right : Tree) (first : Reading) (second : List (List ℕ) → Reading) → IfSome first (λ got. Partial at left got.0)
    → ((digests : List (List ℕ)) → IfSome (second digests) (λ got. Partial (at + leaf_count left) right got.0))
    → IfSome {T = Made × List (List ℕ)} (option_and_then (λ x. option_map (λ y. (
      branch_made plain_over at (height
          (branch p left right)) p x.0 y.0,
      y.1,
    )) (second x.1)) first) (λ got. Partial at (branch p left right) got.0)
joined_partial at p left right None second here there = tt
joined_partial at p left right (Some x) second here there = more (second x.1) (there x.1)
  where
    more : (got : Reading) → IfSome got (λ y. Partial (at + leaf_count left) right y.0)
        → IfSome {T = Made × List (List ℕ)} (option_map (λ y. (branch_made plain_over at (height (branch p left right)) p x.0 y.0, y.1)) got)
        (λ made. Partial at (branch p left right) made.0)
    more None is = tt
    more (Some y) is = inr (x.0, y.0, here, is, refl)

-- and what is read
pub read_partial : (claimed : Elements) (start stop at : ℕ) (t : Tree) (digests : List (List ℕ))
    → IfSome (read_tree plain_over claimed start stop at t digests) (λ got. Partial at t got.0)
read_partial claimed start stop at (leaf p) digests =
    choose (λ got. IfSome got (λ x. Partial at (leaf p) x.0)) (meets start stop (at, leaf p)) (Some (leaf_made p (claimed at), digests)) (given digests)
    (λ is. inr (claimed at, refl)) (λ is. given_partial at (leaf p) digests)
read_partial claimed start stop at (branch p left right) digests =
    choose (λ got. IfSome got (λ x. Partial at (branch p left right) x.0)) (meets start stop (at, branch p left right))
    (option_and_then (λ x. option_map (λ y. (branch_made plain_over at (height (branch p left right)) p x.0 y.0, y.1))
    (read_tree plain_over claimed start stop (at + leaf_count left) right x.1)) (read_tree plain_over claimed start stop at left digests))
    (given digests)
    (λ is. joined_partial at p left right (read_tree plain_over claimed start stop at left digests) (read_tree plain_over claimed start stop
    (at + leaf_count left) right)
    (read_partial claimed start stop at left digests) (λ more. read_partial claimed start stop (at + leaf_count left) right more))
    (λ is. given_partial at (branch p left right) digests)
