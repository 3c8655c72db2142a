-- What is read of a tree from the elements that are shown in it.
use Rattle.std.proofs.Common.{◌≡◌, ℕ, ◌+◌, true, false, List, Option, Some, None, option_map, refl, sym, ◌∙◌, ap, ap₂}
use Rattle.merkle_forest.specs.Forest.{Tree, leaf, branch, position, height, leaf_count, Rule}
use Rattle.merkle_forest.specs.Hashing.{Hash}
use Rattle.merkle_forest.specs.Made.{Made, bytes, value}
use Rattle.merkle_theory.specs.MadeTrees.{Over, Elements, leaf_made, branch_made}
use Rattle.merkle_theory.specs.Multi.{is_named}
use Rattle.merkle_theory.specs.MultiReads.{both_there, read_shown}
use Rattle.merkle_theory.specs.Plans.{Lookup}
use Rattle.merkle_theory.specs.Reads.{HashesAs}
use Rattle.merkle_theory.specs.Subtrees.{IsTreeAt}

-- what is given as bytes has these for its digest
pub value_bytes : (hash : Hash) (known : Option (List ℕ)) → option_map (value hash) (option_map bytes known) ≡ known
value_bytes hash None = refl
value_bytes hash (Some d) = refl

module _ (over : Over) (elements : Elements) (locations : List ℕ) (known : Lookup) where
  -- a tree in which nothing is shown is given
  pub read_unnamed : (at : ℕ) (t : Tree) → is_named locations (at, t) ≡ false
      → read_shown over elements locations known at t ≡ option_map bytes (known (position t))
  read_unnamed at (leaf p) is = rw is refl
  read_unnamed at (branch p left right) is = rw is refl

  pub read_leaf : (at p : ℕ) → is_named locations (at, leaf p) ≡ true
      → read_shown over elements locations known at (leaf p) ≡ Some (leaf_made p (elements at))
  read_leaf at p is = rw is refl

  pub read_branch : (at p : ℕ) (left right : Tree) → is_named locations (at, branch p left right) ≡ true
      → read_shown over elements locations known at (branch p left right)
      ≡ both_there (branch_made over at (height (branch p left right)) p)
      (read_shown over elements locations known at left)
      (read_shown over elements locations known (at + leaf_count left) right)
  read_branch at p left right is = rw is refl

some_is : {A : Type 0} (x y : A) → Some x ≡ Some y → x ≡ y
some_is x y is = cc

pub none_left : {A B C D E : Type 0} (f : C → D) (join : A → B → C) (g : A → E) (one : Option A) (other : Option B)
    → option_map g one ≡ None
    → option_map f (both_there join one other) ≡ None
none_left f join g None other is = refl
none_left f join g (Some x) other is = absurd cc

pub none_right : {A B C D E : Type 0} (f : C → D) (join : A → B → C) (g : B
    → E) (one : Option A) (other : Option B) → option_map g other ≡ None
    → option_map f (both_there join one other) ≡ None
none_right f join g None other is = refl
none_right f join g (Some x) None is = refl
none_right f join g (Some x) (Some y) is = absurd cc

pub both_values : {A B C X Y Z : Type 0} (f : C → Z) (join : A → B → C) (g : A → X) (h : B → Y) (make : X → Y
    → Z) (one : Option A) (other : Option B)
    (a : X) (b : Y) → ((x : A) (y : B) → f (join x y) ≡ make (g x) (h y)) → option_map g one ≡ Some a
    → option_map h other ≡ Some b
    → option_map f (both_there join one other) ≡ Some (make a b)
both_values f join g h make None other a b is one_is other_is = absurd cc
both_values f join g h make (Some x) None a b is one_is other_is = absurd cc
both_values f join g h make (Some x) (Some y) a b is one_is other_is =
    ap (λ z. Some z) (is x y ∙ ap₂ make (some_is (g x) a one_is) (some_is (h y) b other_is))

-- a branch whose children are read
pub branch_value : (rule : Rule) (hash : Hash) (leaf_of : ℕ → List ℕ → List ℕ) (node_of : ℕ → List ℕ → List ℕ
    → List ℕ) (over : Over)
    (at p q h : ℕ) (left right : Tree) (one other : Option Made) (a b : List ℕ)
    → HashesAs rule hash leaf_of node_of over
    → IsTreeAt rule at p h (branch q left right) → option_map (value hash) one ≡ Some a
    → option_map (value hash) other ≡ Some b
    → option_map (value hash) (both_there (branch_made over at (height (branch q left right)) q) one other)
    ≡ Some (node_of p a b)
branch_value rule hash leaf_of node_of over at p q h left right one other a b by tree one_is other_is =
    let high = height (branch q left right) in
    let there : IsTreeAt rule at q high (branch q left right) =
    record { leaf_total = tree.leaf_total; few = tree.few; stands = tree.stands; subtree = refl; level = refl } in
    both_values (value hash) (branch_made over at high q) (value hash) (value hash) (node_of q) one other a b
    (λ x y. by.branch at high q x y (branch q left right, there)) one_is other_is
    ∙ ap (λ n. Some (node_of n a b)) (sym tree.subtree)
