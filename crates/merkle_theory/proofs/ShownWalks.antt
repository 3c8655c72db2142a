-- What is read of a tree, as a walk down the tree finds it.
use Rattle.std.proofs.Common.{◌≡◌, ℕ, ◌+◌, ◌<◌, ◌≤◌, true, not, map, filter, length, get_or, drop, Option, List, []}
use Rattle.std.proofs.Common.{◌∷◌, Some, None, option_map, refl, sym, ◌∙◌, ap, arith}
use Rattle.std.specs.Prelude.{nat_lt}
use Rattle.merkle_forest.specs.Forest.{Tree, leaf, branch, position, height, leaf_count, Rule}
use Rattle.merkle_forest.specs.Hashing.{Hash}
use Rattle.merkle_forest.specs.Made.{value}
use Rattle.merkle_theory.specs.MadeTrees.{Over, branch_made}
use Rattle.merkle_theory.specs.MultiReads.{Shown, locations_of, shown_at, shown_in, shown_from, both_there, read_shown}
use Rattle.merkle_theory.specs.Plans.{Lookup}
use Rattle.merkle_theory.specs.Reads.{HashesAs}
use Rattle.merkle_theory.specs.Subtrees.{IsTreeAt}
use Rattle.merkle_theory.proofs.ShownLists.{map_filter, shown_left, shown_right, shown_own, shown_others, has_some}
use Rattle.merkle_theory.proofs.ShownLists.{named_shown, shown_leaf}
use Rattle.merkle_theory.proofs.ShownTrees.{value_bytes, read_unnamed, read_leaf, read_branch, none_left, none_right}
use Rattle.merkle_theory.proofs.ShownTrees.{branch_value}

module _ {E : Type 0} (f : E → List ℕ × ℕ) where
  pub some_shown : (elements : List E) (shown : Shown) → 0 < length elements → map f elements ≡ shown
      → has_some shown ≡ true
  some_shown [] shown some is = absurd (omega (arith, some))
  some_shown (e ∷ elements) shown some is = ap has_some (sym is)

  pub first_of : (elements : List E) (d : E) → 0 < length elements
      → map f elements ≡ f (get_or elements 0 d) ∷ map f (drop 1 elements)
  first_of [] d some = absurd (omega (arith, some))
  first_of (e ∷ elements) d some = refl

  -- the elements on the left and on the right of a branch
  pub left_of : (elements before : List E) (m at q : ℕ) (left right : Tree) (shown : Shown)
      → before ≡ filter (λ e. nat_lt (f e).1 m) elements
      → m ≡ at + leaf_count left → map f elements ≡ shown_in (at, branch q left right) shown
      → map f before ≡ shown_in (at, left) shown
  left_of elements before m at q left right shown is middle all =
      ap (map f) is ∙ map_filter f (λ x. nat_lt x.1 m) elements
      ∙ ap (λ n. filter (λ x. nat_lt x.1 n) (map f elements)) middle
      ∙ ap (filter (λ x. nat_lt x.1 (at + leaf_count left))) all ∙ shown_left at q left right shown

  pub right_of : (elements after : List E) (m at q : ℕ) (left right : Tree) (shown : Shown)
      → after ≡ filter (λ e. not (nat_lt (f e).1 m)) elements
      → m ≡ at + leaf_count left → map f elements ≡ shown_in (at, branch q left right) shown
      → map f after ≡ shown_in (at + leaf_count left, right) shown
  right_of elements after m at q left right shown is middle all =
      ap (map f) is ∙ map_filter f (λ x. not (nat_lt x.1 m)) elements
      ∙ ap (λ n. filter (λ x. not (nat_lt x.1 n)) (map f elements)) middle
      ∙ ap (filter (λ x. not (nat_lt x.1 (at + leaf_count left)))) all ∙ shown_right at q left right shown

  -- the elements of a peak, and those after it
  pub own_of : (elements own : List E) (m first : ℕ) (node : Tree) (shown : Shown)
      → own ≡ filter (λ e. nat_lt (f e).1 m) elements
      → m ≡ first + leaf_count node → map f elements ≡ shown_from first shown → map f own ≡ shown_in (first, node) shown
  own_of elements own m first node shown is end all =
      ap (map f) is ∙ map_filter f (λ x. nat_lt x.1 m) elements ∙ ap (filter (λ x. nat_lt x.1 m)) all
      ∙ shown_own first m node shown end

  pub others_of : (elements others : List E) (m first : ℕ) (shown : Shown)
      → others ≡ filter (λ e. not (nat_lt (f e).1 m)) elements
      → first ≤ m → map f elements ≡ shown_from first shown → map f others ≡ shown_from m shown
  others_of elements others m first shown is le all =
      ap (map f) is ∙ map_filter f (λ x. not (nat_lt x.1 m)) elements ∙ ap (filter (λ x. not (nat_lt x.1 m))) all
      ∙ shown_others first m shown le

module _ (rule : Rule) (hash : Hash) (over : Over) (known : Lookup) (at p h : ℕ) where
  abbrev digest_of : Shown → Tree → Option (List ℕ)
  digest_of shown node = option_map (value hash) (read_shown over (shown_at shown) (locations_of shown) known at node)

  pub nothing_shown : (node : Tree) (shown : Shown) → IsTreeAt rule at p h node → shown_in (at, node) shown ≡ []
      → digest_of shown node ≡ known p
  nothing_shown node shown tree none =
      ap (option_map (value hash)) (read_unnamed over (shown_at shown) (locations_of shown) known at node
      (named_shown (at, node) shown ∙ ap has_some none))
      ∙ value_bytes hash (known (position node)) ∙ ap known (sym tree.subtree)

  module _ (leaf_of : ℕ → List ℕ → List ℕ) (node_of : ℕ → List ℕ → List ℕ
      → List ℕ) (by : HashesAs rule hash leaf_of node_of over) where
    pub leaf_shown : (node : Tree) (x : List ℕ × ℕ) (shown xs : Shown) → IsTreeAt rule at p h node → h ≡ 0
        → shown_in (at, node) shown ≡ x ∷ xs
        → digest_of shown node ≡ Some (leaf_of p x.0)
    leaf_shown (leaf q) x shown xs tree low is =
        ap (option_map (value hash)) (read_leaf over (shown_at shown) (locations_of shown) known at q
        (named_shown (at, leaf q) shown ∙ ap has_some is))
        ∙ ap (λ d. Some d) (by.leaf q (shown_at shown at) ∙ ap (leaf_of q) (shown_leaf at q x shown xs is)
        ∙ ap (λ n. leaf_of n x.0) (sym tree.subtree))
    leaf_shown (branch q left right) x shown xs tree low is = absurd (omega (arith, low, tree.level))

    module _ (q : ℕ) (left right : Tree) (shown : Shown) (tree : IsTreeAt rule at p h (branch q left right))
        (some : has_some (shown_in (at, branch q left right) shown) ≡ true) where
      abbrev one : Option (List ℕ)
      one = option_map (value hash) (read_shown over (shown_at shown) (locations_of shown) known at left)

      abbrev other : Option (List ℕ)
      other = option_map (value hash) (read_shown over (shown_at shown) (locations_of shown) known
          (at + leaf_count left) right)

      in_branch : digest_of shown (branch q left right)
          ≡ option_map (value hash) (both_there (branch_made over at (height (branch q left right)) q)
          (read_shown over (shown_at shown) (locations_of shown) known at left)
          (read_shown over (shown_at shown) (locations_of shown) known (at + leaf_count left) right))
      in_branch = ap (option_map (value hash)) (read_branch over (shown_at shown)
          (locations_of shown) known at q left right
          (named_shown (at, branch q left right) shown ∙ some))

      pub left_absent : one ≡ None → digest_of shown (branch q left right) ≡ None
      left_absent none = in_branch ∙ none_left (value hash) (branch_made over at (height (branch q left right)) q)
          (value hash)
          (read_shown over (shown_at shown) (locations_of shown) known at left)
          (read_shown over (shown_at shown) (locations_of shown) known (at + leaf_count left) right) none

      pub right_absent : other ≡ None → digest_of shown (branch q left right) ≡ None
      right_absent none = in_branch ∙ none_right (value hash) (branch_made over at (height (branch q left right)) q)
          (value hash)
          (read_shown over (shown_at shown) (locations_of shown) known at left)
          (read_shown over (shown_at shown) (locations_of shown) known (at + leaf_count left) right) none

      pub both_shown : (a b : List ℕ) → one ≡ Some a → other ≡ Some b
          → digest_of shown (branch q left right) ≡ Some (node_of p a b)
      both_shown a b one_is other_is = in_branch ∙ branch_value rule hash leaf_of node_of over at p q h left right
          (read_shown over (shown_at shown) (locations_of shown) known at left)
          (read_shown over (shown_at shown) (locations_of shown) known
          (at + leaf_count left) right) a b by tree one_is other_is
