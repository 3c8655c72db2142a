-- A tree over a range: how far it reaches, and what is read of it.
use Rattle.std.proofs.Common.{◌≡◌, ℕ, zero, suc, ◌+◌, ◌-◌, ◌*◌, ◌%◌}
use Rattle.std.proofs.Common.{◌^◌, ◌<◌, ◌≤◌, true, false, ◌||◌, List, [], ◌∷◌}
use Rattle.std.proofs.Common.{length, map, get_or, Option, None, Some, option_map, refl, sym, ◌∙◌, ap, arith}
use Rattle.std.specs.Prelude.{slice_index_or}
use Rattle.std.proofs.lemmas.Bool.{or_parts, not-true, leb-false}
use Rattle.merkle_forest.specs.Forest.{Tree, leaf, branch, height, leaf_count, Rule}
use Rattle.merkle_forest.specs.Laws.Nodes.{node-leaves}
use Rattle.merkle_forest.specs.Perfect.{IsPairing}
use Rattle.merkle_forest.specs.Hashing.{Hash}
use Rattle.merkle_forest.specs.Made.{Made, value}
use Rattle.merkle_theory.specs.Ranges.{meets, is_before, is_after}
use Rattle.merkle_theory.specs.Subtrees.{IsTreeAt, HasTree}
use Rattle.merkle_theory.specs.MadeTrees.{Over, Elements, Reading, from, given, read_tree}
use Rattle.merkle_theory.specs.Reads.{HashesAs, valued}
use Rattle.merkle_theory.proofs.Places.{shift}

-- how many leaves a tree has, and where they end
pub record Reach (first h : ℕ) (node : Tree) : Type 0 where
  pub low : h < 64
  pub whole : (1 * 2 ^ h) % 2 ^ 64 ≡ leaf_count node
  pub fits : first + leaf_count node ≤ 2 ^ 62

pub reach : (rule : Rule) → IsPairing rule → (first p h : ℕ) (node : Tree) → IsTreeAt rule first p h node → Reach first h node
reach rule pairs first p h node it =
    let whole = node-leaves rule pairs it.leaf_total first node it.stands in
    let by = shift it.leaf_total first h node it.few whole.1 it.level in
    record { low = by.low; whole = by.whole ∙ sym whole.0; fits = omega (arith, whole.0, whole.1, it.few) }

-- a tree that holds no leaf of the range is given
pub read_given : (over : Over) (elements : Elements) (start stop at : ℕ) (t : Tree) (ds : List (List ℕ))
    → meets start stop (at, t) ≡ false → read_tree over elements start stop at t ds ≡ given ds
read_given over elements start stop at (leaf p) ds out = rw out refl
read_given over elements start stop at (branch p left right) ds out = rw out refl

-- what is read, as the code has it
pub record IsRead {R : Type 0} (hash : Hash) (reading : Option (Made × R)) (d : List ℕ) (rest : R) : Type 0 where
  pub made : Made
  pub is : reading ≡ Some (made, rest)
  pub same : value hash made ≡ d

some_is : {A : Type 0} (x y : A) → Some x ≡ Some y → x ≡ y
some_is x y is = cc

pub pair_same : {A B : Type 0} (a c : A) (b d : B) → ◌≡◌ {A = Option (A × B)} (Some (a, b)) (Some (c, d)) → (a ≡ c) × (b ≡ d)
pair_same a c b d is =
    (some_is a c (ap (option_map (λ x. x.0)) is), some_is b d (ap (option_map (λ x. x.1)) is))

pub read_some : {R : Type 0} (hash : Hash) (reading : Option (Made × R)) (d : List ℕ) (rest : R) → valued hash reading ≡ Some (d, rest)
    → IsRead hash reading d rest
read_some hash None d rest is = absurd cc
read_some hash (Some (made, more)) d rest is =
    let both = pair_same (value hash made) d more rest is in
    record { made = made; is = ap (λ xs. Some (made, xs)) both.1; same = both.0 }

pub read_none : {R : Type 0} (hash : Hash) (reading : Option (Made × R)) → valued hash reading ≡ None → reading ≡ None
read_none hash None is = refl
read_none hash (Some (made, more)) is = absurd cc

-- a leaf of the range
pub leaf_value : (rule : Rule) (hash : Hash) (leaf_of : ℕ → List ℕ → List ℕ) (node_of : ℕ → List ℕ → List ℕ → List ℕ) (over : Over)
    (elements : Elements) (start stop at p high : ℕ) (node : Tree) (ds : List (List ℕ)) → HashesAs rule hash leaf_of node_of over
    → IsTreeAt rule at p high node → high ≡ 0 → meets start stop (at, node) ≡ true
    → valued hash (read_tree over elements start stop at node ds) ≡ Some (leaf_of p (elements at), ds)
leaf_value rule hash leaf_of node_of over elements start stop at p high (leaf q) ds by tree low met =
    rw met (ap (λ d. Some (d, ds)) (by.leaf q (elements at) ∙ ap (λ n. leaf_of n (elements at)) (sym tree.subtree)))
leaf_value rule hash leaf_of node_of over elements start stop at p high (branch q l r) ds by tree low met =
    absurd (omega (arith, low, tree.level))

pub no_digest : {A : Type 0} (xs : List A) → length xs ≡ 0 → xs ≡ []
no_digest [] none = refl
no_digest (x ∷ xs) none = absurd (omega (arith, none))

module _ (rule : Rule) (hash : Hash) (leaf_of : ℕ → List ℕ → List ℕ) (node_of : ℕ → List ℕ → List ℕ → List ℕ) (over : Over)
    (elements : Elements) (start stop at p q h : ℕ) (left right : Tree) (ds : List (List ℕ)) (by : HashesAs rule hash leaf_of node_of over)
    (tree : IsTreeAt rule at p h (branch q left right)) (met : meets start stop (at, branch q left right) ≡ true) where
  abbrev of_branch : Reading
  of_branch = read_tree over elements start stop at (branch q left right) ds

  abbrev of_left : Reading
  of_left = read_tree over elements start stop at left ds

  abbrev of_right : List (List ℕ) → Reading
  of_right rest = read_tree over elements start stop (at + leaf_count left) right rest

  pub left_missing : valued hash of_left ≡ None → valued hash of_branch ≡ None
  left_missing none = rw (met, read_none hash of_left none) refl

  pub right_missing : (d : List ℕ) (rest : List (List ℕ)) → valued hash of_left ≡ Some (d, rest)
      → valued hash (of_right rest) ≡ None → valued hash of_branch ≡ None
  right_missing d rest some none =
      let one = read_some hash of_left d rest some in
      rw (met, one.is, read_none hash (of_right rest) none) refl

  pub both_there : (a b : List ℕ) (rest more : List (List ℕ)) → valued hash of_left ≡ Some (a, rest)
      → valued hash (of_right rest) ≡ Some (b, more) → valued hash of_branch ≡ Some (node_of p a b, more)
  both_there a b rest more some other =
      let one = read_some hash of_left a rest some in
      let two = read_some hash (of_right rest) b more other in
      let high = height (branch q left right) in
      let there : HasTree rule at q high = (
        branch q left right,
        record {
          leaf_total = tree.leaf_total;
          few = tree.few;
          stands = tree.stands;
          subtree
              = refl;
          level = refl;
        },
      ) in
      rw (met, one.is, two.is)
      (ap (λ d. Some (d, more))
      (by.branch at high q one.made two.made there ∙ ap (λ x. node_of q x (value hash two.made)) one.same ∙ ap (node_of q a) two.same
      ∙ ap (λ n. node_of n a b) (sym tree.subtree)))

-- the one leaf of a tree of height 0 that meets the range stands in it
pub met_leaf : (start stop at high : ℕ) (node : Tree) → high ≡ 0 → high ≡ height node → meets start stop (at, node) ≡ true
    → (start ≤ at) × (at < stop)
met_leaf start stop at high (leaf q) low level met =
    let sides = or_parts (is_before start (at, leaf q)) (is_after stop (at, leaf q))
    (not-true (is_before start (at, leaf q) || is_after stop (at, leaf q)) met) in
    (omega (arith, leb-false (at + 1) start sides.0), omega (arith, leb-false stop at sides.1))
met_leaf start stop at high (branch q l r) low level met = absurd (omega (arith, low, level))

at_index : {B : Type 0} (now : B → List ℕ) (elements : List B) (none : B) (i : ℕ) → i < length elements
    → slice_index_or (map now elements) i [] ≡ now (get_or elements i none)
at_index now [] none i low = absurd (omega (arith, low))
at_index now (e ∷ elements) none zero low = refl
at_index now (e ∷ elements) none (suc i) low = at_index now elements none i (omega (arith, low))

-- an element of the range
pub element_at : {B : Type 0} (now : B → List ℕ) (elements : List B) (none : B) (start location : ℕ) → start ≤ location
    → location < start + length elements → from start (map now elements) location ≡ now (get_or elements (location - start) none)
element_at now elements none start location low high =
    at_index now elements none (location - start) (omega (arith, low, high))
