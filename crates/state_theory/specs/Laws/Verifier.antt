-- The hasher over a range of operations: where a position's node is found, and that it hashes as the grafted tree is
-- made.
use Rattle.std.proofs.Common.{◌≡◌, ◌⊎◌, inl, inr, ⊎_elim, ℕ, zero, suc, ◌+◌, ◌-◌, ◌/◌, ◌^◌, ◌<◌, ◌≤◌, eqb, leb, ltb}
use Rattle.std.proofs.Common.{cond, ◌&&◌, Bool, true, false, List, [], ◌∷◌, length, replicate, Option, None, Some, refl}
use Rattle.std.proofs.Common.{sym, ◌∙◌, ap, subst, arith}
use Rattle.std.specs.Prelude.{slice_index_or}
use Rattle.std.proofs.lemmas.Bool.{eqb-true, ne_eqb, eq-eqb, le-leb, lt-leb, le-ltb, lt-ltb}
use Rattle.std.proofs.lemmas.List.{length-replicate}
use Rattle.merkle_forest.specs.Forest.{Tree, leaf, branch, position, height, leaf_count, size, leaves, Rule, forest_of}
use Rattle.merkle_forest.specs.Hashing.{Hash, number, leaf_string, node_string}
use Rattle.merkle_forest.specs.Laws.NodeGrowth.{node-stays, numbered, one-node}
use Rattle.merkle_forest.specs.Made.{bytes, both, value}
use Rattle.merkle_forest.specs.Nodes.{IsWithin, IsNodeAt}
use Rattle.merkle_forest.specs.Perfect.{IsPairing}
use Rattle.merkle_theory.specs.Reads.{HashesAs}
use Rattle.merkle_theory.specs.Subtrees.{HasTree}
use Rattle.state_theory.specs.Grafting.{grafted}
use Rattle.state_theory.specs.Laws.MadeStates.{value_case, no_chunk}
use Rattle.state_theory.specs.MadeGrafted.{grafted_over}
use Rattle.state_theory.specs.Verifier.{first_there, found_in, found_among, node_at, Given, given_chunk}
use Rattle.state_theory.specs.Verifier.{joined_chunk}
use Rattle.state_theory.specs.Verifier.{grafted_node, claimed_chunk}

-- what is found is a node there
record IsFound (At : ℕ → Tree → Type 0) (p : ℕ) (x : ℕ × ℕ) : Type 0 where
  node : Tree
  stands : At x.0 node
  at : position node ≡ p
  high : x.1 ≡ height node

found_more : (A B : ℕ → Tree → Type 0) (p : ℕ) (x : ℕ × ℕ) → ((f : ℕ) (n : Tree) → A f n → B f n)
    → IsFound A p x → IsFound B p x
found_more A B p x more it = record { node = it.node; stands = more x.0 it.node it.stands; at = it.at; high = it.high }

pair_some : (x y : ℕ × ℕ) → ◌≡◌ {A = Option (ℕ × ℕ)} (Some x) (Some y) → x ≡ y
pair_some x y same = cc

-- of two that may be there
first_is : (one other : Option (ℕ × ℕ)) (x : ℕ × ℕ) → first_there one other ≡ Some x → (one ≡ Some x) ⊎ (other ≡ Some x)
first_is None other x is = inr is
first_is (Some y) other x is = inl is

first_none : (one other : Option (ℕ × ℕ)) → first_there one other ≡ None → (one ≡ None) × (other ≡ None)
first_none None other is = (refl, is)
first_none (Some y) other is = absurd cc

in_leaf : (p at q : ℕ) (x : ℕ × ℕ) (test : Bool) → eqb p q ≡ test → cond test (Some (at, 0)) None ≡ Some x
    → IsFound (λ f n. IsWithin f n at (leaf q)) p x
in_leaf p at q x true same is =
    let it : (at, 0) ≡ x = pair_some (at, 0) x is in
    let At : ℕ × ℕ → Type 0 = λ y. IsFound (λ f n. IsWithin f n at (leaf q)) p y in
    subst At it (record { node = leaf q; stands = (refl, refl); at = sym (eqb-true p q same); high = refl })
in_leaf p at q x false same is = absurd (let e : ◌≡◌ {A = Option (ℕ × ℕ)} None (Some x) = is in cc)

in_branch : (p at q : ℕ) (left right : Tree) (x : ℕ × ℕ) (test : Bool) → eqb p q ≡ test
    → ((y : ℕ × ℕ) → found_in p at left ≡ Some y → IsFound (λ f n. IsWithin f n at left) p y)
    → ((y : ℕ × ℕ) → found_in p (at + leaf_count left) right ≡ Some y
    → IsFound (λ f n. IsWithin f n (at + leaf_count left) right) p y)
    → cond test (Some (at, height (branch q left right))) (first_there (found_in p at left) (found_in p (at
    + leaf_count left) right)) ≡ Some x
    → IsFound (λ f n. IsWithin f n at (branch q left right)) p x
in_branch p at q left right x true same one other is =
    let it : (at, height (branch q left right)) ≡ x = pair_some (at, height (branch q left right)) x is in
    let At : ℕ × ℕ → Type 0 = λ y. IsFound (λ f n. IsWithin f n at (branch q left right)) p y in
    subst At it (record {
      node = branch q left right;
      stands = inl (refl, refl);
      at = sym (eqb-true p q same);
      high = refl;
    })
in_branch p at q left right x false same one other is =
    ⊎_elim
    (λ here. found_more (λ f n. IsWithin f n at left) (λ f n. IsWithin f n at (branch q left right)) p x
    (λ f n w. inr (inl w)) (one x here))
    (λ there. found_more (λ f n. IsWithin f n (at + leaf_count left) right)
    (λ f n. IsWithin f n at (branch q left right)) p x
    (λ f n w. inr (inr w)) (other x there))
    (first_is (found_in p at left) (found_in p (at + leaf_count left) right) x is)

found_tree : (p at : ℕ) (t : Tree) (x : ℕ × ℕ) → found_in p at t ≡ Some x → IsFound (λ f n. IsWithin f n at t) p x
found_tree p at (leaf q) x is = in_leaf p at q x (eqb p q) refl is
found_tree p at (branch q left right) x is =
    in_branch p at q left right x (eqb p q) refl (found_tree p at left) (found_tree p (at + leaf_count left) right) is

found_forest : (p : ℕ) (ts : List Tree) (x : ℕ × ℕ) → found_among p ts ≡ Some x → IsFound (λ f n. IsNodeAt f n ts) p x
found_forest p [] x is = absurd (let e : ◌≡◌ {A = Option (ℕ × ℕ)} None (Some x) = is in cc)
found_forest p (t ∷ ts) x is =
    ⊎_elim
    (λ here. found_more (λ f n. IsWithin f n (leaves ts) t) (λ f n. IsNodeAt f n (t ∷ ts)) p x (λ f n w. inl w)
    (found_tree p (leaves ts) t x here))
    (λ there. found_more (λ f n. IsNodeAt f n ts) (λ f n. IsNodeAt f n (t ∷ ts)) p x (λ f n w. inr w)
    (found_forest p ts x there))
    (first_is (found_in p (leaves ts) t) (found_among p ts) x is)

-- where none is found none is there
not_leaf : (p at q : ℕ) (test : Bool) → eqb p q ≡ test → cond {A =
    Option (ℕ × ℕ)} test (Some (at, 0)) None ≡ None → p ≡ q → ⊥
not_leaf p at q true same is at_q = let e : ◌≡◌ {A = Option (ℕ × ℕ)} (Some (at, 0)) None = is in cc
not_leaf p at q false same is at_q = let e : true ≡ false = sym (eq-eqb p q at_q) ∙ same in cc

not_branch : (p at q : ℕ) (left right : Tree) (test : Bool) → eqb p q ≡ test
    → (found_in p at left ≡ None → (f : ℕ) (n : Tree) → IsWithin f n at left → position n ≡ p → ⊥)
    → (found_in p (at + leaf_count left) right ≡ None → (f : ℕ) (n : Tree)
    → IsWithin f n (at + leaf_count left) right → position n ≡ p → ⊥)
    → cond test (Some (at, height (branch q left right))) (first_there (found_in p at left) (found_in p (at
    + leaf_count left) right)) ≡ None
    → (f : ℕ) (n : Tree) → IsWithin f n at (branch q left right) → position n ≡ p → ⊥
not_branch p at q left right true same one other is f n w at_p =
    let e : ◌≡◌ {A = Option (ℕ × ℕ)} (Some (at, height (branch q left right))) None = is in cc
not_branch p at q left right false same one other is f n (inl here) at_p =
    let e : true ≡ false = sym (eq-eqb p q (sym at_p ∙ ap position here.1)) ∙ same in cc
not_branch p at q left right false same one other is f n (inr (inl w)) at_p =
    one (first_none (found_in p at left) (found_in p (at + leaf_count left) right) is).0 f n w at_p
not_branch p at q left right false same one other is f n (inr (inr w)) at_p =
    other (first_none (found_in p at left) (found_in p (at + leaf_count left) right) is).1 f n w at_p

no_tree : (p at : ℕ) (t : Tree) → found_in p at t ≡ None → (f : ℕ) (n : Tree) → IsWithin f n at t → position n ≡ p → ⊥
no_tree p at (leaf q) is f n w at_p = not_leaf p at q (eqb p q) refl is (sym at_p ∙ ap position w.1)
no_tree p at (branch q left right) is f n w at_p =
    not_branch p at q left right (eqb p q) refl (no_tree p at left) (no_tree p (at
    + leaf_count left) right) is f n w at_p

no_forest : (p : ℕ) (ts : List Tree) → found_among p ts ≡ None → (f : ℕ) (n : Tree)
    → IsNodeAt f n ts → position n ≡ p → ⊥
no_forest p [] is f n stands at_p = stands
no_forest p (t ∷ ts) is f n (inl w) at_p =
    no_tree p (leaves ts) t (first_none (found_in p (leaves ts) t) (found_among p ts) is).0 f n w at_p
no_forest p (t ∷ ts) is f n (inr stands) at_p =
    no_forest p ts (first_none (found_in p (leaves ts) t) (found_among p ts) is).1 f n stands at_p

-- a node of a forest is found at its position
found_is : (rule : Rule) → IsPairing rule → (first p h : ℕ) → (got : Option (ℕ × ℕ))
    → found_among p (forest_of rule (2 ^ 62)) ≡ got
    → HasTree rule first p h → got ≡ Some (first, h)
found_is rule pairs first p h None is it =
    absurd (no_forest p (forest_of rule (2 ^ 62)) is first it.0
    (node-stays rule pairs it.1.leaf_total (2 ^ 62) first it.0 it.1.few it.1.stands) (sym it.1.subtree))
found_is rule pairs first p h (Some x) is it =
    let found = found_forest p (forest_of rule (2 ^ 62)) x is in
    let same = one-node rule pairs (2 ^ 62) it.1.leaf_total x.0 first found.node it.0 found.stands it.1.stands
    (found.at ∙ it.1.subtree) in
    let high : x.1 ≡ h = found.high ∙ ap height same.1 ∙ sym it.1.level in
    let both_are : ◌≡◌ {A = ℕ × ℕ} x (first, h) = ap (λ k. (k, x.1)) same.0 ∙ ap (λ k. (first, k)) high in
    ap (λ y. Some y) both_are

pub node_at-is : (rule : Rule) → IsPairing rule → (first p h : ℕ) → HasTree rule first p h
    → node_at rule p ≡ Some (first, h)
unfolding node_at
node_at-is rule pairs first p h it = found_is rule pairs first p h (found_among p (forest_of rule (2 ^ 62))) refl it

-- past the greatest forest there is none
found_none : (rule : Rule) → IsPairing rule → (p : ℕ) → (got : Option (ℕ × ℕ))
    → found_among p (forest_of rule (2 ^ 62)) ≡ got
    → size (forest_of rule (2 ^ 62)) ≤ p → got ≡ None
found_none rule pairs p None is past = refl
found_none rule pairs p (Some x) is past =
    let found = found_forest p (forest_of rule (2 ^ 62)) x is in
    absurd (omega (arith, past, found.at, (numbered rule pairs (2 ^ 62)).below x.0 found.node found.stands))

pub node_at-none : (rule : Rule) → IsPairing rule → (p : ℕ) → size (forest_of rule (2 ^ 62)) ≤ p → node_at rule p ≡ None
unfolding node_at
node_at-none rule pairs p past = found_none rule pairs p (found_among p (forest_of rule (2 ^ 62))) refl past

-- what is found is a node of the greatest forest
pub node_at-tree : (rule : Rule) (p : ℕ) (x : ℕ × ℕ) → node_at rule p ≡ Some x → HasTree rule x.0 p x.1
unfolding node_at
node_at-tree rule p x is =
    let it = found_forest p (forest_of rule (2 ^ 62)) x is in (
      it.node,
      record {
        leaf_total = 2 ^ 62;
        few = omega arith;
        stands = it.stands;
        subtree = sym it.at;
        level = it.high;
      },
    )

-- a chunk that is not given is not joined in
no_given : (hash : Hash) (given : Given) (width index : ℕ) (d : List ℕ) (test : Bool)
    → grafted hash (cond test (slice_index_or given.chunks (index
    - given.first) (replicate width 0)) (replicate width 0)) d
    ≡ grafted hash (cond test (slice_index_or given.chunks (index - given.first) []) []) d
no_given hash given width index d true = no_chunk hash width given.chunks (index - given.first) d
no_given hash given width index d false = no_chunk hash width [] 0 d

-- at a node that begins at a location
pub joined_is : (hash : Hash) (given : Given) (width first h : ℕ) (d : List ℕ) (test : Bool)
    → cond test (grafted hash (claimed_chunk given width first) d) d
    ≡ grafted hash (cond test (given_chunk given [] (first / 2 ^ given.grafting_height)) []) d
joined_is hash given width first h d true =
    no_given hash given width (first / 2 ^ given.grafting_height) d
    (ltb (first / 2 ^ given.grafting_height) given.graftable && leb given.first (first / 2 ^ given.grafting_height))
joined_is hash given width first h d false = refl

-- the hasher hashes leaves and branches as the grafted tree is made
pub hashes_grafted : (rule : Rule) → IsPairing rule → (hash : Hash) (given : Given) (width : ℕ)
    → HashesAs rule hash (λ p element. hash (leaf_string p element)) (grafted_node rule hash given)
    (grafted_over given.grafting_height (claimed_chunk given width))
hashes_grafted rule pairs hash given width = record {
  leaf = λ p element. refl;
  branch = λ at high p left right tree.
      let string : List ℕ = node_string p (value hash left) (value hash right) in
      value_case hash p (both (bytes (number p)) (both left right)) (claimed_chunk given width at)
      (eqb high given.grafting_height)
      (ltb high given.grafting_height)
      ∙ joined_is hash given width at high (hash string) (eqb high given.grafting_height)
      ∙ ap (λ found. grafted hash (joined_chunk given found) (hash string))
      (sym (node_at-is rule pairs at p high tree));
}

-- what is joined in at a node that is found
pub not_at_height : (given : Given) (found : Option (ℕ × ℕ)) (first h : ℕ) → found ≡ Some (first, h)
    → (h ≡ given.grafting_height → ⊥)
    → ◌≡◌ {A = List ℕ} [] (joined_chunk given found)
not_at_height given found first h is other =
    sym (ap (λ b. cond b (given_chunk given [] (first / 2 ^ given.grafting_height)) [])
    (ne_eqb h given.grafting_height other))
    ∙ ap (joined_chunk given) (sym is)

pub at_height_is : (given : Given) (found : Option (ℕ × ℕ)) (first h index : ℕ) → found ≡ Some (first, h)
    → h ≡ given.grafting_height
    → index ≡ first / 2 ^ h → joined_chunk given found ≡ given_chunk given [] index
at_height_is given found first h index is same at =
    ap (joined_chunk given) is
    ∙ ap (λ b. cond b (given_chunk given [] (first / 2 ^ given.grafting_height)) [])
    (eq-eqb h given.grafting_height same)
    ∙ ap (given_chunk given []) (ap (λ k. first / 2 ^ k) (sym same) ∙ sym at)

and_off : (a b : Bool) → (a ≡ false) ⊎ (b ≡ false) → (a && b) ≡ false
and_off false b off = refl
and_off true b (inl off) = absurd cc
and_off true b (inr off) = off

and_on : (a b : Bool) → a ≡ true → b ≡ true → (a && b) ≡ true
and_on a b one other = rw (one, other) refl

pub not_given : (given : Given) (index : ℕ) → (given.graftable ≤ index) ⊎ (index < given.first) → ◌≡◌ {A =
    List ℕ} [] (given_chunk given [] index)
not_given given index off =
    sym (ap (λ b. cond b (slice_index_or given.chunks (index - given.first) []) [])
    (and_off (ltb index given.graftable) (leb given.first index)
    (⊎_elim (λ past. inl (le-ltb index given.graftable past)) (λ before. inr (lt-leb given.first index before)) off)))

pub is_given : (given : Given) (index : ℕ) → index < given.graftable → given.first ≤ index
    → slice_index_or given.chunks (index - given.first) [] ≡ given_chunk given [] index
is_given given index low high =
    sym (ap (λ b. cond b (slice_index_or given.chunks (index - given.first) []) [])
    (and_on (ltb index given.graftable) (leb given.first index) (lt-ltb index given.graftable low)
    (le-leb given.first index high)))

-- each chunk that is claimed has the width
all_index : (width : ℕ) (chunks : List (List ℕ)) (i : ℕ) (none : List ℕ) → ((k : ℕ) → k < length chunks
    → length (slice_index_or chunks k none) ≡ width) → length none ≡ width
    → length (slice_index_or chunks i none) ≡ width
all_index width [] i none wide is = is
all_index width (c ∷ chunks) zero none wide is = wide 0 (omega arith)
all_index width (c ∷ chunks) (suc i) none wide is =
    all_index width chunks i none (λ k lt. wide (suc k) (omega (arith, lt))) is

given_wide : (width : ℕ) (given : Given) (index : ℕ) (test : Bool)
    → ((k : ℕ) → k < length given.chunks → length (slice_index_or given.chunks k (replicate width 0)) ≡ width)
    → length (cond test (slice_index_or given.chunks (index - given.first) (replicate width 0)) (replicate width 0))
    ≡ width
given_wide width given index true wide =
    all_index width given.chunks (index - given.first) (replicate width 0) wide (length-replicate width 0)
given_wide width given index false wide = length-replicate width 0

pub claimed-wide : (width : ℕ) (given : Given) (at : ℕ)
    → ((k : ℕ) → k < length given.chunks → length (slice_index_or given.chunks k (replicate width 0)) ≡ width)
    → length (claimed_chunk given width at) ≡ width
claimed-wide width given at wide =
    given_wide width given (at / 2 ^ given.grafting_height)
    (ltb (at / 2 ^ given.grafting_height) given.graftable && leb given.first (at / 2 ^ given.grafting_height)) wide
