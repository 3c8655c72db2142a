-- Nodes told by their first leaf and height, and the positions of the operations at which the chunks' branches are
-- hashed.
use Rattle.std.proofs.Common.{◌≡◌, ◌⊎◌, inl, inr, ⊎_elim, ℕ, ◌+◌, ◌*◌}
use Rattle.std.proofs.Common.{◌/◌, ◌%◌, ◌^◌, ◌<◌, ◌≤◌, eqb, cond, ◌&&◌, Bool}
use Rattle.std.proofs.Common.{true, false, List, [], ◌∷◌, Option, None, Some, option_map, refl, sym, ◌∙◌, ap, subst}
use Rattle.std.proofs.Common.{arith}
use Rattle.std.specs.Option.{option_or}
use Rattle.std.specs.Prelude.{unwrap_or}
use Rattle.std.proofs.lemmas.Bool.{eqb-true, eq-eqb}
use Rattle.std.proofs.lemmas.Nat.{pow_pos, pow-add, one_shl}
use Rattle.std.proofs.Math.Nat.{mul_assoc, mul-le-mul_left}
use Rattle.merkle_forest.specs.Forest.{Tree, leaf, branch, position, height, leaf_count, leaves, Rule, forest_of}
use Rattle.merkle_forest.specs.Laws.NodeGrowth.{node-stays, one-node}
use Rattle.merkle_forest.specs.Laws.Nodes.{node-low}
use Rattle.merkle_forest.specs.Nodes.{IsWithin, IsNodeAt, HasNode, IsSubtree, IsBirth}
use Rattle.merkle_forest.specs.Perfect.{IsPairing}
use Rattle.state_theory.specs.GraftedNodes.{over_in, over_among, node_over, position_or, operations_position}
use Rattle.state_theory.specs.Verifier.{node_at}

-- ---- what is found begins there and has that height
record IsOver (At : ℕ → Tree → Type 0) (first high : ℕ) (t : Tree) : Type 0 where
  pub stands : At first t
  pub level : height t ≡ high

over_more : (A B : ℕ → Tree → Type 0) (first high : ℕ) (t : Tree) → ((f : ℕ) (n : Tree) → A f n → B f n)
    → IsOver A first high t → IsOver B first high t
over_more A B first high t more it = record { stands = more first t it.stands; level = it.level }

some_tree : (x y : Tree) → ◌≡◌ {A = Option Tree} (Some x) (Some y) → x ≡ y
some_tree x y same = cc

both_true : (a b : Bool) → (a && b) ≡ true → (a ≡ true) × (b ≡ true)
both_true true b is = (refl, is)
both_true false b is = absurd (let e : false ≡ true = is in cc)

either : (one other : Option Tree) (x : Tree) → option_or one other ≡ Some x → (one ≡ Some x) ⊎ (other ≡ Some x)
either None other x is = inr is
either (Some y) other x is = inl is

neither : (one other : Option Tree) → option_or one other ≡ None → (one ≡ None) × (other ≡ None)
neither None other is = (refl, is)
neither (Some y) other is = absurd (let e : ◌≡◌ {A = Option Tree} (Some y) None = is in cc)

-- the tree itself
self_over : (At : ℕ → Tree → Type 0) (first high at : ℕ) (t u : Tree) → At at t
    → (eqb at first && eqb (height t) high) ≡ true
    → ◌≡◌ {A = Option Tree} (Some t) (Some u) → IsOver At first high u
self_over At first high at t u stands same is =
    let tests = both_true (eqb at first) (eqb (height t) high) same in
    let here : At first t = subst (λ k. At k t) (eqb-true at first tests.0) stands in
    subst (IsOver At first high) (some_tree t u is) (record { stands = here; level = eqb-true (height t) high tests.1 })

leaf_over : (first high at p : ℕ) (u : Tree) (test : Bool) → (eqb at first && eqb (height (leaf p)) high) ≡ test
    → cond test (Some (leaf p)) None ≡ Some u → IsOver (λ f n. IsWithin f n at (leaf p)) first high u
leaf_over first high at p u true same is =
    self_over (λ f n. IsWithin f n at (leaf p)) first high at (leaf p) u (refl, refl) same is
leaf_over first high at p u false same is = absurd (let e : ◌≡◌ {A = Option Tree} None (Some u) = is in cc)

branch_over : (first high at p : ℕ) (left right u : Tree) (test : Bool)
    → (eqb at first && eqb (height (branch p left right)) high) ≡ test
    → ((v : Tree) → over_in first high at left ≡ Some v → IsOver (λ f n. IsWithin f n at left) first high v)
    → ((v : Tree) → over_in first high (at + leaf_count left) right ≡ Some v
    → IsOver (λ f n. IsWithin f n (at + leaf_count left) right) first high v)
    → cond test (Some (branch p left right))
    (option_or (over_in first high at left) (over_in first high (at + leaf_count left) right)) ≡ Some u
    → IsOver (λ f n. IsWithin f n at (branch p left right)) first high u
branch_over first high at p left right u true same one other is =
    self_over (λ f n. IsWithin f n at (branch p left right)) first high at (branch p left right) u
    (inl (refl, refl)) same is
branch_over first high at p left right u false same one other is =
    ⊎_elim
    (λ here. over_more (λ f n. IsWithin f n at left) (λ f n. IsWithin f n at (branch p left right)) first high u
    (λ f n w. inr (inl w)) (one u here))
    (λ there. over_more (λ f n. IsWithin f n (at + leaf_count left) right)
    (λ f n. IsWithin f n at (branch p left right))
    first high u (λ f n w. inr (inr w)) (other u there))
    (either (over_in first high at left) (over_in first high (at + leaf_count left) right) u is)

tree_over : (first high at : ℕ) (t u : Tree) → over_in first high at t ≡ Some u
    → IsOver (λ f n. IsWithin f n at t) first high u
tree_over first high at (leaf p) u is = leaf_over first high at p u (eqb at first && eqb (height (leaf p)) high) refl is
tree_over first high at (branch p left right) u is =
    branch_over first high at p left right u (eqb at first && eqb (height (branch p left right)) high) refl
    (tree_over first high at left) (tree_over first high (at + leaf_count left) right) is

forest_over : (first high : ℕ) (ts : List Tree) (u : Tree) → over_among first high ts ≡ Some u
    → IsOver (λ f n. IsNodeAt f n ts) first high u
forest_over first high [] u is = absurd (let e : ◌≡◌ {A = Option Tree} None (Some u) = is in cc)
forest_over first high (t ∷ ts) u is =
    ⊎_elim
    (λ here. over_more (λ f n. IsWithin f n (leaves ts) t) (λ f n. IsNodeAt f n (t ∷ ts)) first high u (λ f n w. inl w)
    (tree_over first high (leaves ts) t u here))
    (λ there. over_more (λ f n. IsNodeAt f n ts) (λ f n. IsNodeAt f n (t ∷ ts)) first high u (λ f n w. inr w)
    (forest_over first high ts u there))
    (either (over_in first high (leaves ts) t) (over_among first high ts) u is)

-- ---- where none is found none is there
both_is : (a b : Bool) → a ≡ true → b ≡ true → (a && b) ≡ true
both_is a b one other = rw (one, other) refl

not_self : (first high at : ℕ) (t n : Tree) (test : Bool)
    → (eqb at first && eqb (height t) high) ≡ test → (test ≡ true → ⊥)
    → first ≡ at → n ≡ t → height n ≡ high → ⊥
not_self first high at t n test same not begins is level =
    not (sym same ∙ both_is (eqb at first) (eqb (height t) high) (eq-eqb at first (sym begins))
    (eq-eqb (height t) high (ap height (sym is) ∙ level)))

not_true : (test : Bool) (rest : Option Tree) (t : Tree) → cond test (Some t) rest ≡ None → test ≡ true → ⊥
not_true true rest t is on = let e : ◌≡◌ {A = Option Tree} (Some t) None = is in cc
not_true false rest t is on = let e : false ≡ true = on in cc

is_rest : (test : Bool) (rest : Option Tree) (t : Tree) → cond test (Some t) rest ≡ None → rest ≡ None
is_rest true rest t is = absurd (let e : ◌≡◌ {A = Option Tree} (Some t) None = is in cc)
is_rest false rest t is = is

no_tree : (first high at : ℕ) (t : Tree) → over_in first high at t ≡ None → (n : Tree)
    → IsWithin first n at t → height n ≡ high → ⊥
no_tree first high at (leaf p) is n within level =
    let test : Bool = eqb at first && eqb (height (leaf p)) high in
    not_self first high at (leaf p) n test refl (not_true test None (leaf p) is) within.0 within.1 level
no_tree first high at (branch p left right) is n (inl here) level =
    let test : Bool = eqb at first && eqb (height (branch p left right)) high in
    let rest : Option Tree = option_or (over_in first high at left) (over_in first high (at + leaf_count left) right) in
    not_self first high at (branch p left right) n test refl
    (not_true test rest (branch p left right) is) here.0 here.1 level
no_tree first high at (branch p left right) is n (inr (inl within)) level =
    let test : Bool = eqb at first && eqb (height (branch p left right)) high in
    let rest : Option Tree = option_or (over_in first high at left) (over_in first high (at + leaf_count left) right) in
    no_tree first high at left
    (neither (over_in first high at left) (over_in first high (at + leaf_count left) right)
    (is_rest test rest (branch p left right) is)).0 n within level
no_tree first high at (branch p left right) is n (inr (inr within)) level =
    let test : Bool = eqb at first && eqb (height (branch p left right)) high in
    let rest : Option Tree = option_or (over_in first high at left) (over_in first high (at + leaf_count left) right) in
    no_tree first high (at + leaf_count left) right
    (neither (over_in first high at left) (over_in first high (at + leaf_count left) right)
    (is_rest test rest (branch p left right) is)).1 n within level

no_forest : (first high : ℕ) (ts : List Tree) → over_among first high ts ≡ None → (n : Tree)
    → IsNodeAt first n ts → height n ≡ high → ⊥
no_forest first high [] is n stands level = stands
no_forest first high (t ∷ ts) is n (inl within) level =
    no_tree first high (leaves ts) t (neither (over_in first high (leaves ts) t)
    (over_among first high ts) is).0 n within level
no_forest first high (t ∷ ts) is n (inr stands) level =
    no_forest first high ts (neither (over_in first high (leaves ts) t) (over_among first high ts) is).1 n stands level

-- ---- in the greatest forest
-- the law that a node's position is that of its first leaf and its height
abbrev pub Roots : Rule → (ℕ → ℕ → ℕ) → Type 0
Roots rule root =
    (n first : ℕ) (node : Tree) → IsNodeAt first node (forest_of rule n) → position node ≡ root first (height node)

pub node_over-some : (rule : Rule) (first high : ℕ) (t : Tree) → node_over rule first high ≡ Some t
    → IsNodeAt first t (forest_of rule (2 ^ 62)) × (height t ≡ high)
unfolding node_over
node_over-some rule first high t is =
    let it = forest_over first high (forest_of rule (2 ^ 62)) t is in
    (it.stands, it.level)

over_is : (rule : Rule) (root : ℕ → ℕ → ℕ) → IsPairing rule → Roots rule root
    → (first : ℕ) (t : Tree) (got : Option Tree)
    → over_among first (height t) (forest_of rule (2 ^ 62)) ≡ got
    → IsNodeAt first t (forest_of rule (2 ^ 62)) → got ≡ Some t
over_is rule root pairs roots first t None is stands =
    absurd (no_forest first (height t) (forest_of rule (2 ^ 62)) is t stands refl)
over_is rule root pairs roots first t (Some u) is stands =
    let it = forest_over first (height t) (forest_of rule (2 ^ 62)) u is in
    let at : position u ≡ position t =
    roots (2 ^ 62) first u it.stands ∙ ap (root first) it.level ∙ sym (roots (2 ^ 62) first t stands) in
    ap (λ x. Some x) (one-node rule pairs (2 ^ 62) (2 ^ 62) first first u t it.stands stands at).1

-- a node of a forest is the one over its leaves
pub node_over-is : (rule : Rule) (root : ℕ → ℕ → ℕ) → IsPairing rule → Roots rule root
    → (n first high : ℕ) (t : Tree) → n ≤ 2 ^ 62
    → IsNodeAt first t (forest_of rule n) → high ≡ height t → node_over rule first high ≡ Some t
unfolding node_over
node_over-is rule root pairs roots n first high t few stands level =
    ap (λ h. over_among first h (forest_of rule (2 ^ 62))) level
    ∙ over_is rule root pairs roots first t (over_among first (height t) (forest_of rule (2 ^ 62))) refl
    (node-stays rule pairs n (2 ^ 62) first t few stands)

over_none : (rule : Rule) (first high : ℕ) (got : Option Tree) → over_among first high (forest_of rule (2 ^ 62)) ≡ got
    → (HasNode (forest_of rule (2 ^ 62)) first high → ⊥) → got ≡ None
over_none rule first high None is none = refl
over_none rule first high (Some u) is none =
    absurd (let it = forest_over first high (forest_of rule (2 ^ 62)) u is in none (u, it.stands, sym it.level))

pub node_over-none : (rule : Rule) (first high : ℕ) → (HasNode (forest_of rule (2 ^ 62)) first high → ⊥)
    → node_over rule first high ≡ None
unfolding node_over
node_over-none rule first high none =
    over_none rule first high (over_among first high (forest_of rule (2 ^ 62))) refl none

-- ---- the node over the operations of so many chunks
-- the code's first location is the product
pub begins : (chunk level first : ℕ) → level ≤ 62 → first ≡ chunk * (1 * 2 ^ level % 2 ^ 64) → first ≡ chunk * 2 ^ level
begins chunk level first low is = is ∙ ap (λ k. chunk * k) (one_shl level 64 (omega (arith, low)))

-- it is a multiple of the node's leaf count
abbrev pub Aligned : Rule → Type 0
Aligned rule =
    (n first : ℕ) (node : Tree) → IsNodeAt first node (forest_of rule n) → (chunk : ℕ)
    × (first ≡ chunk * 2 ^ height node)

pub spread : (rule : Rule) → Aligned rule → (chunk h level : ℕ) → IsSubtree rule chunk h
    → (c : ℕ) × (chunk * 2 ^ level ≡ c * 2 ^ (h + level))
spread rule aligned chunk h level it =
    let part = aligned it.0 chunk it.2.0 it.2.1 in
    let c : ℕ = part.0 in
    let high : chunk ≡ c * 2 ^ h = part.1 ∙ ap (λ k. c * 2 ^ k) (sym it.2.2) in
    (c, ap (λ k. k * 2 ^ level) high ∙ mul_assoc c (2 ^ h) (2 ^ level) ∙ ap (λ k. c * k) (sym (pow-add 2 h level)))

past_quotient : (chunk p m : ℕ) → 0 < p → m / p < chunk → m < chunk * p
past_quotient chunk p m some past =
    let more : m / p + 1 ≤ chunk = omega (arith, past) in
    omega (arith, mul-le-mul_left p more, some)

-- no node is higher, begins later, or stands before its birth
pub too_high : (rule : Rule) → IsPairing rule → (first high : ℕ) → 62 < high → node_over rule first high ≡ None
too_high rule pairs first high past =
    node_over-none rule first high
    (λ it. (let low = node-low rule pairs (2 ^ 62) first high it.0 (omega arith) it.1 it.2 in
    omega (arith, past, low.1)))

pub too_late : (rule : Rule) → IsPairing rule → (chunk level high : ℕ) → 2 ^ 62 / 2 ^ level < chunk
    → node_over rule (chunk * 2 ^ level) high ≡ None
too_late rule pairs chunk level high past =
    node_over-none rule (chunk * 2 ^ level) high
    (λ it. (let low = node-low rule pairs (2 ^ 62) (chunk * 2 ^ level) high it.0 (omega arith) it.1 it.2 in
    omega (arith, past_quotient chunk (2 ^ level) (2 ^ 62) (pow_pos level) past, low.0)))

abbrev pub Births : Rule → (ℕ → ℕ → ℕ) → Type 0
Births rule birth = (chunk h : ℕ) → IsBirth rule (chunk * 2 ^ h) h (birth (chunk * 2 ^ h) h)

is_birth : (rule : Rule) (birth : ℕ → ℕ → ℕ) → Births rule birth → (c first high : ℕ) → first ≡ c * 2 ^ high
    → IsBirth rule first high (birth first high)
is_birth rule birth births c first high at = subst (λ k. IsBirth rule k high (birth k high)) (sym at) (births c high)

pub not_born : (rule : Rule) (birth : ℕ → ℕ → ℕ) → Births rule birth → (c first high : ℕ) → first ≡ c * 2 ^ high
    → 2 ^ 62 < birth first high → node_over rule first high ≡ None
not_born rule birth births c first high at past =
    node_over-none rule first high
    (λ it. omega (arith, past, (is_birth rule birth births c first high at (2 ^ 62)).0 it))

pub is_born : (rule : Rule) (birth : ℕ → ℕ → ℕ) → Births rule birth → (c first high : ℕ) → first ≡ c * 2 ^ high
    → birth first high ≤ 2 ^ 62 → HasNode (forest_of rule (2 ^ 62)) first high
is_born rule birth births c first high at soon = (is_birth rule birth births c first high at (2 ^ 62)).1 soon

-- its position
pub placed_over : (rule : Rule) (root : ℕ → ℕ → ℕ) → IsPairing rule → Roots rule root → (first high : ℕ)
    → HasNode (forest_of rule (2 ^ 62)) first high
    → Some (root first high) ≡ option_map position (node_over rule first high)
placed_over rule root pairs roots first high it =
    ap (λ p. Some p) (ap (root first) it.2 ∙ sym (roots (2 ^ 62) first it.0 it.1))
    ∙ sym (ap (option_map position) (node_over-is rule root pairs roots (2 ^ 62) first high it.0
    (omega arith) it.1 it.2))

-- ---- the position at which a branch of the tree of the chunks is hashed
pub position-none : (rule : Rule) (level p : ℕ) → node_at rule p ≡ None → p ≡ operations_position rule level p
unfolding operations_position
position-none rule level p none = sym (ap (position_or rule level p) none)

pub position-some : (rule : Rule) (level p first chunk high q : ℕ) → node_at rule p ≡ Some (first, high) → chunk ≡ first
    → Some q ≡ option_map position (node_over rule (chunk * 2 ^ level) (high + level))
    → q ≡ operations_position rule level p
unfolding operations_position
position-some rule level p first chunk high q at same is =
    ap (λ o. unwrap_or o p) is
    ∙ ap (λ k. unwrap_or (option_map position (node_over rule (k * 2 ^ level) (high + level))) p) same
    ∙ sym (ap (position_or rule level p) at)

pub position-missing : (rule : Rule) (level p first chunk high : ℕ)
    → node_at rule p ≡ Some (first, high) → chunk ≡ first
    → None ≡ option_map position (node_over rule (chunk * 2 ^ level) (high + level))
    → p ≡ operations_position rule level p
unfolding operations_position
position-missing rule level p first chunk high at same is =
    ap (λ o. unwrap_or o p) is
    ∙ ap (λ k. unwrap_or (option_map position (node_over rule (k * 2 ^ level) (high + level))) p) same
    ∙ sym (ap (position_or rule level p) at)
