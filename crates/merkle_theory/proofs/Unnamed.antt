-- The nodes that hold no named leaf, as a walk from left to right finds them.
use Rattle.std.proofs.Common.{◌≡◌, ℕ, suc, ◌+◌, ◌<◌, ◌≤◌, ◌⊎◌, inl, inr, Option, Some, None, Bool, true, false, ◌&&◌}
use Rattle.std.proofs.Common.{◌||◌, cond, drop, List, [], ◌∷◌, ◌++◌, refl, sym, ◌∙◌, ap, ap₂, subst, arith}
use Rattle.std.proofs.lemmas.Bool.{lt-leb, le-leb, lt-ltb, le-ltb, ltb-true, ltb-false, cases_lt}
use Rattle.std.proofs.lemmas.List.{append_assoc}
use Rattle.std.specs.Prelude.{nat_le, nat_lt}
use Rattle.merkle_forest.specs.Forest.{Tree, leaf, branch, position, height, leaf_count, Rule}
use Rattle.merkle_forest.specs.Trees.{Located, end_of}
use Rattle.merkle_theory.specs.Multi.{is_named, unnamed_nodes, multi_nodes, AscendFrom, AllBelow, is_next, AreFound, first_bad}
use Rattle.merkle_theory.specs.Plans.{positions_of}
use Rattle.merkle_theory.specs.Reads.{AreChildTrees}
use Rattle.merkle_theory.specs.Subtrees.{IsTreeAt}
use Rattle.merkle_theory.proofs.Walks.{AllFrom}
use Rattle.merkle_theory.proofs.PlanNodes.{after_both, after_none}

-- a location names a leaf of the tree, or does not
abbrev pub names : ℕ → ℕ → ℕ → Bool
names first end l = nat_le first l && nat_lt l end

pub names_before : (first end l : ℕ) → l < first → names first end l ≡ false
names_before first end l lt = ap (λ b. b && nat_lt l end) (lt-leb first l lt)

pub names_in : (first end l : ℕ) → first ≤ l → l < end → names first end l ≡ true
names_in first end l low high = ap₂ (λ a b. a && b) (le-leb first l low) (lt-ltb l end high)

pub names_after : (first end l : ℕ) → first ≤ l → end ≤ l → names first end l ≡ false
names_after first end l low high = ap₂ (λ a b. a && b) (le-leb first l low) (le-ltb l end high)

pub ascend_later : (low more : ℕ) (locations : List ℕ) → low ≤ more → AscendFrom more locations → AscendFrom low locations
ascend_later low more [] le up = tt
ascend_later low more (l ∷ locations) le up = (omega (arith, le, up.0), up.1)

below_later : (end more : ℕ) (locations : List ℕ) → end ≤ more → AllBelow end locations → AllBelow more locations
below_later end more [] le all = tt
below_later end more (l ∷ locations) le all = (omega (arith, le, all.0), below_later end more locations le all.1)

below_append : (end : ℕ) (one two : List ℕ) → AllBelow end one → AllBelow end two → AllBelow end (one ++ two)
below_append end [] two a b = b
below_append end (l ∷ one) two a b = (a.0, below_append end one two a.1 b)

-- locations before the tree name none of its leaves
named_dropped : (front rest : List ℕ) (tree : Located) → AllBelow tree.0 front → is_named (front ++ rest) tree ≡ is_named rest tree
named_dropped [] rest tree below = refl
named_dropped (l ∷ front) rest tree below =
    ap (λ b. b || is_named (front ++ rest) tree) (names_before tree.0 (end_of tree) l below.0) ∙ named_dropped front rest tree below.1

-- nor do those after it
named_later : (low : ℕ) (locations : List ℕ) (tree : Located) → end_of tree ≤ low → AscendFrom low locations → is_named locations tree ≡ false
named_later low [] tree le up = refl
named_later low (l ∷ locations) tree le up =
    ap (λ b. b || is_named locations tree) (names_after tree.0 (end_of tree) l (omega (arith, le, up.0)) (omega (arith, le, up.0)))
    ∙ named_later (suc l) locations tree (omega (arith, le, up.0)) up.1

named_here : (l : ℕ) (locations : List ℕ) (tree : Located) → tree.0 ≤ l → l < end_of tree → is_named (l ∷ locations) tree ≡ true
named_here l locations tree low high = ap (λ b. b || is_named locations tree) (names_in tree.0 (end_of tree) l low high)

pub unnamed_test : (locations : List ℕ) (at p : ℕ) (left right : Tree) (b : Bool) → is_named locations (at, branch p left right) ≡ b
    → unnamed_nodes locations at (branch p left right) ≡ cond b (unnamed_nodes locations at left ++ unnamed_nodes locations (at + leaf_count left) right)
    ((at, branch p left right) ∷ [])
unnamed_test locations at p left right b is = rw is refl

pub unnamed_leaf : (locations : List ℕ) (at p : ℕ) (b : Bool) → is_named locations (at, leaf p) ≡ b
    → unnamed_nodes locations at (leaf p) ≡ cond b [] ((at, leaf p) ∷ [])
unnamed_leaf locations at p b is = rw is refl

-- a tree without a named leaf
pub unnamed_none : (locations : List ℕ) (at : ℕ) (t : Tree) → is_named locations (at, t) ≡ false → unnamed_nodes locations at t ≡ (at, t) ∷ []
unnamed_none locations at (leaf p) is = unnamed_leaf locations at p false is
unnamed_none locations at (branch p left right) is = unnamed_test locations at p left right false is

-- the locations before a tree make no difference
pub unnamed_dropped : (front rest : List ℕ) (at : ℕ) (t : Tree) → AllBelow at front → unnamed_nodes (front ++ rest) at t ≡ unnamed_nodes rest at t
unnamed_dropped front rest at (leaf p) below =
    unnamed_leaf (front ++ rest) at p (is_named rest (at, leaf p)) (named_dropped front rest (at, leaf p) below)
    ∙ sym (unnamed_leaf rest at p (is_named rest (at, leaf p)) refl)
unnamed_dropped front rest at (branch p left right) below =
    let tree : Located = (at, branch p left right) in
    unnamed_test (front ++ rest) at p left right (is_named rest tree) (named_dropped front rest tree below)
    ∙ ap (λ ns. cond (is_named rest tree) ns (tree ∷ []))
    (ap₂ (λ a b. a ++ b) (unnamed_dropped front rest at left below)
    (unnamed_dropped front rest (at + leaf_count left) right (below_later at (at + leaf_count left) front (omega arith) below)))
    ∙ sym (unnamed_test rest at p left right (is_named rest tree) refl)

not_next : (end low : ℕ) (locations : List ℕ) → is_next end locations ≡ false → AscendFrom low locations → AscendFrom end locations
not_next end low [] out up = tt
not_next end low (l ∷ locations) out up = (ltb-false l end out, up.1)

-- a tree that holds no named leaf
pub found_none : (locations : List ℕ) (end at : ℕ) (t : Tree) (old new : List ℕ) → end ≡ at + leaf_count t → is_next end locations ≡ false
    → AscendFrom at locations → new ≡ old ++ position t ∷ [] → AreFound locations locations old new at t
found_none locations end at t old new is out up grown =
    let later : AscendFrom (at + leaf_count t) locations = subst (λ n. AscendFrom n locations) is (not_next end at locations out up) in
    record {
      grown = grown ∙ ap (λ ns. old ++ positions_of ns)
          (sym (unnamed_none locations at t (named_later (at + leaf_count t) locations (at, t) (omega arith) later)));
      taken = record { front = []; is = refl; below = tt; rest = later };
    }

found_leaf : (locations after : List ℕ) (at p : ℕ) (old : List ℕ) → is_next (at + 1) locations ≡ true → AscendFrom at locations
    → after ≡ drop 1 locations → AreFound locations after old old at (leaf p)
found_leaf [] after at p old next up is = absurd cc
found_leaf (l ∷ locations) after at p old next up is =
    let lt : l < at + 1 = ltb-true l (at + 1) next in
    let named : is_named (l ∷ locations) (at, leaf p) ≡ true = named_here l locations (at, leaf p) up.0 lt in
    record {
      grown = after_none old old refl ∙ ap (λ ns. old ++ positions_of ns) (sym (unnamed_leaf (l ∷ locations) at p true named));
      taken = record {
        front = l ∷ [];
        is = ap (λ ls. l ∷ ls) (sym is);
        below = (lt, tt);
        rest = subst (AscendFrom (at + 1)) (sym is) (ascend_later (at + 1) (suc l) locations (omega (arith, up.0)) up.1);
      };
    }

-- a leaf that is named
pub found_low : (locations after : List ℕ) (end at high : ℕ) (t : Tree) (old : List ℕ) → end ≡ at + leaf_count t → is_next end locations ≡ true
    → AscendFrom at locations → after ≡ drop 1 locations → high ≡ 0 → high ≡ height t → AreFound locations after old old at t
found_low locations after end at high (leaf p) old end_is next up is low level =
    found_leaf locations after at p old (subst (λ n. is_next n locations ≡ true) end_is next) up is
found_low locations after end at high (branch p left right) old end_is next up is low level = absurd (omega (arith, low, level))

next_named : (locations : List ℕ) (at : ℕ) (t : Tree) → is_next (at + leaf_count t) locations ≡ true → AscendFrom at locations
    → is_named locations (at, t) ≡ true
next_named [] at t next up = absurd cc
next_named (l ∷ locations) at t next up = named_here l locations (at, t) up.0 (ltb-true l (at + leaf_count t) next)

-- the two trees below a branch that holds a named leaf
pub found_both : (locations rest after : List ℕ) (end at p : ℕ) (left right : Tree) (old mid new : List ℕ)
    → end ≡ at + leaf_count (branch p left right)
    → is_next end locations ≡ true → AscendFrom at locations → AreFound locations rest old mid at left
    → AreFound rest after mid new (at + leaf_count left) right → AreFound locations after old new at (branch p left right)
found_both locations rest after end at p left right old mid new end_is next up one two =
    let middle = at + leaf_count left in
    let named = next_named locations at (branch p left right) (subst (λ n. is_next n locations ≡ true) end_is next) up in
    let same : unnamed_nodes locations middle right ≡ unnamed_nodes rest middle right =
    ap (λ ls. unnamed_nodes ls middle right) one.taken.is ∙ unnamed_dropped one.taken.front rest middle right one.taken.below in
    let last : middle + leaf_count right ≡ at + leaf_count (branch p left right) = omega arith in
    record {
      grown = after_both old mid new (unnamed_nodes locations at left) (unnamed_nodes rest middle right) one.grown two.grown
          ∙ ap (λ ns. old ++ positions_of (unnamed_nodes locations at left ++ ns)) (sym same)
          ∙ ap (λ ns. old ++ positions_of ns) (sym (unnamed_test locations at p left right true named));
      taken = record {
        front = one.taken.front ++ two.taken.front;
        is = one.taken.is ∙ ap (λ ls. one.taken.front ++ ls) two.taken.is ∙ sym (append_assoc one.taken.front two.taken.front after);
        below = subst (λ n. AllBelow n (one.taken.front ++ two.taken.front)) last
            (below_append (middle + leaf_count right) one.taken.front two.taken.front
            (below_later middle (middle + leaf_count right) one.taken.front (omega arith) one.taken.below) two.taken.below);
        rest = subst (λ n. AscendFrom n after) last two.taken.rest;
      };
    }

multi_dropped : (front rest : List ℕ) (first : ℕ) (peaks : List Located) → AllFrom first peaks → AllBelow first front
    → multi_nodes (front ++ rest) peaks ≡ multi_nodes rest peaks
multi_dropped front rest first [] from below = refl
multi_dropped front rest first (peak ∷ peaks) from below =
    ap₂ (λ a b. a ++ b) (unnamed_dropped front rest peak.0 peak.1 (below_later first peak.0 front from.0 below))
    (multi_dropped front rest first peaks from.1 below)

-- a peak, and those after it
pub found_peak : (locations rest : List ℕ) (first next : ℕ) (node : Tree) (peaks : List Located) (old mid new : List ℕ)
    → next ≡ first + leaf_count node
    → AllFrom next peaks → AreFound locations rest old mid first node → new ≡ mid ++ positions_of (multi_nodes rest peaks)
    → new ≡ old ++ positions_of (multi_nodes locations ((first, node) ∷ peaks))
found_peak locations rest first next node peaks old mid new is from one grown =
    let same : multi_nodes locations peaks ≡ multi_nodes rest peaks =
    ap (λ ls. multi_nodes ls peaks) one.taken.is
    ∙ multi_dropped one.taken.front rest (first + leaf_count node) peaks (subst (λ n. AllFrom n peaks) is from) one.taken.below in
    after_both old mid new (unnamed_nodes locations first node) (multi_nodes rest peaks) one.grown grown
    ∙ ap (λ ns. old ++ positions_of (unnamed_nodes locations first node ++ ns)) (sym same)

-- where the walk goes on below a branch
pub ascend_left : (rule : Rule) (first p h : ℕ) (node : Tree) → IsTreeAt rule first p h node → 0 < h
    → (left_first left_at left_high right_first right_at right_high : ℕ)
    → ((q : ℕ) (left right : Tree) → IsTreeAt rule first p h (branch q left right)
    → AreChildTrees rule first left right left_first left_at left_high right_first right_at right_high)
    → (locations : List ℕ) → AscendFrom first locations → AscendFrom left_first locations
ascend_left rule first p h (leaf q) tree high lf la lh rf ra rh children locations up = absurd (omega (arith, tree.level, high))
ascend_left rule first p h (branch q left right) tree high lf la lh rf ra rh children locations up =
    subst (λ n. AscendFrom n locations) (sym (children q left right tree).same) up

pub ascend_right : (rule : Rule) (first p h : ℕ) (node : Tree) → IsTreeAt rule first p h node → 0 < h
    → (left_first left_at left_high right_first right_at right_high : ℕ)
    → ((q : ℕ) (left right : Tree) → IsTreeAt rule first p h (branch q left right)
    → AreChildTrees rule first left right left_first left_at left_high right_first right_at right_high)
    → (locations after old new : List ℕ)
    → ((t : Tree) → IsTreeAt rule left_first left_at left_high t → AreFound locations after old new left_first t) → AscendFrom right_first after
ascend_right rule first p h (leaf q) tree high lf la lh rf ra rh children locations after old new found = absurd (omega (arith, tree.level, high))
ascend_right rule first p h (branch q left right) tree high lf la lh rf ra rh children locations after old new found =
    let both = children q left right tree in
    subst (λ n. AscendFrom n after) (ap (λ n. n + leaf_count left) both.same ∙ sym both.middle) (found left both.at_left).taken.rest

first_test : (leaves low l : ℕ) (locations : List ℕ) (a b : Bool) → nat_le low l ≡ a → nat_lt l leaves ≡ b
    → first_bad leaves low (l ∷ locations) ≡ cond (a && b) (first_bad leaves (suc l) locations) (Some (low, l))
first_test leaves low l locations a b one two =
    ap₂ (λ x y. cond (x && y) (first_bad leaves (suc l) locations) (Some (low, l))) one two

-- of the first location whether it is bad
pub bad_low : (leaves low l : ℕ) (locations : List ℕ) → l < low → first_bad leaves low (l ∷ locations) ≡ Some (low, l)
bad_low leaves low l locations lt = first_test leaves low l locations false (nat_lt l leaves) (lt-leb low l lt) refl

pub bad_high : (leaves low l : ℕ) (locations : List ℕ) → low ≤ l → leaves ≤ l → first_bad leaves low (l ∷ locations) ≡ Some (low, l)
bad_high leaves low l locations le past = first_test leaves low l locations true false (le-leb low l le) (le-ltb l leaves past)

pub not_bad : (leaves low l : ℕ) (locations : List ℕ) → low ≤ l → l < leaves
    → first_bad leaves low (l ∷ locations) ≡ first_bad leaves (suc l) locations
not_bad leaves low l locations le within = first_test leaves low l locations true true (le-leb low l le) (lt-ltb l leaves within)

some_not_none : {A : Type 0} (x : A) → ◌≡◌ {A = Option A} (Some x) None → ⊥
some_not_none x is = absurd cc

pub good_head : (leaves low l : ℕ) (locations : List ℕ) → (l < low) ⊎ (low ≤ l) → (l < leaves) ⊎ (leaves ≤ l)
    → first_bad leaves low (l ∷ locations) ≡ None → (low ≤ l) × (l < leaves) × (first_bad leaves (suc l) locations ≡ None)
good_head leaves low l locations (inl lt) within good = absurd (some_not_none (low, l) (sym (bad_low leaves low l locations lt) ∙ good))
good_head leaves low l locations (inr le) (inr past) good = absurd (some_not_none (low, l) (sym (bad_high leaves low l locations le past) ∙ good))
good_head leaves low l locations (inr le) (inl within) good = (le, within, sym (not_bad leaves low l locations le within) ∙ good)

-- what is good ascends
pub good_ascend : (leaves low : ℕ) (locations : List ℕ) → first_bad leaves low locations ≡ None → AscendFrom low locations
good_ascend leaves low [] good = tt
good_ascend leaves low (l ∷ locations) good =
    let head = good_head leaves low l locations (cases_lt l low) (cases_lt l leaves) good in
    (head.0, good_ascend leaves (suc l) locations head.2)
