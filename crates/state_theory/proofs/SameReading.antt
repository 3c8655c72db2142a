-- What is read of a proof's digests depends on how the branches over the range are hashed, and on no other branches.
use Rattle.std.proofs.Common.{◌≡◌, ℕ, zero, suc, ◌+◌, ◌||◌, Bool, true, false, cond, List}
use Rattle.std.proofs.Common.{[], ◌∷◌, length, Option, None, Some, option_map, refl, ◌∙◌, ap, ltb}
use Rattle.std.specs.List.{AllByRecursion, list_all}
use Rattle.std.specs.Prelude.{option_and_then, ◌^◌}
use Rattle.merkle_forest.specs.declared.bagging.Bagging.{Bagging}
use Rattle.merkle_forest.specs.Forest.{Tree, leaf, branch, height, leaf_count, Rule}
use Rattle.merkle_forest.specs.Made.{Made}
use Rattle.merkle_forest.specs.Trees.{Located}
use Rattle.merkle_theory.specs.MadeRoots.{Naming, Streams, Bagged, folded, from_left, given_outer, peaks_of, read_peak}
use Rattle.merkle_theory.specs.MadeRoots.{read_back, read_onto, read_group, read_bag, root_made, used}
use Rattle.merkle_theory.specs.MadeTrees.{Over, Elements, Reading, branch_made, from, given, read_tree}
use Rattle.merkle_theory.specs.Ranges.{meets, is_after, is_before}
use Rattle.merkle_theory.specs.Reads.{range_root}

then_same : {A B : Type 0} (f g : A → Option B) → ((x : A) → f x ≡ g x) → (got : Option A) → option_and_then f got ≡ option_and_then g got
then_same f g same None = refl
then_same f g same (Some x) = same x

map_same : {A B : Type 0} (f g : A → B) → ((x : A) → f x ≡ g x) → (got : Option A) → option_map f got ≡ option_map g got
map_same f g same None = refl
map_same f g same (Some x) = ap (λ y. Some y) (same x)

if_same : {A : Type 0} (test : Bool) (a b c : A) → (test ≡ true → a ≡ b) → cond test a c ≡ cond test b c
if_same true a b c same = same refl
if_same false a b c same = refl

else_same : {A : Type 0} (test : Bool) (a b c : A) → a ≡ b → cond test c a ≡ cond test c b
else_same test a b c same = ap (λ x. cond test c x) same

module _ (one other : Over) (elements : Elements) (start stop : ℕ) where
  -- the branches of a tree that meet the range are hashed alike
  abbrev pub Alike : ℕ → Tree → Type 0
  Alike at (leaf p) = Unit {0}
  Alike at (branch p left right) =
      (meets start stop (at, branch p left right) ≡ true → (string : Made)
      → one at (height (branch p left right)) p string ≡ other at (height (branch p left right)) p string)
      × Alike at left × Alike (at + leaf_count left) right

  abbrev pub AllAlike : List Located → Type 0
  AllAlike = AllByRecursion (λ peak. Alike peak.0 peak.1)

  -- a branch, once its left child is read
  abbrev joined : Over → ℕ → ℕ → ℕ → (List (List ℕ) → Reading) → Made × List (List ℕ) → Reading
  joined over at high p right x = option_map (λ y. (branch_made over at high p x.0 y.0, y.1)) (right x.1)

  tree_same : (at : ℕ) (t : Tree) (digests : List (List ℕ)) → Alike at t
      → read_tree one elements start stop at t digests ≡ read_tree other elements start stop at t digests
  tree_same at (leaf p) digests alike = refl
  tree_same at (branch p left right) digests alike =
      let high : ℕ = height (branch p left right) in
      let middle : ℕ = at + leaf_count left in
      if_same (meets start stop (at, branch p left right)) _ _ (given digests)
      (λ met. ap (option_and_then (joined one at high p (read_tree one elements start stop middle right))) (tree_same at left digests alike.1)
      ∙ then_same (joined one at high p (read_tree one elements start stop middle right))
      (joined other at high p (read_tree other elements start stop middle right))
      (λ x. ap (option_map (λ y. (branch_made one at high p x.0 y.0, y.1))) (tree_same middle right x.1 alike.2)
      ∙ map_same (λ y. (branch_made one at high p x.0 y.0, y.1)) (λ y. (branch_made other at high p x.0 y.0, y.1))
      (λ y. ap (λ m. (m, y.1)) (alike.0 met _)) (read_tree other elements start stop middle right x.1))
      (read_tree other elements start stop at left digests))

  peak_same : (peak : Located) (streams : Streams) → Alike peak.0 peak.1
      → read_peak one elements start stop peak streams ≡ read_peak other elements start stop peak streams
  peak_same peak streams alike =
      if_same (meets start stop peak) _ _ (given_outer streams)
      (λ met. ap (option_map (λ x. (x.0, (streams.0, x.1)))) (tree_same peak.0 peak.1 streams.1 alike))

  module _ (names : Naming) (last : ℕ) where
    -- a peak and those after it, once it is read
    abbrev with_next : Over → ℕ → Located → List Located → Made × Streams → Bagged
    with_next over n next peaks x =
        option_map (λ y. (folded names n last x.0 y.0, y.1)) (read_back names over elements start stop last (suc n) next peaks x.1)

    back_same : (n : ℕ) (peak : Located) (peaks : List Located) (streams : Streams) → Alike peak.0 peak.1 → AllAlike peaks
        → read_back names one elements start stop last n peak peaks streams ≡ read_back names other elements start stop last n peak peaks streams
    back_same n peak [] streams here all = peak_same peak streams here
    back_same n peak (next ∷ peaks) streams here all =
        else_same (list_all (is_after stop) (peak ∷ next ∷ peaks)) _ _ (given_outer streams)
        (ap (option_and_then (with_next one n next peaks)) (peak_same peak streams here)
        ∙ then_same (with_next one n next peaks) (with_next other n next peaks)
        (λ x. ap (option_map (λ y. (folded names n last x.0 y.0, y.1))) (back_same (suc n) next peaks x.1 all.0 all.1))
        (read_peak other elements start stop peak streams))

    onto_same : (inactive n : ℕ) (first : Made) (peaks : List Located) (streams : Streams) → AllAlike peaks
        → read_onto names one elements start stop last inactive n first peaks streams
        ≡ read_onto names other elements start stop last inactive n first peaks streams
    onto_same zero n first [] streams all = refl
    onto_same (suc inactive) n first [] streams all = refl
    onto_same zero n first (peak ∷ peaks) streams all =
        ap (option_map (λ y. (folded names 1 last first y.0, y.1))) (back_same n peak peaks streams all.0 all.1)
    onto_same (suc inactive) n first (peak ∷ peaks) streams all =
        ap (option_and_then (λ x. read_onto names one elements start stop last inactive (suc n) (folded names 1 n first x.0) peaks x.1))
        (peak_same peak streams all.0)
        ∙ then_same (λ x. read_onto names one elements start stop last inactive (suc n) (folded names 1 n first x.0) peaks x.1)
        (λ x. read_onto names other elements start stop last inactive (suc n) (folded names 1 n first x.0) peaks x.1)
        (λ x. onto_same inactive (suc n) (folded names 1 n first x.0) peaks x.1 all.1) (read_peak other elements start stop peak streams)

    group_same : (inactive n : ℕ) (first : Made) (peaks : List Located) (streams : Streams) → AllAlike peaks
        → read_group names one elements start stop last inactive n first peaks streams
        ≡ read_group names other elements start stop last inactive n first peaks streams
    group_same zero n first [] streams all = refl
    group_same (suc inactive) n first [] streams all = refl
    group_same zero n first (peak ∷ peaks) streams all = onto_same zero n first (peak ∷ peaks) streams all
    group_same (suc inactive) n first (peak ∷ peaks) streams all =
        ap (λ got. cond (is_before start peak) got (read_onto names one elements start stop last (suc inactive) n first (peak ∷ peaks) streams))
        (group_same inactive (suc n) first peaks streams all.1)
        ∙ else_same (is_before start peak) _ _ (read_group names other elements start stop last inactive (suc n) first peaks streams)
        (onto_same (suc inactive) n first (peak ∷ peaks) streams all)

    bag_same : (inactive : ℕ) (peaks : List Located) (streams : Streams) → AllAlike peaks
        → read_bag names one elements start stop last inactive peaks streams ≡ read_bag names other elements start stop last inactive peaks streams
    bag_same zero [] streams all = refl
    bag_same (suc inactive) [] streams all = refl
    bag_same zero (peak ∷ peaks) streams all = back_same 1 peak peaks streams all.0 all.1
    bag_same (suc inactive) (peak ∷ peaks) streams all =
        let grouped : Over → Made × Streams → Bagged = λ over x. read_group names over elements start stop last inactive 2 x.0 peaks x.1 in
        let onto : Over → Made × Streams → Bagged = λ over x. read_onto names over elements start stop last inactive 2 x.0 peaks x.1 in
        ap (λ got. cond (is_before start peak) got (option_and_then (onto one) (read_peak one elements start stop peak streams)))
        (then_same (grouped one) (grouped other) (λ x. group_same inactive 2 x.0 peaks x.1 all.1) (given_outer streams))
        ∙ else_same (is_before start peak) _ _ (option_and_then (grouped other) (given_outer streams))
        (ap (option_and_then (onto one)) (peak_same peak streams all.0)
        ∙ then_same (onto one) (onto other) (λ x. onto_same inactive 2 x.0 peaks x.1 all.1) (read_peak other elements start stop peak streams))

pub range_same : (one other : Over) (names : Naming) (bagging : Bagging) (rule : Rule) (leaves inactive start : ℕ) (elements digests : List (List ℕ))
    → AllAlike one other (from start elements) start (start + length elements) (peaks_of rule leaves)
    → range_root names one bagging rule leaves inactive start elements digests ≡ range_root names other bagging rule leaves inactive start elements digests
range_same one other names bagging rule leaves inactive start elements digests all =
    let peaks : List Located = peaks_of rule leaves in
    let stop : ℕ = start + length elements in
    let none : Bool = ltb (2 ^ 62) leaves || (ltb (length peaks) inactive || ltb leaves stop) in
    ap (λ got. cond (ltb 0 (length elements)) (cond none None (option_map (root_made names bagging leaves inactive) (option_and_then used got))) None)
    (bag_same one other (from start elements) start stop names (length peaks) (from_left bagging inactive (length peaks)) peaks _ all)
