-- The forest of the code is the forest of the definition.
use Rattle.std.proofs.Common.{◌≡◌, ℕ, zero, suc, ◌+◌, ◌-◌, ◌<◌, ◌≤◌, List, [], ◌∷◌, length, get_or, map, drop, Option}
use Rattle.std.proofs.Common.{Some, None, refl, sym, ◌∙◌, ap, arith, sub-one, add-one}
use Rattle.std.specs.Prelude.{IfSome}
use Rattle.std.specs.List.{insert, remove}
use Rattle.merkle_forest.specs.declared.forest.Tree.{Tree as CodeTree}
use Rattle.merkle_forest.specs.Forest.{Tree, branch, height, leaf_count, size, leaves, Rule, merged, peaks_after_merges, with_leaf, forest_of, IsPairOfEquals}
use Rattle.merkle_forest.specs.Laws.ForestGrowth.{node_count-twice}
pub use Rattle.merkle_forest.specs.Laws.ForestGrowth.{height_below, leaves-merged, size-merged, pair_within, size_bound}
use Rattle.merkle_forest.specs.Shape.{shape}

-- taking two neighbours out and putting the branch over them in their index
pub merged_in_place : (p index : ℕ) (xs : List CodeTree) (right left tree : CodeTree) → suc index < length xs
    → right ≡ get_or xs index right → left ≡ get_or (remove xs index) index left
    → shape tree ≡ branch p (shape left) (shape right)
    → map shape (insert (remove (remove xs index) index) index tree) ≡ merged p index (map shape xs)
merged_in_place p zero [] right left tree lt r l t = absurd (omega arith)
merged_in_place p zero (x ∷ []) right left tree lt r l t = absurd (omega arith)
merged_in_place p zero (x ∷ y ∷ xs) right left tree lt r l t =
    ap (λ first. first ∷ map shape xs) (t ∙ ap (λ a. branch p (shape a) (shape right)) l
    ∙ ap (λ b. branch p (shape y) (shape b)) r)
merged_in_place p (suc index) [] right left tree lt r l t = absurd (omega arith)
merged_in_place p (suc index) (x ∷ xs) right left tree lt r l t =
    ap (λ rest. shape x ∷ rest) (merged_in_place p index xs right left tree (omega arith) r l t)

-- the leaves of a tree in a list, beside those of the trees after it
leaves_from : (xs : List CodeTree) (i : ℕ) (t : CodeTree) → i < length xs → t ≡ get_or xs i t
    → leaves (map shape (drop (suc i) xs)) + leaf_count (shape t) ≤ leaves (map shape xs)
leaves_from [] i t lt is = absurd (omega arith)
leaves_from (x ∷ xs) zero t lt is = rw is (omega arith)
leaves_from (x ∷ xs) (suc i) t lt is = omega (arith, leaves_from xs i t (omega arith) is)

pub leaves_at : (xs : List CodeTree) (i : ℕ) (t : CodeTree) → i < length xs → t ≡ get_or xs i t
    → leaf_count (shape t) ≤ leaves (map shape xs)
leaves_at xs i t lt is = omega (arith, leaves_from xs i t lt is)

pub leaves_before : (xs : List CodeTree) (n start : ℕ) (t : CodeTree) → 0 < n → n ≤ length xs → t ≡ get_or xs (n - 1) t
    → start ≡ leaves (map shape (drop n xs)) → start + leaf_count (shape t) ≤ leaves (map shape xs)
leaves_before xs zero start t some within is sum = absurd (omega arith)
leaves_before xs (suc i) start t some within is sum =
    omega (arith, sum, leaves_from xs i t (omega arith) (rw sub-one at is))

-- where the rule names no index, the peaks stay
pub peaks_after_merges-none : (rule : Rule) (room merges : ℕ) (peaks : List Tree)
    → rule merges (map height peaks) ≡ None → peaks_after_merges rule room merges peaks ≡ peaks
unfolding peaks_after_merges
peaks_after_merges-none rule zero merges peaks none = refl
peaks_after_merges-none rule (suc room) merges peaks none = rw none refl

-- where it names one, its neighbours merge, and the rule is asked again
pub peaks_after_merges-some : (rule : Rule) (room merges index : ℕ) (peaks : List Tree) → 0 < room
    → rule merges (map height peaks) ≡ Some index
    → peaks_after_merges rule room merges peaks ≡ peaks_after_merges rule (room - 1) (merges + 1)
    (merged (size peaks) index peaks)
unfolding peaks_after_merges
peaks_after_merges-some rule zero merges index peaks lt some = absurd (omega arith)
peaks_after_merges-some rule (suc room) merges index peaks lt some = rw some (rw (sub-one, add-one) refl)

pub peaks_after_merges-zero : (rule : Rule) (merges : ℕ) (peaks : List Tree)
    → peaks_after_merges rule 0 merges peaks ≡ peaks
unfolding peaks_after_merges
peaks_after_merges-zero rule merges peaks = refl

some_is : (i j : ℕ) → ◌≡◌ {A = Option ℕ} (Some i) (Some j) → i ≡ j
some_is i j e = cc

-- the index that a rule of pairs names stands within the peaks
pub index_within : (heights : List ℕ) (index : ℕ) (found : Option ℕ) → IfSome found (IsPairOfEquals heights)
    → found ≡ Some index → suc index < length heights
index_within heights index None pair some = absurd cc
index_within heights index (Some i) pair some = rw (← some_is i index some) (pair_within heights i pair)

-- the first peak's height is within the number of all leaves
pub first_height : (peaks : List CodeTree) (first : CodeTree) → first ≡ get_or peaks 0 first → 0 < length peaks
    → height (shape first) < leaves (map shape peaks)
first_height [] first is lt = absurd (omega arith)
first_height (t ∷ peaks) first is lt = rw is (omega (arith, height_below (shape t)))

-- one merge, and then what the rule asks for after it
pub peaks_after_merges-merged : (rule : Rule) (room merges index nodes : ℕ) (peaks after total : List Tree) → merges < room
    → rule merges (map height peaks) ≡ Some index → nodes ≡ size peaks → after ≡ merged nodes index peaks
    → peaks_after_merges rule (room - merges) merges peaks ≡ total
    → peaks_after_merges rule (room - (merges + 1)) (merges + 1) after ≡ total
peaks_after_merges-merged rule room merges index nodes peaks after total lt some sized made so_far =
    let less : room - (merges + 1) ≡ room - merges - 1 = omega arith in
    let one = peaks_after_merges-some rule (room - merges) merges index peaks (omega arith) some in
    rw (made, sized, less) (sym one ∙ so_far)

-- the forest of one leaf more
pub forest_of-next : (rule : Rule) (n : ℕ) → forest_of rule (n + 1) ≡ with_leaf rule (forest_of rule n)
unfolding forest_of
forest_of-next rule n = rw add-one refl

pub forest_of-zero : (rule : Rule) → forest_of rule 0 ≡ []
unfolding forest_of
forest_of-zero rule = refl

pub size-none : (rule : Rule) → size (forest_of rule 0) ≡ 0
unfolding forest_of
size-none rule = refl

-- a forest has at least as many nodes as leaves
pub leaves-le-size : (peaks : List Tree) → leaves peaks ≤ size peaks
leaves-le-size [] = omega arith
leaves-le-size (t ∷ peaks) = omega (arith, node_count-twice t, height_below t, leaves-le-size peaks)
