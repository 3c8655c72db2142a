-- The peaks of a forest from a location on.
use Rattle.std.proofs.Common.{◌≡◌, ℕ, ◌+◌, ◌≤◌, Bool, true, false, cond, leb, List, [], ◌∷◌, ◌++◌, refl, sym, ◌∙◌, ap}
use Rattle.std.specs.List.{AllByRecursion}
use Rattle.std.proofs.lemmas.Bool.{leb-true}
use Rattle.merkle_forest.specs.Forest.{Tree, leaves, Rule, forest_of}
use Rattle.merkle_forest.specs.Trees.{Located}
use Rattle.merkle_forest.specs.Peaks.{located_from}
use Rattle.merkle_forest.specs.Laws.Peaks.{located_from-peak}
use Rattle.merkle_theory.specs.Subtrees.{IsPeakFrom}

-- all these peaks begin at a location or after it
abbrev pub AllFrom : ℕ → List Located → Type 0
AllFrom first peaks = AllByRecursion (λ peak. first ≤ peak.0) peaks

pub all_from-append : (first : ℕ) (front back : List Located) → AllFrom first front → AllFrom first back
    → AllFrom first (front ++ back)
all_from-append first [] back f b = b
all_from-append first (p ∷ front) back f b = (f.0, all_from-append first front back f.1 b)

all_from-test : (first : ℕ) (t : Tree) (ts : List Tree) (test : Bool) → (test ≡ true → first ≤ leaves ts)
    → AllFrom first (located_from first ts)
    → AllFrom first (cond test (located_from first ts ++ (leaves ts, t) ∷ []) [])
all_from-test first t ts true le rest =
    all_from-append first (located_from first ts) ((leaves ts, t) ∷ []) rest (le refl, tt)
all_from-test first t ts false le rest = tt

pub located_from-all : (first : ℕ) (peaks : List Tree) → AllFrom first (located_from first peaks)
located_from-all first [] = tt
located_from-all first (t ∷ ts) =
    all_from-test first t ts (leb first (leaves ts)) (leb-true first (leaves ts)) (located_from-all first ts)

-- a step of the walk
pub walk_from : (rule : Rule) (n first begins at high next : ℕ) (it : IsPeakFrom rule n first begins at high next)
    → located_from first (forest_of rule n) ≡ (begins, it.node) ∷ located_from next (forest_of rule n)
walk_from rule n first begins at high next it =
    located_from-peak first it.node (forest_of rule n) it.stands
    ∙ ap (λ k. (first, it.node) ∷ located_from k (forest_of rule n)) (sym it.next)
    ∙ ap (λ k. (k, it.node) ∷ located_from next (forest_of rule n)) (sym it.same)
