-- When the digests of a proof of a range are the honest ones: for crates above, that read trees of their own, and for
-- plain trees.
use Rattle.std.proofs.Common.{◌≡◌, List, ℕ, ◌+◌, length, Option, Some, IfSome, refl, ap, ◌∙◌, subst}
use Rattle.merkle_forest.specs.declared.bagging.Bagging.{Bagging}
use Rattle.merkle_forest.specs.Forest.{Rule}
use Rattle.merkle_forest.specs.Hashing.{Hash, node_string}
use Rattle.merkle_forest.specs.Laws.Matching.{Agrees}
use Rattle.merkle_forest.specs.Made.{Made, value}
use Rattle.merkle_forest.specs.Trees.{plain_digest}
use Rattle.merkle_theory.specs.HonestReads.{AreDigestsOver, ChildrenAgree, IsReadHonestly, ReadsHonestly}
use Rattle.merkle_theory.specs.MadeRoots.{Naming, made_root}
use Rattle.merkle_theory.specs.MadeTrees.{Over, Elements, whole, plain_over}
use Rattle.merkle_theory.specs.Plans.{honest_digests}
use Rattle.merkle_theory.specs.Ranges.{Digests}
use Rattle.merkle_theory.specs.Reads.{range_root}

-- where the counts that are claimed are those of the tree, and what is read agrees with its root, the digests are its
-- honest ones
pub read_at : (hash : Hash) (names : Naming) (read there : Over) (bagging : Bagging) (digest : Digests)
    (elements : Elements) (rule : Rule) (leaves inactive leaves_claimed inactive_claimed start : ℕ)
    (shown digests : List (List ℕ)) (made : Made) → ReadsHonestly rule
    → AreDigestsOver hash there elements digest → ChildrenAgree hash read there
    → range_root names read bagging rule leaves_claimed inactive_claimed start shown digests ≡ Some made
    → leaves_claimed ≡ leaves → inactive_claimed ≡ inactive
    → Agrees hash made (made_root names there elements bagging rule leaves inactive)
    → digests ≡ honest_digests hash digest bagging rule leaves inactive start (start + length shown)
read_at hash names read there bagging digest elements rule leaves inactive leaves_claimed inactive_claimed start shown
    digests made law over children is leaf_counts inactive_counts agrees =
    let Is : ℕ → ℕ → Made → Type 0 = λ n k.
    IsReadHonestly hash names there elements digest bagging rule n k start (start + length shown) digests in
    let Holds : Option Made → Type 0 = λ got. IfSome got (Is leaves_claimed inactive_claimed) in
    let held : Is leaves_claimed inactive_claimed made =
    subst Holds is (law hash names read there bagging digest elements leaves_claimed inactive_claimed start shown
    digests over children) in
    subst (λ k. Is leaves k made) inactive_counts (subst (λ n. Is n inactive_claimed made) leaf_counts held) agrees

-- the plain digests of a list are made over all its elements
pub plain_made : (hash : Hash) (elements : List (List ℕ))
    → AreDigestsOver hash plain_over (whole elements) (plain_digest hash elements)
plain_made hash elements start stop = record {
  leaf = λ at p low high. refl;
  branch = λ at p left right x y one other.
      ap (λ d. hash (node_string p d (value hash y))) one
      ∙ ap (λ d. hash (node_string p (plain_digest hash elements at left) d)) other;
}

-- branches of plain trees that agree have children that agree
pub plain_children : (hash : Hash) → ChildrenAgree hash plain_over plain_over
plain_children hash at high p a b c d same = (same.1.1.0, same.1.1.1)
