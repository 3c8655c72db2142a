-- When a proof of a range was read from the honest digests of a tree: where what is read agrees with the tree in all
-- that it gives as known.
use Rattle.std.specs.Prelude.{◌≡◌, ℕ, ◌+◌, List, length, IfSome}
use Rattle.merkle_forest.specs.declared.bagging.Bagging.{Bagging}
use Rattle.merkle_forest.specs.Forest.{Rule}
use Rattle.merkle_forest.specs.Hashing.{Hash}
use Rattle.merkle_forest.specs.Made.{Made}
use Rattle.merkle_forest.specs.Laws.Matching.{Agrees}
use Rattle.merkle_theory.specs.MadeRoots.{Naming, made_root}
use Rattle.merkle_theory.specs.MadeTrees.{Over, Elements, branch_made}
use Rattle.merkle_theory.specs.Plans.{honest_digests}
use Rattle.merkle_theory.specs.Ranges.{Digests}
use Rattle.merkle_theory.specs.Reads.{Agrees as AreMadeOver, range_root}

-- the digests of trees are made over all these elements
abbrev pub AreDigestsOver : Hash → Over → Elements → Digests → Type 0
AreDigestsOver hash over elements digest = (start stop : ℕ) → AreMadeOver hash over elements digest start stop

-- where a branch that is read agrees with one that is there, its children agree with those that are there
abbrev pub ChildrenAgree : Hash → Over → Over → Type 0
ChildrenAgree hash read there = (at high p : ℕ) (a b c d : Made)
    → Agrees hash (branch_made read at high p a b) (branch_made there at high p c d) → Agrees hash a c × Agrees hash b d

-- where what is read agrees with the root that is there, the digests are the honest ones
abbrev pub IsReadHonestly : Hash → Naming → Over → Elements → Digests → Bagging → Rule → ℕ → ℕ → ℕ → ℕ → List (List ℕ)
    → Made → Type 0
IsReadHonestly hash names over elements digest bagging rule leaves inactive start stop digests made =
    Agrees hash made (made_root names over elements bagging rule leaves inactive)
    → digests ≡ honest_digests hash digest bagging rule leaves inactive start stop

-- so is each proof of a range that leads to a root, for all trees: however branches are hashed
abbrev pub ReadsHonestly : Rule → Type 0
ReadsHonestly rule = (hash : Hash) (names : Naming) (read there : Over) (bagging : Bagging) (digest : Digests)
    (elements : Elements) (leaves inactive start : ℕ) (shown digests : List (List ℕ))
    → AreDigestsOver hash there elements digest → ChildrenAgree hash read there
    → IfSome (range_root names read bagging rule leaves inactive start shown digests)
    (IsReadHonestly hash names there elements digest bagging rule leaves inactive start (start + length shown) digests)
