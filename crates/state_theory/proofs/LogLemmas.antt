-- What is said of the encodings of operations, from what is said of elements that are lent.
use Rattle.std.proofs.Common.{◌≡◌, ℕ, List, map, length, refl, sym, ◌∙◌, ap, subst}
use Rattle.std.proofs.lemmas.List.{length-map}
use Rattle.merkle_forest.specs.declared.bagging.Bagging.{Bagging}
use Rattle.merkle_forest.specs.declared.bagging.Bagging.TheVariants.{BackwardFold}
use Rattle.merkle_forest.specs.Forest.{Rule}
use Rattle.merkle_forest.specs.Hashing.{Hash}
use Rattle.merkle_theory.specs.MadeTrees.{plain_over}
use Rattle.merkle_theory.specs.Reads.{HashesAs}
use Rattle.state_theory.specs.LogProofs.{leaf_hash, branch_hash}

pub plainly : (rule : Rule) (hash : Hash) → HashesAs rule hash (leaf_hash hash) (branch_hash hash) plain_over
plainly rule hash = record { leaf = λ p element. refl; branch = λ at high p left right there. refl }

pub carried : {A B : Type 0} (P : Bagging → List (List ℕ) → ℕ → Type 0) (bagging : Bagging) (elements : List A) (bytes : A → List ℕ)
    (operations : List B) (encoding : B → List ℕ) → bagging ≡ BackwardFold → map bytes elements ≡ map encoding operations
    → P bagging (map bytes elements) (length elements) → P BackwardFold (map encoding operations) (length operations)
carried P bagging elements bytes operations encoding folded same held =
    let count : length elements ≡ length operations =
    sym (length-map elements bytes) ∙ ap length same ∙ length-map operations encoding in
    subst (λ (b : Bagging). P b (map encoding operations) (length operations)) folded
    (subst (λ (es : List (List ℕ)). P bagging es (length operations)) same (subst (λ (n : ℕ). P bagging (map bytes elements) n) count held))
