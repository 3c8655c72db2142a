-- Each of the chunks that are settled has its node.
use Rattle.std.proofs.Common.{◌≡◌, inl, inr, ℕ, zero, suc, ◌+◌, ◌-◌, ◌*◌}
use Rattle.std.proofs.Common.{◌^◌, ◌<◌, ◌≤◌, refl, sym, ◌∙◌, ap, subst, arith}
use Rattle.std.proofs.lemmas.Bool.{cases_lt}
use Rattle.std.proofs.lemmas.Nat.{pow-add}
use Rattle.std.proofs.Math.Nat.{add-mul}
use Rattle.merkle_forest.specs.Forest.{Tree, leaf, branch, height, leaf_count, Rule, forest_of}
use Rattle.merkle_forest.specs.Laws.ForestGrowth.{forest_of-perfect, leaves-forest_of}
use Rattle.merkle_forest.specs.Laws.Nodes.{node-leaves, node-perfect, peak-node}
use Rattle.merkle_forest.specs.Laws.Places.{node-left, node-right}
use Rattle.merkle_forest.specs.Nodes.{HasNode, IsNodeAt, nodes_of_height}
use Rattle.merkle_forest.specs.Perfect.{IsPairing}
use Rattle.state_current.specs.Settled.{IsSettled}
use Rattle.state_current.proofs.PrunedLemmas.{covering}

module _ (rule : Rule) (pairs : IsPairing rule) (n level : ℕ) where
  -- below a node stand the nodes of each height over its leaves
  pub block_there : (h i first : ℕ) (tree : Tree) → IsNodeAt first tree (forest_of rule n) → height tree ≡ h + level → i < 2 ^ h
      → HasNode (forest_of rule n) (first + i * 2 ^ level) level
  block_there zero i first tree stands high lt =
      let at : first ≡ first + i * 2 ^ level = omega (arith, ap (λ k. k * 2 ^ level) (let none : i ≡ 0 = omega (arith, lt) in none)) in
      subst (λ k. HasNode (forest_of rule n) k level) at (tree, stands, omega (arith, high))
  block_there (suc h) i first (leaf p) stands high lt = absurd (omega (arith, high))
  block_there (suc h) i first (branch p l r) stands high lt =
      let perfect = node-perfect first (branch p l r) (forest_of rule n) (forest_of-perfect rule pairs n) stands in
      let low : height l ≡ h + level = omega (arith, high) in
      let left = node-left first p l r (forest_of rule n) stands in
      elim (cases_lt i (2 ^ h)) [
        | inl before ↦ block_there h i first l left low before
        | inr after ↦
            (let double : 2 ^ suc h ≡ 2 * 2 ^ h = omega arith in
            let long : leaf_count l ≡ 2 ^ h * 2 ^ level = (node-leaves rule pairs n first l left).0 ∙ ap (λ k. 2 ^ k) low ∙ pow-add 2 h level in
            let sum : 2 ^ h + (i - 2 ^ h) ≡ i = omega (arith, after) in
            let at : first + leaf_count l + (i - 2 ^ h) * 2 ^ level ≡ first + i * 2 ^ level =
            omega (arith, long, sym (add-mul (2 ^ h) (i - 2 ^ h) (2 ^ level)), ap (λ k. k * 2 ^ level) sum) in
            subst (λ k. HasNode (forest_of rule n) k level) at
            (block_there h (i - 2 ^ h) (first + leaf_count l) r (node-right first p l r (forest_of rule n) stands)
            (omega (arith, low, perfect.0)) (omega (arith, lt, double, after))))
      ]

  module _ (chunks : ℕ) (settled : IsSettled rule level n chunks) where
    pub chunk_there : (i : ℕ) → i < chunks → HasNode (forest_of rule n) (i * 2 ^ level) level
    chunk_there i lt =
        let it = covering (forest_of rule chunks) i (omega (arith, lt, leaves-forest_of rule pairs chunks)) in
        let node = settled it.0 it.1 it.2 in
        let long = (node-leaves rule pairs chunks it.0 it.1 (peak-node it.0 it.1 (forest_of rule chunks) it.2)).0 in
        let sum : it.0 + (i - it.0) ≡ i = omega (arith, it.3) in
        let at : it.0 * 2 ^ level + (i - it.0) * 2 ^ level ≡ i * 2 ^ level =
        sym (add-mul it.0 (i - it.0) (2 ^ level)) ∙ ap (λ k. k * 2 ^ level) sum in
        subst (λ k. HasNode (forest_of rule n) k level) at
        (block_there (height it.1) (i - it.0) (it.0 * 2 ^ level) node.0 node.1 (sym node.2) (omega (arith, it.4, long, it.3)))

    -- so they end within the operations
    pub settled_within : chunks * 2 ^ level ≤ n
    settled_within = go chunks (λ i is. chunk_there i (omega (arith, is)))
      where
        go : (k : ℕ) → ((i : ℕ) → suc i ≡ k → HasNode (forest_of rule n) (i * 2 ^ level) level) → k * 2 ^ level ≤ n
        go zero each = omega arith
        go (suc i) each =
            let node = each i refl in
            let fits = (node-leaves rule pairs n (i * 2 ^ level) node.0 node.1).1 in
            let next : suc i * 2 ^ level ≡ i * 2 ^ level + 2 ^ level = omega arith in
            omega (arith, fits, next, ap (λ h. 2 ^ h) node.2)

    -- and are among those that have their node
    pub settled_grafted : ((i : ℕ) → HasNode (forest_of rule n) (i * 2 ^ level) level → i < nodes_of_height level (forest_of rule n))
        → chunks ≤ nodes_of_height level (forest_of rule n)
    settled_grafted counted = go chunks (λ i is. counted i (chunk_there i (omega (arith, is))))
      where
        go : (k : ℕ) → ((i : ℕ) → suc i ≡ k → i < nodes_of_height level (forest_of rule n)) → k ≤ nodes_of_height level (forest_of rule n)
        go zero each = omega arith
        go (suc i) each = omega (arith, each i refl)
