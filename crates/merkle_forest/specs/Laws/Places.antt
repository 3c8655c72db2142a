-- Children of a node of a forest are nodes of it.
use Rattle.std.proofs.Common.{◌≡◌, ℕ, ◌+◌, inl, inr, List, [], ◌∷◌, sym, ap, subst, arith}
use Rattle.merkle_forest.specs.Forest.{Tree, leaf, branch, leaf_count, leaves}
use Rattle.merkle_forest.specs.Nodes.{IsWithin, IsNodeAt}
use Rattle.merkle_forest.specs.Laws.Nodes.{within-self}

within_left : (first start p : ℕ) (left right t : Tree) → IsWithin first (branch p left right) start t
    → IsWithin first left start t
within_left first start p left right (leaf q) within = absurd (let e : branch p left right ≡ leaf q = within.1 in cc)
within_left first start p left right (branch q l r) (inl within) =
    let e : branch p left right ≡ branch q l r = within.1 in
    let same : left ≡ l = cc in
    let At : ℕ → Type 0 = λ n. IsWithin n left start l in
    let Of : Tree → Type 0 = λ t. IsWithin start t start l in
    inr (inl (subst At (sym within.0) (subst Of (sym same) (within-self start l))))
within_left first start p left right (branch q l r) (inr (inl within)) =
    inr (inl (within_left first start p left right l within))
within_left first start p left right (branch q l r) (inr (inr within)) =
    inr (inr (within_left first (start + leaf_count l) p left right r within))

within_right : (first start p : ℕ) (left right t : Tree) → IsWithin first (branch p left right) start t
    → IsWithin (first + leaf_count left) right start t
within_right first start p left right (leaf q) within = absurd (let e : branch p left right ≡ leaf q = within.1 in cc)
within_right first start p left right (branch q l r) (inl within) =
    let e : branch p left right ≡ branch q l r = within.1 in
    let same : left ≡ l = cc in
    let other : right ≡ r = cc in
    let at : first ≡ start = within.0 in
    let there : start + leaf_count l ≡ first + leaf_count left = omega (arith, at, ap leaf_count same) in
    let At : ℕ → Type 0 = λ n. IsWithin n right (start + leaf_count l) r in
    let Of : Tree → Type 0 = λ t. IsWithin (start + leaf_count l) t (start + leaf_count l) r in
    inr (inr (subst At there (subst Of (sym other) (within-self (start + leaf_count l) r))))
within_right first start p left right (branch q l r) (inr (inl within)) =
    inr (inl (within_right first start p left right l within))
within_right first start p left right (branch q l r) (inr (inr within)) =
    inr (inr (within_right first (start + leaf_count l) p left right r within))

pub node-left : (first p : ℕ) (left right : Tree) (peaks : List Tree) → IsNodeAt first (branch p left right) peaks
    → IsNodeAt first left peaks
node-left first p left right [] stands = stands
node-left first p left right (t ∷ ts) (inl within) = inl (within_left first (leaves ts) p left right t within)
node-left first p left right (t ∷ ts) (inr stands) = inr (node-left first p left right ts stands)

pub node-right : (first p : ℕ) (left right : Tree) (peaks : List Tree) → IsNodeAt first (branch p left right) peaks
    → IsNodeAt (first + leaf_count left) right peaks
node-right first p left right [] stands = stands
node-right first p left right (t ∷ ts) (inl within) = inl (within_right first (leaves ts) p left right t within)
node-right first p left right (t ∷ ts) (inr stands) = inr (node-right first p left right ts stands)
