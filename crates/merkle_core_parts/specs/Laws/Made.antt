-- The nodes that leaves add to a tree, as they are made one after the other.
use Rattle.std.proofs.Common.{◌≡◌, ℕ, zero, suc, ◌+◌, ◌-◌, ◌<◌, ◌≤◌, ◌⊎◌, inl, inr, eqb, ltb, List, [], ◌∷◌, ◌++◌}
use Rattle.std.proofs.Common.{length, map}
use Rattle.std.proofs.Common.{Option, Some, get_or, refl, sym, ◌∙◌, ap, ap₂, subst, arith, eq-eqb}
use Rattle.std.proofs.lemmas.Bool.{cases_lt, cases_eq, cond-true, cond-false, lt-ltb, le-ltb, ne_eqb}
use Rattle.std.proofs.lemmas.List.{length-map, map-append}
use Rattle.std.specs.Prelude.{slice_get, IsSome}
use Rattle.std.specs.Option.{option_map}
use Rattle.std.specs.List.{find}
use Rattle.merkle_forest.specs.Forest.{Tree, leaf, branch, position, leaf_count, Rule, forest_of}
use Rattle.merkle_forest.specs.Nodes.{IsNodeAt}
use Rattle.merkle_forest.specs.Perfect.{IsPairing}
use Rattle.merkle_forest.specs.Laws.NodeGrowth.{numbered, one-node}
use Rattle.merkle_core_parts.specs.Mem.{NodeHash, Replacement, encoded, node_count}
use Rattle.merkle_core_parts.specs.Mem.{IsKept, IsPeak, digest_at, known_over}
use Rattle.merkle_core_parts.specs.Laws.Growth.{IsNew, IsParent, grown}
use Rattle.merkle_core_parts.specs.Laws.Kept.{kept}
use Rattle.merkle_forest.specs.Laws.Places.{node-left, node-right}
use Rattle.merkle_core_parts.specs.Laws.Rebuilt.{Digests}

pub get-front : (xs ys : List (List ℕ)) (i : ℕ) (x : List ℕ) → slice_get xs i ≡ Some x → slice_get (xs ++ ys) i ≡ Some x
get-front [] ys i x is = absurd cc
get-front (y ∷ xs) ys zero x is = is
get-front (y ∷ xs) ys (suc i) x is = get-front xs ys i x is

pub get-last : (xs : List (List ℕ)) (x : List ℕ) (i : ℕ) → i ≡ length xs → slice_get (xs ++ x ∷ []) i ≡ Some x
get-last [] x zero is = refl
get-last [] x (suc i) is = absurd (omega arith)
get-last (y ∷ xs) x zero is = absurd (omega arith)
get-last (y ∷ xs) x (suc i) is = get-last xs x i (omega arith)

-- each peak of the base is among them
abbrev pub HavePeaks : Rule → ℕ → List Replacement → Type 0
HavePeaks rule base peaks = (tree : Tree) → IsPeak tree (forest_of rule base) → IsSome (digest_at peaks (position tree))

-- branches that are not before the nodes of so many leaves are hashed from their children
abbrev pub IsHashed : Rule → NodeHash → ℕ → Digests → Type 0
IsHashed rule node boundary after = (f p : ℕ) (l r : Tree) → node_count rule boundary ≤ p
    → after f (branch p l r) ≡ node p (after f l) (after (f + leaf_count l) r)

-- of the forest of n leaves, the new nodes at positions below a count and the peaks of the base have their digests
pub record AreMade (rule : Rule) (after : Digests) (base n count : ℕ) (known : ℕ → Option (List ℕ)) : Type 0 where
  pub each : (f : ℕ) (t : Tree) → IsNodeAt f t (forest_of rule n) → IsKept rule base (position t) → position t < count
      → known (position t) ≡ Some (after f t)

pub known-front : (base_size : ℕ) (peaks : List Replacement) (added : List (List ℕ)) (d x : List ℕ) (p : ℕ)
    → known_over base_size peaks added p ≡ Some x → known_over base_size peaks (added ++ d ∷ []) p ≡ Some x
known-front base_size peaks added d x p is =
    elim (cases_lt p base_size) [
      | inl before ↦
          cond-true (ltb p base_size) (digest_at peaks p) (slice_get (added ++ d ∷ []) (p - base_size))
          (lt-ltb p base_size before)
          ∙ sym (cond-true (ltb p base_size) (digest_at peaks p) (slice_get added (p - base_size))
          (lt-ltb p base_size before))
          ∙ is
      | inr after ↦
          cond-false (ltb p base_size) (digest_at peaks p) (slice_get (added ++ d ∷ []) (p - base_size))
          (le-ltb p base_size after)
          ∙ get-front added (d ∷ []) (p - base_size) x
          (sym (cond-false (ltb p base_size) (digest_at peaks p) (slice_get added (p - base_size))
          (le-ltb p base_size after)) ∙ is)
    ]

pub known-last : (base_size : ℕ) (peaks : List Replacement) (added : List (List ℕ)) (d : List ℕ) (p : ℕ)
    → p ≡ base_size + length added → known_over base_size peaks (added ++ d ∷ []) p ≡ Some d
known-last base_size peaks added d p is =
    cond-false (ltb p base_size) (digest_at peaks p) (slice_get (added ++ d ∷ []) (p - base_size))
    (le-ltb p base_size (omega (arith, is)))
    ∙ get-last added d (p - base_size) (omega (arith, is))

some_at : (xs : List (List ℕ)) (i : ℕ) → i < length xs → IsSome (slice_get xs i)
some_at [] i lt = absurd (omega arith)
some_at (x ∷ xs) zero lt = refl
some_at (x ∷ xs) (suc i) lt = some_at xs i (omega arith)

peak_some : (rule : Rule) (base : ℕ) (peaks : List Replacement) (p : ℕ) → HavePeaks rule base peaks
    → p < node_count rule base
    → IsKept rule base p → IsSome (digest_at peaks p)
peak_some rule base peaks p have lt (inl after) = absurd (omega (arith, lt, after))
peak_some rule base peaks p have lt (inr (tree, peak, at)) = subst (λ q. IsSome (digest_at peaks q)) at (have tree peak)

-- what new nodes are made from is known
pub known-some : (rule : Rule) (base base_size : ℕ) (peaks : List Replacement) (added : List (List ℕ)) (p : ℕ)
    → base_size ≡ node_count rule base → HavePeaks rule base peaks → IsKept rule base p → p < base_size + length added
    → IsSome (known_over base_size peaks added p)
known-some rule base base_size peaks added p sized have keeps below =
    elim (cases_lt p base_size) [
      | inl before ↦
          subst (λ o. IsSome o) (sym (cond-true (ltb p base_size) (digest_at peaks p) (slice_get added (p - base_size))
          (lt-ltb p base_size before)))
          (peak_some rule base peaks p have (omega (arith, before, sized)) keeps)
      | inr after ↦
          subst (λ o. IsSome o) (sym (cond-false (ltb p base_size) (digest_at peaks p) (slice_get added (p - base_size))
          (le-ltb p base_size after)))
          (some_at added (p - base_size) (omega (arith, after, below)))
    ]

-- the children of a new branch are such
pub left-kept : (rule : Rule) → IsPairing rule → (base n p h : ℕ) → base ≤ n → node_count rule base ≤ p
    → (it : IsParent rule n p h) → IsKept rule base (position it.left)
left-kept rule pairs base n p h le after it =
    (kept rule pairs base (suc n) (omega (arith, le))).left it.first p it.left it.right it.stands after

pub right-kept : (rule : Rule) → IsPairing rule → (base n p h : ℕ) → base ≤ n → node_count rule base ≤ p
    → (it : IsParent rule n p h) → IsKept rule base (position it.right)
right-kept rule pairs base n p h le after it =
    (kept rule pairs base (suc n) (omega (arith, le))).right it.first p it.left it.right it.stands after

leaf_case : (rule : Rule) (after : Digests) (base n base_size : ℕ) (peaks : List Replacement) (added : List (List ℕ))
    (d : List ℕ) (f : ℕ) (t : Tree) → IsPairing rule
    → AreMade rule after base n (node_count rule n) (known_over base_size peaks added)
    → base_size + length added ≡ node_count rule n → after n (leaf (node_count rule n)) ≡ d
    → IsKept rule base (position t) → position t < suc (node_count rule n)
    → IsNodeAt f t (forest_of rule n) ⊎ IsNew n (node_count rule n) f t
    → known_over base_size peaks (added ++ d ∷ []) (position t) ≡ Some (after f t)
leaf_case rule after base n base_size peaks added d f t pairs made counted is keeps before (inl old) =
    known-front base_size peaks added d (after f t) (position t)
    (made.each f t old keeps ((numbered rule pairs n).below f t old))
leaf_case rule after base n base_size peaks added d f t pairs made counted is keeps before (inr (inl new)) =
    let at : position t ≡ node_count rule n = ap position new.1 in
    known-last base_size peaks added d (position t) (omega (arith, at, counted))
    ∙ ap (λ x. Some x) (sym is ∙ sym (ap₂ after new.0 new.1))
leaf_case rule after base n base_size peaks added d f t pairs made counted is keeps before (inr (inr new)) =
    absurd (let at : position t ≡ new.at = ap position new.is in omega (arith, at, before, new.after))

-- a leaf is made after the nodes before it
pub made-leaf : (rule : Rule) → IsPairing rule → (after : Digests) (base n base_size : ℕ) (peaks : List Replacement)
    (added : List (List ℕ)) (d : List ℕ)
    → AreMade rule after base n (node_count rule n) (known_over base_size peaks added)
    → base_size + length added ≡ node_count rule n → after n (leaf (node_count rule n)) ≡ d
    → AreMade rule after base (suc n) (suc (node_count rule n)) (known_over base_size peaks (added ++ d ∷ []))
made-leaf rule pairs after base n base_size peaks added d made counted is = record {
  each = λ f t stands keeps before. leaf_case rule after base n base_size peaks added d f t pairs made counted is keeps
      before ((grown rule pairs n).each f t stands);
}

branch_case : (rule : Rule) → IsPairing rule → (after : Digests) (base n base_size count : ℕ) (peaks : List Replacement)
    (added : List (List ℕ)) (g : ℕ) (u : Tree) (d : List ℕ) (f : ℕ) (t : Tree)
    → AreMade rule after base n count (known_over base_size peaks added) → base_size + length added ≡ count
    → IsNodeAt g u (forest_of rule n) → position u ≡ count → d ≡ after g u
    → IsNodeAt f t (forest_of rule n) → IsKept rule base (position t) → position t < suc count
    → (position t < count) ⊎ (count ≤ position t)
    → known_over base_size peaks (added ++ d ∷ []) (position t) ≡ Some (after f t)
branch_case rule pairs after base n base_size count peaks added g u d f t made counted stands at is there keeps before
    (inl old) = known-front base_size peaks added d (after f t) (position t) (made.each f t there keeps old)
branch_case rule pairs after base n base_size count peaks added g u d f t made counted stands at is there keeps before
    (inr new) =
    let here : position u ≡ position t = omega (arith, at, before, new) in
    let same = one-node rule pairs n n g f u t stands there here in
    known-last base_size peaks added d (position t) (omega (arith, before, new, counted))
    ∙ ap (λ x. Some x) (is ∙ ap₂ after same.0 same.1)

-- a branch is made after its children
pub made-branch : (rule : Rule) → IsPairing rule → (node : NodeHash) (after : Digests) (base n base_size p h : ℕ)
    (peaks : List Replacement) (added : List (List ℕ)) (x y d : List ℕ) → IsHashed rule node base after
    → AreMade rule after base (suc n) p (known_over base_size peaks added) → base_size + length added ≡ p
    → base_size ≡ node_count rule base → base ≤ n
    → (it : IsParent rule n p h) → known_over base_size peaks added (position it.left) ≡ Some x
    → known_over base_size peaks added (position it.right) ≡ Some y → d ≡ node p x y
    → AreMade rule after base (suc n) (suc p) (known_over base_size peaks (added ++ d ∷ []))
made-branch rule pairs node after base n base_size p h peaks added x y d hashed made counted sized le it is_x is_y is =
    let past : node_count rule base ≤ p = omega (arith, sized, counted) in
    let stands = it.stands in
    let known = known_over base_size peaks added in
    let left_is : ◌≡◌ {A = Option (List ℕ)} (Some (after it.first it.left)) (Some x) =
    sym (made.each it.first it.left (node-left it.first p it.left it.right (forest_of rule (suc n)) stands)
    (left-kept rule pairs base n p h le past it) it.left_before) ∙ is_x in
    let right_is : ◌≡◌ {A = Option (List ℕ)} (Some (after (it.first + leaf_count it.left) it.right)) (Some y) =
    sym (made.each (it.first + leaf_count it.left) it.right
    (node-right it.first p it.left it.right (forest_of rule (suc n)) stands)
    (right-kept rule pairs base n p h le past it) it.right_before) ∙ is_y in
    let one : after it.first it.left ≡ x = cc in
    let other : after (it.first + leaf_count it.left) it.right ≡ y = cc in
    let whole : d ≡ after it.first (branch p it.left it.right) =
    is ∙ sym (hashed it.first p it.left it.right past ∙ ap₂ (node p) one other) in
    record {
      each = λ f t there keeps before. branch_case rule pairs after base (suc n) base_size p peaks added it.first
          (branch p it.left it.right) d f t made counted stands refl whole there keeps before
          (cases_lt (position t) p);
    }

-- the digests of a list of digests at positions
pub digest-encoded : {D : Type 0} (encoding : D → List ℕ) (peaks : List (ℕ × D)) (p : ℕ)
    → option_map encoding (option_map (λ one. one.1) (find (λ one. eqb one.0 p) peaks))
    ≡ digest_at (encoded encoding peaks) p
digest-encoded encoding [] p = refl
digest-encoded {D} encoding (one ∷ more) p =
    elim (cases_eq one.0 p) [
      | inl same ↦
          ap (λ o. option_map encoding (option_map (λ (u : ℕ × D). u.1) o))
          (cond-true (eqb one.0 p) (Some one) (find (λ u. eqb u.0 p) more) (eq-eqb one.0 p same))
          ∙ sym (ap (λ o. option_map (λ (u : Replacement). u.1) o)
          (cond-true (eqb one.0 p) (Some (one.0, encoding one.1)) (find (λ u. eqb u.0 p) (encoded encoding more))
          (eq-eqb one.0 p same)))
      | inr apart ↦
          ap (λ o. option_map encoding (option_map (λ (u : ℕ × D). u.1) o))
          (cond-false (eqb one.0 p) (Some one) (find (λ u. eqb u.0 p) more) (ne_eqb one.0 p apart))
          ∙ digest-encoded encoding more p
          ∙ sym (ap (λ o. option_map (λ (u : Replacement). u.1) o)
          (cond-false (eqb one.0 p) (Some (one.0, encoding one.1)) (find (λ u. eqb u.0 p) (encoded encoding more))
          (ne_eqb one.0 p apart)))
    ]

-- one more digest at the end
pub mapped-push : {D : Type 0} (encoding : D → List ℕ) (items after : List D) (digest : D)
    → after ≡ items ++ digest ∷ []
    → map encoding items ++ encoding digest ∷ [] ≡ map encoding after
mapped-push encoding items after digest is = sym (ap (map encoding) is ∙ map-append encoding items (digest ∷ []))

-- what a child of the next branch is made from is known
pub known-child : {D : Type 0} (rule : Rule) (encoding : D → List ℕ) (base base_size : ℕ)
    (peaks : List Replacement) (items : List D) (child : ℕ) → base_size ≡ node_count rule base
    → HavePeaks rule base peaks
    → IsKept rule base child → child < base_size + length items
    → IsSome (known_over base_size peaks (map encoding items) child)
known-child rule encoding base base_size peaks items child sized have keeps below =
    known-some rule base base_size peaks (map encoding items) child sized have keeps
    (omega (arith, below, length-map items encoding))

-- what stands at an index of the digests of a list
pub get-mapped : {D : Type 0} (encoding : D → List ℕ) (items : List D) (i : ℕ)
    → option_map encoding (slice_get items i) ≡ slice_get (map encoding items) i
get-mapped encoding [] i = refl
get-mapped encoding (x ∷ items) zero = refl
get-mapped encoding (x ∷ items) (suc i) = get-mapped encoding items i

pub get-item : {D : Type 0} (encoding : D → List ℕ) (items : List D) (i : ℕ) (x : D) → i < length items
    → x ≡ get_or items i x → slice_get (map encoding items) i ≡ Some (encoding x)
get-item encoding [] i x lt is = absurd (omega arith)
get-item encoding (y ∷ items) zero x lt is = ap (λ z. Some (encoding z)) (sym is)
get-item encoding (y ∷ items) (suc i) x lt is = get-item encoding items i x (omega arith) is
