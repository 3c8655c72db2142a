-- What stands before a range, made of pinned digests, as a walk makes it.
use Rattle.std.proofs.Common.{◌≡◌, ⊎_elim, ℕ, ◌+◌, ◌<◌, ◌≤◌, true, false, cond, eqb, filter, map, length, List, [], ◌∷◌, ◌++◌}
use Rattle.std.proofs.Common.{None, Some, refl, sym, ◌∙◌, ap, ap₂, arith, append_assoc}
use Rattle.std.specs.Prelude.{unwrap_or}
use Rattle.std.proofs.lemmas.Bool.{cases_Bool, eqb-true, eq-eqb, lt-leb, leb-true, both_ways, not_from_false, or_from}
use Rattle.std.proofs.lemmas.List.{map-append}
use Rattle.std.proofs.lemmas.List.Elements.{filter-append}
use Rattle.merkle_forest.specs.Forest.{Tree, leaf, branch, position, height, leaf_count}
use Rattle.merkle_forest.specs.Laws.Peaks.{leaf_count-pos}
use Rattle.merkle_forest.specs.Trees.{Located}
use Rattle.merkle_theory.specs.Pinned.{at_peak, pinned_digest, inner_before, Begins}
use Rattle.merkle_theory.specs.Plans.{Lookup, sibling_nodes, inner_nodes}
use Rattle.merkle_theory.specs.Ranges.{Digests, is_before, is_after, meets, singly}
use Rattle.merkle_theory.proofs.PlanNodes.{siblings_out, siblings_leaf, siblings_branch, inner_met, inner_out}

-- where there is no digest none is found
pub no_digest_there : (peaks : List Located) (p : ℕ) → at_peak peaks [] p ≡ None
no_digest_there [] p = refl
no_digest_there (peak ∷ peaks) p = refl

pub at_here : (peak : Located) (peaks : List Located) (d : List ℕ) (ds : List (List ℕ)) (p : ℕ) → position peak.1 ≡ p
    → at_peak (peak ∷ peaks) (d ∷ ds) p ≡ Some d
at_here peak peaks d ds p is = ap (λ b. cond b (Some d) (at_peak peaks ds p)) (eq-eqb (position peak.1) p is)

pub at_later : (peak : Located) (peaks : List Located) (d : List ℕ) (ds : List (List ℕ)) (p : ℕ) → (position peak.1 ≡ p → ⊥)
    → at_peak (peak ∷ peaks) (d ∷ ds) p ≡ at_peak peaks ds p
at_later peak peaks d ds p differ =
    ap (λ b. cond b (Some d) (at_peak peaks ds p))
    (⊎_elim (λ same. absurd (differ (eqb-true (position peak.1) p same))) (λ other. other) (cases_Bool (eqb (position peak.1) p)))

module _ (node_of : ℕ → List ℕ → List ℕ → List ℕ) (none : List ℕ) (known : Lookup) where
  abbrev digest : Digests
  digest = pinned_digest node_of none known

  pub pinned_here : (at p : ℕ) (t : Tree) (d : List ℕ) → p ≡ position t → known p ≡ Some d → digest at t ≡ d
  pinned_here at p (leaf q) d same is = ap (λ o. unwrap_or o none) (ap known (sym same) ∙ is)
  pinned_here at p (branch q left right) d same is =
      ap (λ o. unwrap_or o (node_of q (digest at left) (digest (at + leaf_count left) right))) (ap known (sym same) ∙ is)

  pub not_pinned : (at p high : ℕ) (t : Tree) → p ≡ position t → high ≡ height t → high ≡ 0 → known p ≡ None → digest at t ≡ none
  not_pinned at p high (leaf q) same level low is = ap (λ o. unwrap_or o none) (ap known (sym same) ∙ is)
  not_pinned at p high (branch q left right) same level low is = absurd (omega (arith, level, low))

  pub made_of_two : (at p q : ℕ) (left right : Tree) → p ≡ q → known p ≡ None
      → digest at (branch q left right) ≡ node_of q (digest at left) (digest (at + leaf_count left) right)
  made_of_two at p q left right same is =
      ap (λ o. unwrap_or o (node_of q (digest at left) (digest (at + leaf_count left) right))) (ap known (sym same) ∙ is)

late_one : (start at : ℕ) (t : Tree) → start ≤ at → filter (is_before start) ((at, t) ∷ []) ≡ []
late_one start at t le =
    let late : is_before start (at, t) ≡ false = lt-leb (at + leaf_count t) start (omega (arith, le, leaf_count-pos t)) in
    rw late refl

-- no maximal node from the range's beginning on stands before it
pub none_before : (start stop at : ℕ) (t : Tree) → start ≤ at → filter (is_before start) (sibling_nodes start stop at t) ≡ []
none_before start stop at (leaf p) le =
    ⊎_elim (λ met. ap (filter (is_before start)) (siblings_leaf start stop at p met))
    (λ out. ap (filter (is_before start)) (siblings_out start stop at (leaf p) out) ∙ late_one start at (leaf p) le)
    (cases_Bool (meets start stop (at, leaf p)))
none_before start stop at (branch p left right) le =
    ⊎_elim
    (λ met. ap (filter (is_before start)) (siblings_branch start stop at p left right met)
    ∙ filter-append (is_before start) (sibling_nodes start stop at left) (sibling_nodes start stop (at + leaf_count left) right)
    ∙ ap₂ (λ xs ys. xs ++ ys) (none_before start stop at left le) (none_before start stop (at + leaf_count left) right (omega (arith, le))))
    (λ out. ap (filter (is_before start)) (siblings_out start stop at (branch p left right) out)
    ∙ late_one start at (branch p left right) le)
    (cases_Bool (meets start stop (at, branch p left right)))

-- a tree that begins before the range and does not meet it stands before it
pub one_before : (start stop at : ℕ) (t : Tree) → at < start → start ≤ stop → meets start stop (at, t) ≡ false
    → filter (is_before start) (sibling_nodes start stop at t) ≡ (at, t) ∷ []
one_before start stop at t lt le out =
    let early : is_before start (at, t) ≡ true =
    ⊎_elim (λ front. front) (λ not_front. ⊎_elim (λ back. absurd (omega (arith, lt, le, leb-true stop at back)))
    (λ not_back. absurd (both_ways (meets start stop (at, t)) out
    (not_from_false _ (or_from (is_before start (at, t)) (is_after stop (at, t)) not_front not_back)))) (cases_Bool (is_after stop (at, t))))
    (cases_Bool (is_before start (at, t))) in
    ap (filter (is_before start)) (siblings_out start stop at t out) ∙ rw early refl

-- of a leaf that meets the range none
pub low_before : (start stop at high : ℕ) (t : Tree) → high ≡ height t → high ≡ 0 → meets start stop (at, t) ≡ true
    → filter (is_before start) (sibling_nodes start stop at t) ≡ []
low_before start stop at high (leaf p) level low met = ap (filter (is_before start)) (siblings_leaf start stop at p met)
low_before start stop at high (branch p left right) level low met = absurd (omega (arith, level, low))

pub two_before : (start stop at p : ℕ) (left right : Tree) → meets start stop (at, branch p left right) ≡ true
    → filter (is_before start) (sibling_nodes start stop at (branch p left right))
    ≡ filter (is_before start) (sibling_nodes start stop at left) ++ filter (is_before start) (sibling_nodes start stop (at + leaf_count left) right)
two_before start stop at p left right met =
    ap (filter (is_before start)) (siblings_branch start stop at p left right met)
    ∙ filter-append (is_before start) (sibling_nodes start stop at left) (sibling_nodes start stop (at + leaf_count left) right)

pub peak_before : (digest : Digests) (start stop : ℕ) (peak : Located) (peaks : List Located) → meets start stop peak ≡ true
    → inner_before digest start stop (peak ∷ peaks)
    ≡ singly digest (filter (is_before start) (sibling_nodes start stop peak.0 peak.1)) ++ inner_before digest start stop peaks
peak_before digest start stop peak peaks met =
    let f : Located → List ℕ = λ n. digest n.0 n.1 in
    ap (λ ns. singly digest (filter (is_before start) ns)) (inner_met start stop peak peaks met)
    ∙ ap (singly digest) (filter-append (is_before start) (sibling_nodes start stop peak.0 peak.1) (inner_nodes start stop peaks))
    ∙ map-append f (filter (is_before start) (sibling_nodes start stop peak.0 peak.1)) (filter (is_before start) (inner_nodes start stop peaks))

pub peak_apart : (digest : Digests) (start stop : ℕ) (peak : Located) (peaks : List Located) → meets start stop peak ≡ false
    → inner_before digest start stop (peak ∷ peaks) ≡ inner_before digest start stop peaks
peak_apart digest start stop peak peaks out = ap (λ ns. singly digest (filter (is_before start) ns)) (inner_out start stop peak peaks out)

-- digests, and then more
pub more_singly : (digest : Digests) (old one new : List (List ℕ)) (xs ys : List Located) → one ≡ old ++ singly digest xs
    → new ≡ one ++ singly digest ys
    → new ≡ old ++ singly digest (xs ++ ys)
more_singly digest old one new xs ys first second =
    let f : Located → List ℕ = λ n. digest n.0 n.1 in
    second ∙ ap (λ zs. zs ++ singly digest ys) first ∙ append_assoc old (singly digest xs) (singly digest ys)
    ∙ ap (λ zs. old ++ zs) (sym (map-append f xs ys))

-- one more digest
pub pushed_digest : {D : Type 0} (encoding : D → List ℕ) (old new : List D) (d : D) (e : List ℕ) → new ≡ old ++ (d ∷ []) → encoding d ≡ e
    → map encoding new ≡ map encoding old ++ (e ∷ [])
pushed_digest encoding old new d e is same =
    ap (map encoding) is ∙ map-append encoding old (d ∷ []) ∙ ap (λ x. map encoding old ++ (x ∷ [])) same

-- no digest begins each list
pub begins_none : {D : Type 0} (encoding : D → List ℕ) (front : List D) (digests : List (List ℕ)) → length front < 1
    → Begins (map encoding front) digests
begins_none encoding [] digests lt = (digests, refl)
begins_none encoding (d ∷ front) digests lt = absurd (omega (arith, lt))
