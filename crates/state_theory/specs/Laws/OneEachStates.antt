-- One string a site, in a state that is hashed.
use Rattle.std.proofs.Common.{◌≡◌, inl, inr, ⊎_elim, ℕ, ◌+◌, ◌<◌, ◌≤◌, ◌==◌, eqb, ltb, Bool, true, false, List, []}
use Rattle.std.proofs.Common.{length, None, Some}
use Rattle.std.proofs.Common.{option_map, slice_index_or, refl, sym, ◌∙◌, ap, arith}
use Rattle.std.proofs.lemmas.Bool.{ne_eqb}
use Rattle.merkle_forest.specs.Forest.{Tree, leaf, branch, position, height, leaf_count}
use Rattle.merkle_forest.specs.Hashing.{Hash, number, leaf_string, node_string}
use Rattle.merkle_forest.specs.Made.{Site, at_pending, at_partial, Made, bytes, both, value, strings}
use Rattle.merkle_forest.specs.Nodes.{nodes_of_height}
use Rattle.merkle_forest.specs.Perfect.{IsPerfect, IsPairing}
use Rattle.merkle_forest.specs.Trees.{plain_digest, inactive_peaks}
use Rattle.merkle_forest.specs.declared.bagging.Bagging.TheVariants.{BackwardFold}
use Rattle.merkle_theory.specs.Laws.MadeTrees.{choose, value_plain}
use Rattle.merkle_theory.specs.MadeTrees.{Over, plain_over, whole, made_tree}
use Rattle.merkle_theory.specs.OneEach.{OneEach}
use Rattle.state_theory.specs.SetBits.{is_zero}
use Rattle.state_theory.specs.Canonical.{Setting, State, chunk, full_chunks, next_bit, peaks, forest}
use Rattle.state_theory.specs.Canonical.{grafted_inactive}
use Rattle.state_theory.specs.MadeCanonical.{chunk_made}
use Rattle.state_theory.specs.MadeGrafted.{grafted_case, grafted_over, grafted_names}
use Rattle.state_theory.specs.MadeStates.{operations_names, made_operations, made_chunk, made_grafted}
use Rattle.state_theory.specs.MadeStates.{made_pending, made_partial}
use Rattle.state_theory.specs.MadeStates.{hashed_strings}
use Rattle.state_theory.specs.Laws.OneEachLists.{IsOne}
use Rattle.state_theory.specs.Laws.OneEachTrees.{IsOf, of_part, of_position, plain_is_over, grafted_is_over}
use Rattle.state_theory.specs.Laws.OneEachTrees.{two_sites}
use Rattle.state_theory.specs.Laws.OneEachBags.{IsOfPart}
use Rattle.state_theory.specs.Laws.OneEachRoots.{one_among, made_one, operations_naming, grafted_naming}
use Rattle.state_theory.specs.Laws.OneEachCanonical.{HasOne, canonical_one, chunk_one, if_one, next_one}

-- ---- the plain string of a node is that of the plain tree, in the grafted tree too
abbrev own_string : Hash → List (List ℕ) → ℕ → Tree → List ℕ
own_string hash elements at (leaf p) = leaf_string p (slice_index_or elements at [])
own_string hash elements at (branch p left right) =
    node_string p (plain_digest hash elements at left) (plain_digest hash elements (at + leaf_count left) right)

value_elsewhere : (hash : Hash) (p : ℕ) (string : Made) (chunk : List ℕ) (same below none : Bool) → same ≡ false
    → value hash (grafted_case p string chunk same below none) ≡ hash (value hash string)
value_elsewhere hash p string chunk true below none is = absurd cc
value_elsewhere hash p string chunk false true none is = refl
value_elsewhere hash p string chunk false false none is = refl

-- below the grafting height the two trees have the same digests
value_below : (hash : Hash) (grafting_height : ℕ) (chunk : ℕ → List ℕ) (elements : List (List ℕ)) (at : ℕ) (t : Tree)
    → IsPerfect t
    → height t < grafting_height
    → value hash (made_tree (grafted_over grafting_height chunk) (whole elements) at t)
    ≡ plain_digest hash elements at t
value_below hash grafting_height chunk elements at (leaf p) perfect low = refl
value_below hash grafting_height chunk elements at (branch p left right) perfect low =
    let over : Over = grafted_over grafting_height chunk in
    let high : ℕ = height (branch p left right) in
    let l : Made = made_tree over (whole elements) at left in
    let r : Made = made_tree over (whole elements) (at + leaf_count left) right in
    value_elsewhere hash p (both (bytes (number p)) (both l r)) (chunk at) (high == grafting_height)
    (ltb high grafting_height) (is_zero (chunk at))
    (ne_eqb high grafting_height (λ same. omega (arith, same, low)))
    ∙ ap hash (rw (
      value_below hash grafting_height chunk elements at left perfect.1 (omega (arith, low)),
      value_below hash grafting_height chunk elements (at
          + leaf_count left) right perfect.2 (omega (arith, low, perfect.0)),
    ) refl)

-- ---- the roots of the two trees of a state
abbrev HasOwn : Hash → List (List ℕ) → ℕ → Tree → List ℕ → Type 0
HasOwn hash elements first node u = u ≡ own_string hash elements first node

abbrev OfOperations : Setting → State → Site → List ℕ → Type 0
OfOperations setting state = IsOfPart (HasOwn setting.hash state.operations) ⊥ 3 (peaks setting state)

abbrev OfGrafted : Setting → State → Site → List ℕ → Type 0
OfGrafted setting state = IsOfPart (HasOwn setting.hash state.operations) (Unit {0}) 4 (peaks setting state)

operations_one : (setting : Setting) (state : State) → IsPairing setting.rule
    → IsOne (OfOperations setting state) (strings setting.hash (made_operations setting state))
operations_one setting state pairs =
    let hash : Hash = setting.hash in
    let elements : List (List ℕ) = state.operations in
    made_one hash setting.rule pairs 3 operations_names operations_naming (λ high. Unit {0}) plain_over
    (HasOwn hash elements) ⊥
    (plain_is_over hash ⊥) BackwardFold (length elements) (inactive_peaks state.floor (peaks setting state))
    (whole elements) (λ at p. refl)
    (λ at p left right perfect low. rw (
      value_plain hash elements at left,
      value_plain hash elements (at + leaf_count left) right,
    ) refl)

grafted_one : (setting : Setting) (state : State) → IsPairing setting.rule
    → IsOne (OfGrafted setting state) (strings setting.hash (made_grafted setting state))
grafted_one setting state pairs =
    let hash : Hash = setting.hash in
    let elements : List (List ℕ) = state.operations in
    let level : ℕ = setting.grafting_height in
    made_one hash setting.rule pairs 4 grafted_names grafted_naming (λ high. high
    ≤ level) (grafted_over level (made_chunk setting state))
    (HasOwn hash elements) (Unit {0}) (grafted_is_over hash level (made_chunk setting state))
    BackwardFold (length elements)
    (grafted_inactive setting state) (whole elements) (λ at p. refl)
    (λ at p left right perfect low. rw (
      value_below hash level (made_chunk setting state) elements at left perfect.1 (omega (arith, low)),
      value_below hash level (made_chunk setting state) elements (at
          + leaf_count left) right perfect.2 (omega (arith, low, perfect.0)),
    ) refl)

-- where a node has a string in both trees, it has one
same_in_both : (setting : Setting) (state : State) → IsPairing setting.rule → (s : Site) (u v : List ℕ)
    → OfOperations setting state s u
    → OfGrafted setting state s v → u ≡ v
same_in_both setting state pairs s u v (inr a) (inr b) = absurd (omega (arith, a, b))
same_in_both setting state pairs s u v (inr a) (inl b) =
    absurd (omega (arith, a, of_part (HasOwn setting.hash state.operations) (Unit {0}) b.0 b.1 s v b.3))
same_in_both setting state pairs s u v (inl a) (inr b) =
    absurd (omega (arith, b, of_part (HasOwn setting.hash state.operations) ⊥ a.0 a.1 s u a.3))
same_in_both setting state pairs s u v (inl a) (inl b) = plain a.3 b.3
  where
    Own : ℕ → Tree → List ℕ → Type 0
    Own = HasOwn setting.hash state.operations

    plain : IsOf Own ⊥ a.0 a.1 s u → IsOf Own (Unit {0}) b.0 b.1 s v → u ≡ v
    plain (inr x) y = absurd x.0
    plain (inl x) (inr y) = absurd (two_sites (position b.1) (position a.1) (sym y.1 ∙ x.0))
    plain (inl x) (inl y) =
        let one = one_among setting.rule pairs (length state.operations) a.0 b.0 a.1 b.1 a.2 b.2
        (sym (of_position Own ⊥ a.0 a.1 s u a.3) ∙ of_position Own (Unit {0}) b.0 b.1 s v b.3) in
        x.1 ∙ ap (λ (f : ℕ). own_string setting.hash state.operations f a.1) one.0
        ∙ ap (λ (t : Tree). own_string setting.hash state.operations b.0 t) one.1 ∙ sym y.1

-- the strings that are hashed for a state
pub hashed_one : (setting : Setting) (state : State) → IsPairing setting.rule → OneEach (hashed_strings setting state)
hashed_one setting state pairs =
    let hash : Hash = setting.hash in
    let graftable : ℕ = nodes_of_height setting.grafting_height (forest setting state) in
    let pending : HasOne hash 1 (made_pending setting state) =
    choose (HasOne hash 1) (ltb graftable (full_chunks setting state))
    (Some (chunk_made at_pending (chunk setting state graftable))) None
    (λ is. chunk_one hash at_pending (chunk setting state graftable) 1 refl) (λ is. tt) in
    let partial : HasOne hash 2 (made_partial setting state) =
    choose (HasOne hash 2) (eqb (next_bit setting state) 0) None
    (Some (chunk_made at_partial (chunk setting state (full_chunks setting state))))
    (λ is. tt) (λ is. chunk_one hash at_partial (chunk setting state (full_chunks setting state)) 2 refl) in
    canonical_one hash (record {
      operations = made_operations setting state;
      grafted = made_grafted setting state;
      pending_chunk = made_pending setting state;
      partial_chunk = option_map (λ made. (next_bit setting state, made)) (made_partial setting state);
    })
    (OfOperations setting state) (OfGrafted setting state) (operations_one setting state pairs)
    (grafted_one setting state pairs)
    (if_one hash 1 (made_pending setting state) pending)
    (next_one hash 2 (next_bit setting state) (made_partial setting state) partial)
    (λ s u here. ⊎_elim (λ node. omega (arith, of_part (HasOwn hash state.operations) ⊥ node.0 node.1 s u node.3))
    (λ is. omega (arith, is)) here)
    (λ s u here. ⊎_elim (λ node. omega (
      arith,
      of_part (HasOwn hash state.operations) (Unit {0}) node.0 node.1 s u node.3,
    ))
    (λ is. omega (arith, is)) here)
    (same_in_both setting state pairs)
