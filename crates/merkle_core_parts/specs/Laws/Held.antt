-- Which nodes a tree that was pruned has: those that it keeps, and no others.
use Rattle.std.proofs.Common.{◌≡◌, ℕ, ◌-◌, ◌<◌, ◌≤◌, ◌⊎◌, inl, inr, eqb, ltb, List, [], ◌∷◌, ◌++◌, length, map}
use Rattle.std.proofs.Common.{Option, Some, None, refl, sym, ◌∙◌, ap, subst, arith, eq-eqb}
use Rattle.std.proofs.lemmas.Bool.{cases_lt, cases_eq, cond-true, cond-false, lt-ltb, ne_eqb}
use Rattle.std.proofs.lemmas.List.{map-append}
use Rattle.std.specs.Prelude.{slice_get, IsSome, IfSome}
use Rattle.std.specs.Option.{option_map}
use Rattle.std.specs.List.{find}
use Rattle.merkle_forest.specs.Forest.{Tree, position, leaves, Rule, forest_of}
use Rattle.merkle_forest.specs.Nodes.{IsNodeAt, IsPeakAt}
use Rattle.merkle_forest.specs.Peaks.{peak_positions, position_and_height}
use Rattle.merkle_forest.specs.Perfect.{IsPairing}
use Rattle.merkle_forest.specs.Trees.{located}
use Rattle.merkle_forest.specs.Laws.ForestGrowth.{size-mono}
use Rattle.merkle_forest.specs.Laws.NodeGrowth.{numbered}
use Rattle.merkle_forest.specs.Laws.Nodes.{peak-node}
use Rattle.merkle_core_parts.specs.Mem.{Nodes, Replacement, NodeHash, node_count, node_at, digest_at}
use Rattle.merkle_core_parts.specs.Mem.{IsPeak, IsKept, IsPeakPosition, AreKeptNodes, AreNodesOf, tree_digest}
use Rattle.merkle_core_parts.specs.Laws.Kept.{kept}
use Rattle.merkle_core_parts.specs.Laws.Made.{HavePeaks, known-some}

-- a position is one of these
abbrev pub IsOneOf : ℕ → List ℕ → Type 0
IsOneOf p [] = ⊥
IsOneOf p (q ∷ qs) = (q ≡ p) ⊎ IsOneOf p qs

one_of_front : (p : ℕ) (xs ys : List ℕ) → IsOneOf p xs → IsOneOf p (xs ++ ys)
one_of_front p [] ys it = absurd it
one_of_front p (x ∷ xs) ys (inl same) = inl same
one_of_front p (x ∷ xs) ys (inr it) = inr (one_of_front p xs ys it)

one_of_last : (p q : ℕ) (xs : List ℕ) → q ≡ p → IsOneOf p (xs ++ q ∷ [])
one_of_last p q [] same = inl same
one_of_last p q (x ∷ xs) same = inr (one_of_last p q xs same)

one_of_parts : (p q : ℕ) (xs : List ℕ) → IsOneOf p (xs ++ q ∷ []) → IsOneOf p xs ⊎ (q ≡ p)
one_of_parts p q [] (inl same) = inr same
one_of_parts p q [] (inr none) = absurd none
one_of_parts p q (x ∷ xs) (inl same) = inl (inl same)
one_of_parts p q (x ∷ xs) (inr it) =
    elim (one_of_parts p q xs it) [ inl front ↦ inl (inr front) | inr last ↦ inr last ]

positions_step : (t : Tree) (ts : List Tree)
    → map (λ peak. peak.0) (peak_positions (t ∷ ts)) ≡ map (λ peak. peak.0) (peak_positions ts) ++ position t ∷ []
positions_step t ts =
    ap (map (λ (peak : ℕ × ℕ). peak.0)) (map-append position_and_height (located ts) ((leaves ts, t) ∷ []))
    ∙ map-append (λ (peak : ℕ × ℕ). peak.0) (peak_positions ts) (position_and_height (leaves ts, t) ∷ [])

-- each peak stands at one of the pinned positions, and at each of them stands a peak
pub peak-pinned : (f : ℕ) (t : Tree) (peaks : List Tree) → IsPeakAt f t peaks
    → IsOneOf (position t) (map (λ peak. peak.0) (peak_positions peaks))
peak-pinned f t [] stands = absurd stands
peak-pinned f t (p ∷ ps) (inl it) =
    subst (IsOneOf (position t)) (sym (positions_step p ps))
    (one_of_last (position t) (position p) (map (λ peak. peak.0) (peak_positions ps)) (ap position (sym it.1)))
peak-pinned f t (p ∷ ps) (inr stands) =
    subst (IsOneOf (position t)) (sym (positions_step p ps))
    (one_of_front (position t) (map (λ peak. peak.0) (peak_positions ps)) (position p ∷ []) (peak-pinned f t ps stands))

peak_later : (q : ℕ) (p : Tree) (ps : List Tree) → (t : Tree) × IsPeak t ps × (position t ≡ q)
    → (t : Tree) × IsPeak t (p ∷ ps) × (position t ≡ q)
peak_later q p ps (t, (f, stands), at) = (t, (f, inr stands), at)

pub pinned-peak : (q : ℕ) (peaks : List Tree) → IsOneOf q (map (λ peak. peak.0) (peak_positions peaks))
    → (t : Tree) × IsPeak t peaks × (position t ≡ q)
pinned-peak q [] it = absurd it
pinned-peak q (p ∷ ps) it =
    elim (one_of_parts q (position p) (map (λ peak. peak.0) (peak_positions ps))
    (subst (IsOneOf q) (positions_step p ps) it)) [
      | inl front ↦ peak_later q p ps (pinned-peak q ps front)
      | inr last ↦ (p, (leaves ps, inl (refl, refl)), last)
    ]

pub digest-there : (q : ℕ) (pinned : List Replacement) → IsOneOf q (map (λ one. one.0) pinned)
    → IsSome (digest_at pinned q)
digest-there q [] it = absurd it
digest-there q (u ∷ us) it =
    elim (cases_eq u.0 q) [
      | inl same ↦
          subst (λ o. IsSome (option_map (λ (one : Replacement). one.1) o))
          (sym (cond-true (eqb u.0 q) (Some u) (find (λ one. eqb one.0 q) us) (eq-eqb u.0 q same))) refl
      | inr apart ↦
          subst (λ o. IsSome (option_map (λ (one : Replacement). one.1) o))
          (sym (cond-false (eqb u.0 q) (Some u) (find (λ one. eqb one.0 q) us) (ne_eqb u.0 q apart)))
          (digest-there q us (elim it [ inl same ↦ absurd (apart same) | inr more ↦ more ]))
    ]

pub digest-where : (q : ℕ) (pinned : List Replacement) → IsSome (digest_at pinned q)
    → IsOneOf q (map (λ one. one.0) pinned)
digest-where q [] some = absurd cc
digest-where q (u ∷ us) some =
    elim (cases_eq u.0 q) [
      | inl same ↦ inl same
      | inr apart ↦
          inr (digest-where q us (subst (λ o. IsSome (option_map (λ (one : Replacement). one.1) o))
          (cond-false (eqb u.0 q) (Some u) (find (λ one. eqb one.0 q) us) (ne_eqb u.0 q apart)) some))
    ]

pub have-pinned : (rule : Rule) (nodes : Nodes) → AreKeptNodes rule nodes → HavePeaks rule nodes.boundary nodes.pinned
have-pinned rule nodes shape tree peak =
    digest-there (position tree) nodes.pinned
    (subst (IsOneOf (position tree)) (sym shape.pinned)
    (peak-pinned peak.0 tree (forest_of rule nodes.boundary) peak.1))

-- what is kept is there
pub kept-there : (rule : Rule) (nodes : Nodes) (p : ℕ) → AreKeptNodes rule nodes → IsKept rule nodes.boundary p
    → p < node_count rule nodes.leaves → IsSome (node_at rule nodes p)
kept-there rule nodes p shape keeps below =
    known-some rule nodes.boundary (node_count rule nodes.boundary) nodes.pinned nodes.digests p refl
    (have-pinned rule nodes shape) keeps (omega (arith, below, shape.counted))

-- and so are the peaks of the first leaves, where no fewer than the pruned ones
pub peak-there : (rule : Rule) → IsPairing rule → (nodes : Nodes) (n p : ℕ) → AreKeptNodes rule nodes
    → nodes.boundary ≤ n → n ≤ nodes.leaves → IsPeakPosition rule n p → IsSome (node_at rule nodes p)
peak-there rule pairs nodes n p shape from within (tree, (first, stands), at) =
    let below = (numbered rule pairs n).below first tree (peak-node first tree (forest_of rule n) stands) in
    subst (λ q. IsSome (node_at rule nodes q)) at
    (kept-there rule nodes (position tree) shape ((kept rule pairs nodes.boundary n from).peak tree (first, stands))
    (omega (arith, below, size-mono rule pairs n nodes.leaves within)))

-- what is there is kept
pub there-kept : (rule : Rule) (nodes : Nodes) (p : ℕ) → AreKeptNodes rule nodes → IsSome (node_at rule nodes p)
    → IsKept rule nodes.boundary p
there-kept rule nodes p shape some =
    let start = node_count rule nodes.boundary in
    elim (cases_lt p start) [
      | inl before ↦
          inr (pinned-peak p (forest_of rule nodes.boundary) (subst (IsOneOf p) shape.pinned
          (digest-where p nodes.pinned (subst (λ o. IsSome o)
          (cond-true (ltb p start) (digest_at nodes.pinned p) (slice_get nodes.digests (p - start))
          (lt-ltb p start before))
          some))))
      | inr after ↦ inl after
    ]

-- so each node of the tree of a list that is there has its digest
pub right-there : (node : NodeHash) (rule : Rule) (leaf_digests : List (List ℕ)) (nodes : Nodes)
    → AreNodesOf node rule leaf_digests nodes → (f : ℕ) (t : Tree) → IsNodeAt f t (forest_of rule (length leaf_digests))
    → IfSome (node_at rule nodes (position t)) (λ d. d ≡ tree_digest node leaf_digests f t)
right-there node rule leaf_digests nodes are f t stands = own (node_at rule nodes (position t)) refl
  where
    own : (o : Option (List ℕ)) → o ≡ node_at rule nodes (position t)
        → IfSome o (λ d. d ≡ tree_digest node leaf_digests f t)
    own None is = tt
    own (Some d) is =
        let some : IsSome (node_at rule nodes (position t)) = subst (λ o. IsSome o) is refl in
        let whole = are.digests f t stands (there-kept rule nodes (position t) are.shape some) in
        let same : ◌≡◌ {A = Option (List ℕ)} (Some d) (Some (tree_digest node leaf_digests f t)) = is ∙ whole in
        cc
