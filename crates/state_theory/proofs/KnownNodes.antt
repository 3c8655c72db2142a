-- Where the digests of all nodes that a proof is made of are known, the proof's digests are those of the tree.
use Rattle.std.proofs.Common.{◌≡◌, inl, inr, ℕ, zero, suc, ◌+◌, Bool, true, false, cond, filter, List, [], ◌∷◌, ◌++◌}
use Rattle.std.proofs.Common.{take, drop, Option, None, Some, refl, sym, ◌∙◌, ap, append_assoc}
use Rattle.std.specs.List.{AllByRecursion, flat_map}
use Rattle.std.specs.Prelude.{is_none, unwrap_or}
use Rattle.merkle_forest.specs.declared.bagging.Bagging.TheVariants.{BackwardFold}
use Rattle.merkle_forest.specs.Forest.{Tree, leaf, branch, position, leaf_count, leaves, Rule, forest_of}
use Rattle.merkle_forest.specs.Hashing.{Hash}
use Rattle.merkle_forest.specs.Nodes.{IsWithin, IsNodeAt}
use Rattle.merkle_forest.specs.Trees.{Located, located}
use Rattle.merkle_theory.specs.MadeRoots.{peaks_of}
use Rattle.merkle_theory.specs.Plans.{Lookup, looked_up, first_missing, positions_of, sibling_nodes, inner_nodes, range_nodes, range_positions}
use Rattle.merkle_theory.specs.Ranges.{Digests, is_before, is_after, meets, singly, siblings, inner_digests, range_digests}

case_of : (P : Bool → Type 0) (test : Bool) → P true → P false → P test
case_of P true one other = one
case_of P false one other = other

all_parts : {A : Type 0} (P : A → Type 0) (xs ys : List A) → AllByRecursion P (xs ++ ys) → AllByRecursion P xs × AllByRecursion P ys
all_parts P [] ys all = (tt, all)
all_parts P (x ∷ xs) ys all = let rest = all_parts P xs ys all.1 in ((all.0, rest.0), rest.1)

all_after : {A : Type 0} (P : A → Type 0) (xs ys : List A) → AllByRecursion P xs → AllByRecursion P ys → AllByRecursion P (xs ++ ys)
all_after P [] ys one other = other
all_after P (x ∷ xs) ys one other = (one.0, all_after P xs ys one.1 other)

filter_parts : (test : Located → Bool) (xs ys : List Located) → filter test (xs ++ ys) ≡ filter test xs ++ filter test ys
filter_parts test [] ys = refl
filter_parts test (x ∷ xs) ys =
    let all : List Located = filter test (xs ++ ys) in
    let front : List Located = filter test xs in
    case_of (λ (b : Bool). cond b (x ∷ all) all ≡ cond b (x ∷ front) front ++ filter test ys) (test x)
    (ap (λ rest. x ∷ rest) (filter_parts test xs ys)) (filter_parts test xs ys)

take_drop : (k : ℕ) (xs : List Located) → take k xs ++ drop k xs ≡ xs
take_drop zero xs = refl
take_drop (suc k) [] = refl
take_drop (suc k) (x ∷ xs) = ap (λ rest. x ∷ rest) (take_drop k xs)

-- the digest of this node is known
abbrev IsKnown : Lookup → Located → Type 0
IsKnown known node = is_none (known (position node.1)) ≡ false

all_known : (known : Lookup) (nodes : List Located) → first_missing known (positions_of nodes) ≡ None → AllByRecursion (IsKnown known) nodes
all_known known [] none = tt
all_known known (node ∷ nodes) none =
    let p : ℕ = position node.1 in
    let rest : Option ℕ = first_missing known (positions_of nodes) in
    case_of (λ (b : Bool). is_none (known p) ≡ b → cond b (Some p) rest ≡ None → AllByRecursion (IsKnown known) (node ∷ nodes))
    (is_none (known p))
    (λ is missing. absurd (let e : ◌≡◌ {A = Option ℕ} (Some p) None = missing in cc))
    (λ is later. (is, all_known known nodes later)) refl none

module _ (known : Lookup) (digest : Digests) (trees : List Tree) (start stop : ℕ)
    (same : (first : ℕ) (tree : Tree) (d : List ℕ) → IsNodeAt first tree trees → known (position tree) ≡ Some d → d ≡ digest first tree) where
  abbrev Stands : Located → Type 0
  Stands peak = (first : ℕ) (node : Tree) → IsWithin first node peak.0 peak.1 → IsNodeAt first node trees

  found : (first : ℕ) (tree : Tree) → IsNodeAt first tree trees → IsKnown known (first, tree) → looked_up known first tree ≡ digest first tree
  found first tree stands is = case (known (position tree)) refl is
    where
      case : (d : Option (List ℕ)) → known (position tree) ≡ d → is_none d ≡ false → unwrap_or d [] ≡ digest first tree
      case None at none = absurd (let e : true ≡ false = none in cc)
      case (Some d) at some = same first tree d stands at

  self : (at : ℕ) (t : Tree) → IsWithin at t at t
  self at (leaf p) = (refl, refl)
  self at (branch p left right) = inl (refl, refl)

  siblings_same : (at : ℕ) (t : Tree) → Stands (at, t) → AllByRecursion (IsKnown known) (sibling_nodes start stop at t)
      → siblings (looked_up known) start stop at t ≡ siblings digest start stop at t
  siblings_same at (leaf p) stands all =
      case_of (λ (b : Bool). AllByRecursion (IsKnown known) (cond b [] ((at, leaf p) ∷ []))
      → cond b [] (looked_up known at (leaf p) ∷ []) ≡ cond b [] (digest at (leaf p) ∷ []))
      (meets start stop (at, leaf p)) (λ none. refl)
      (λ one. ap (λ d. d ∷ []) (found at (leaf p) (stands at (leaf p) (self at (leaf p))) one.0)) all
  siblings_same at (branch p left right) stands all =
      let t : Tree = branch p left right in
      let middle : ℕ = at + leaf_count left in
      let nodes : List Located = sibling_nodes start stop at left ++ sibling_nodes start stop middle right in
      let of : Digests → List (List ℕ) = λ d. siblings d start stop at left ++ siblings d start stop middle right in
      case_of (λ (b : Bool). AllByRecursion (IsKnown known) (cond b nodes ((at, t) ∷ []))
      → cond b (of (looked_up known)) (looked_up known at t ∷ []) ≡ cond b (of digest) (digest at t ∷ []))
      (meets start stop (at, t))
      (λ both. (let parts = all_parts (IsKnown known) (sibling_nodes start stop at left) (sibling_nodes start stop middle right) both in
      ap (λ ds. ds ++ siblings (looked_up known) start stop middle right)
      (siblings_same at left (λ first node within. stands first node (inr (inl within))) parts.0)
      ∙ ap (λ ds. siblings digest start stop at left ++ ds)
      (siblings_same middle right (λ first node within. stands first node (inr (inr within))) parts.1)))
      (λ one. ap (λ d. d ∷ []) (found at t (stands at t (self at t)) one.0)) all

  inner_same : (peaks : List Located) → AllByRecursion Stands peaks → AllByRecursion (IsKnown known) (inner_nodes start stop peaks)
      → inner_digests (looked_up known) start stop peaks ≡ inner_digests digest start stop peaks
  inner_same [] stands all = refl
  inner_same (peak ∷ peaks) stands all =
      let nodes : List Located → List Located = flat_map (λ n. sibling_nodes start stop n.0 n.1) in
      let of : Digests → List Located → List (List ℕ) = λ d. flat_map (λ n. siblings d start stop n.0 n.1) in
      let met : List Located = filter (meets start stop) peaks in
      case_of (λ (b : Bool). AllByRecursion (IsKnown known) (nodes (cond b (peak ∷ met) met))
      → of (looked_up known) (cond b (peak ∷ met) met) ≡ of digest (cond b (peak ∷ met) met))
      (meets start stop peak)
      (λ both. (let parts = all_parts (IsKnown known) (sibling_nodes start stop peak.0 peak.1) (inner_nodes start stop peaks) both in
      ap (λ ds. ds ++ inner_digests (looked_up known) start stop peaks) (siblings_same peak.0 peak.1 stands.0 parts.0)
      ∙ ap (λ ds. siblings digest start stop peak.0 peak.1 ++ ds) (inner_same peaks stands.1 parts.1)))
      (λ rest. inner_same peaks stands.1 rest) all

  singly_same : (test : Located → Bool) (peaks : List Located) → AllByRecursion Stands peaks → AllByRecursion (IsKnown known) (filter test peaks)
      → singly (looked_up known) (filter test peaks) ≡ singly digest (filter test peaks)
  singly_same test [] stands all = refl
  singly_same test (peak ∷ peaks) stands all =
      let rest : List Located = filter test peaks in
      case_of (λ (b : Bool). AllByRecursion (IsKnown known) (cond b (peak ∷ rest) rest)
      → singly (looked_up known) (cond b (peak ∷ rest) rest) ≡ singly digest (cond b (peak ∷ rest) rest))
      (test peak)
      (λ both. ap (λ d. d ∷ singly (looked_up known) rest) (found peak.0 peak.1 (stands.0 peak.0 peak.1 (self peak.0 peak.1)) both.0)
      ∙ ap (λ ds. digest peak.0 peak.1 ∷ ds) (singly_same test peaks stands.1 both.1))
      (λ later. singly_same test peaks stands.1 later) all

  inner_parts : (xs ys : List Located) → inner_nodes start stop (xs ++ ys) ≡ inner_nodes start stop xs ++ inner_nodes start stop ys
  inner_parts [] ys = refl
  inner_parts (peak ∷ xs) ys =
      let nodes : List Located → List Located = flat_map (λ n. sibling_nodes start stop n.0 n.1) in
      let met : List Located → List Located = filter (meets start stop) in
      let all : List Located = met (xs ++ ys) in
      let front : List Located = met xs in
      case_of (λ (b : Bool). nodes (cond b (peak ∷ all) all) ≡ nodes (cond b (peak ∷ front) front) ++ nodes (met ys)) (meets start stop peak)
      (ap (λ ns. sibling_nodes start stop peak.0 peak.1 ++ ns) (inner_parts xs ys)
      ∙ sym (append_assoc (sibling_nodes start stop peak.0 peak.1) (inner_nodes start stop xs) (inner_nodes start stop ys)))
      (inner_parts xs ys)

  -- the digests over the first peaks and the others
  pub digests_same : (hash : Hash) (xs ys : List Located) → AllByRecursion Stands (xs ++ ys)
      → AllByRecursion (IsKnown known) (range_nodes start stop (xs ++ ys))
      → range_digests hash (looked_up known) BackwardFold start stop xs ys ≡ range_digests hash digest BackwardFold start stop xs ys
  digests_same hash xs ys stands all =
      let all_peaks : List Located = xs ++ ys in
      let before = all_parts (IsKnown known) (filter (is_before start) all_peaks)
      (filter (is_after stop) all_peaks ++ inner_nodes start stop all_peaks) all in
      let after = all_parts (IsKnown known) (filter (is_after stop) all_peaks) (inner_nodes start stop all_peaks) before.1 in
      let befores = all_parts (IsKnown known) (filter (is_before start) xs) (filter (is_before start) ys)
      (rw (filter_parts (is_before start) xs ys) at before.0) in
      let afters = all_parts (IsKnown known) (filter (is_after stop) xs) (filter (is_after stop) ys)
      (rw (filter_parts (is_after stop) xs ys) at after.0) in
      let inners = all_parts (IsKnown known) (inner_nodes start stop xs) (inner_nodes start stop ys) (rw (inner_parts xs ys) at after.1) in
      let peaks = all_parts Stands xs ys stands in
      rw (
        singly_same (is_before start) xs peaks.0 befores.0,
        singly_same (is_before start) ys peaks.1 befores.1,
        singly_same (is_after stop) xs peaks.0 afters.0,
        singly_same (is_after stop) ys peaks.1 afters.1,
        inner_same xs peaks.0 inners.0,
        inner_same ys peaks.1 inners.1,
      ) refl

stand_among : (forest trees : List Tree) → ((first : ℕ) (node : Tree) → IsNodeAt first node trees → IsNodeAt first node forest)
    → AllByRecursion (λ (peak : Located). (first : ℕ) (node : Tree) → IsWithin first node peak.0 peak.1 → IsNodeAt first node forest) (located trees)
stand_among forest [] all = tt
stand_among forest (t ∷ ts) all =
    all_after (λ (peak : Located). (first : ℕ) (node : Tree) → IsWithin first node peak.0 peak.1 → IsNodeAt first node forest) (located ts)
    ((leaves ts, t) ∷ []) (stand_among forest ts (λ first node stands. all first node (inr stands)))
    (λ first node within. all first node (inl within), tt)

-- the digests of the proof of a range, of whose peaks so many are inactive
pub known_digests : (hash : Hash) (rule : Rule) (known : Lookup) (digest : Digests) (leaf_total inactive start stop : ℕ)
    → ((first : ℕ) (tree : Tree) (d : List ℕ) → IsNodeAt first tree (forest_of rule leaf_total) → known (position tree) ≡ Some d
    → d ≡ digest first tree)
    → first_missing known (range_positions rule leaf_total start stop) ≡ None
    → range_digests hash (looked_up known) BackwardFold start stop (take inactive (peaks_of rule leaf_total)) (drop inactive (peaks_of rule leaf_total))
    ≡ range_digests hash digest BackwardFold start stop (take inactive (peaks_of rule leaf_total)) (drop inactive (peaks_of rule leaf_total))
known_digests hash rule known digest leaf_total inactive start stop same none =
    let trees : List Tree = forest_of rule leaf_total in
    let parts = take_drop inactive (located trees) in
    let stands = stand_among trees trees (λ first node is. is) in
    let all = all_known known (range_nodes start stop (located trees)) none in
    digests_same known digest trees start stop same hash (take inactive (located trees)) (drop inactive (located trees))
    (rw (← parts) at stands) (rw (← parts) at all)
