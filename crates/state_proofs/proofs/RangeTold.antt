-- The nodes that a proof over a range tells, from those that the hasher of the grafted tree makes.
use Rattle.std.proofs.Common.{◌≡◌, inl, inr, ℕ, ◌+◌, ◌≤◌, ◌^◌, ◌||◌, not, Bool, true, false, cond, List, [], ◌∷◌}
use Rattle.std.proofs.Common.{◌++◌, filter, take, drop, Some, refl, sym, ◌∙◌, ap}
use Rattle.std.specs.List.{AllByRecursion, flat_map}
use Rattle.merkle_forest.specs.Forest.{Tree, leaf, branch, position, height, leaf_count, leaves, Rule, forest_of}
use Rattle.merkle_forest.specs.Hashing.{Hash, leaf_string, node_string}
use Rattle.merkle_forest.specs.Nodes.{IsWithin, IsNodeAt}
use Rattle.merkle_forest.specs.Perfect.{IsPairing}
use Rattle.merkle_forest.specs.Trees.{Located, located}
use Rattle.merkle_proofs.specs.Extracted.{AreMadeOf, AreGiven, told_nodes, inner_told, node_digests}
use Rattle.merkle_theory.specs.MadeRoots.{peaks_of}
use Rattle.merkle_theory.specs.MadeTrees.{from}
use Rattle.merkle_theory.specs.Ranges.{Digests, is_before, is_after, meets, singly, siblings, inner_digests}
use Rattle.state_theory.specs.Grafting.{grafted}
use Rattle.state_proofs.specs.RangeExtracted.{AreMadeOfShown, told_by}
use Rattle.state_theory.specs.Verified.{Shown, stop_of, given_by, graftable_shown, RangeParts}
use Rattle.state_theory.specs.Verifier.{Given, grafted_node, joined_chunk}
use Rattle.state_theory.specs.Laws.Verifier.{node_at-is}

case_of : (P : Bool → Type 0) (test : Bool) → P true → P false → P test
case_of P true one other = one
case_of P false one other = other

-- one of two is another where it is in either case
if_is : {A : Type 0} (test : Bool) (one other it : A) → (test ≡ true → one ≡ it) → (test ≡ false → other ≡ it) → cond test one other ≡ it
if_is true one other it met out = met refl
if_is false one other it met out = out refl

all_after : (P : Located → Type 0) (xs ys : List Located) → AllByRecursion P xs → AllByRecursion P ys → AllByRecursion P (xs ++ ys)
all_after P [] ys one other = other
all_after P (x ∷ xs) ys one other = (one.0, all_after P xs ys one.1 other)

digests_append : (digest : Digests) (xs ys : List Located) → node_digests digest (xs ++ ys) ≡ node_digests digest xs ++ node_digests digest ys
digests_append digest [] ys = refl
digests_append digest (x ∷ xs) ys = ap (λ rest. (position x.1, digest x.0 x.1) ∷ rest) (digests_append digest xs ys)

-- the digests of nodes are the same where those of the parts are
parts_same : (one other : Digests) (xs ys : List Located) → node_digests one xs ≡ node_digests other xs → node_digests one ys ≡ node_digests other ys
    → node_digests one (xs ++ ys) ≡ node_digests other (xs ++ ys)
parts_same one other xs ys front back =
    digests_append one xs ys ∙ ap (λ ds. ds ++ node_digests one ys) front ∙ ap (λ ds. node_digests other xs ++ ds) back
    ∙ sym (digests_append other xs ys)

before_out : (start stop : ℕ) (peak : Located) → is_before start peak ≡ true → meets start stop peak ≡ false
before_out start stop peak is = ap (λ b. not (b || is_after stop peak)) is

or_true : (a b : Bool) → b ≡ true → not (a || b) ≡ false
or_true true b is = refl
or_true false b is = ap not is

after_out : (start stop : ℕ) (peak : Located) → is_after stop peak ≡ true → meets start stop peak ≡ false
after_out start stop peak is = or_true (is_before start peak) (is_after stop peak) is

module _ (rule : Rule) (pairs : IsPairing rule) (hash : Hash) (level : ℕ) (proof : RangeParts) (shown : Shown) (few : proof.leaves ≤ 2 ^ 62)
    (digest : Digests) where
  abbrev start : ℕ
  start = shown.start

  abbrev stop : ℕ
  stop = stop_of shown

  abbrev trees : List Tree
  trees = forest_of rule proof.leaves

  abbrev given : Given
  given = given_by level (graftable_shown rule level proof) shown

  -- the digests as the hasher makes them, wherever a tree stands
  abbrev pub remade : Digests
  remade at (leaf p) =
      cond (meets start stop (at, leaf p)) (hash (leaf_string p (from start shown.operations at))) (digest at (leaf p))
  remade at (branch p left right) =
      cond (meets start stop (at, branch p left right))
      (grafted_node rule hash given p (remade at left) (remade (at + leaf_count left) right)) (digest at (branch p left right))

  pub remade_made : AreMadeOf (λ p element. hash (leaf_string p element)) (grafted_node rule hash given) (from start shown.operations) start stop
      remade
  remade_made = record {
    leaf = λ at p met. ap (λ b. cond b (hash (leaf_string p (from start shown.operations at))) (digest at (leaf p))) met;
    branch = λ at p left right met.
        ap (λ b. cond b (grafted_node rule hash given p (remade at left) (remade (at + leaf_count left) right)) (digest at (branch p left right))) met;
  }

  -- beside the range they are the ones that are given
  remade_beside : (at : ℕ) (t : Tree) → meets start stop (at, t) ≡ false → remade at t ≡ digest at t
  remade_beside at (leaf p) out = ap (λ b. cond b (hash (leaf_string p (from start shown.operations at))) (digest at (leaf p))) out
  remade_beside at (branch p left right) out =
      ap (λ b. cond b (grafted_node rule hash given p (remade at left) (remade (at + leaf_count left) right)) (digest at (branch p left right))) out

  singly_same : (test : Located → Bool) → ((peak : Located) → test peak ≡ true → meets start stop peak ≡ false) → (peaks : List Located)
      → singly digest (filter test peaks) ≡ singly remade (filter test peaks)
  singly_same test out [] = refl
  singly_same test out (peak ∷ peaks) =
      let rest = singly_same test out peaks in
      case_of (λ (b : Bool). test peak ≡ b → singly digest (cond b (peak ∷ filter test peaks) (filter test peaks))
      ≡ singly remade (cond b (peak ∷ filter test peaks) (filter test peaks))) (test peak)
      (λ is. ap (λ d. d ∷ singly digest (filter test peaks)) (sym (remade_beside peak.0 peak.1 (out peak is)))
      ∙ ap (λ ds. remade peak.0 peak.1 ∷ ds) rest)
      (λ is. rest) refl

  siblings_same : (at : ℕ) (t : Tree) → siblings digest start stop at t ≡ siblings remade start stop at t
  siblings_same at (leaf p) =
      case_of (λ (b : Bool). meets start stop (at, leaf p) ≡ b → cond b [] (digest at (leaf p) ∷ []) ≡ cond b [] (remade at (leaf p) ∷ []))
      (meets start stop (at, leaf p)) (λ is. refl) (λ is. ap (λ d. d ∷ []) (sym (remade_beside at (leaf p) is))) refl
  siblings_same at (branch p left right) =
      let node : Tree = branch p left right in
      let middle : ℕ = at + leaf_count left in
      let both : siblings digest start stop at left ++ siblings digest start stop middle right
      ≡ siblings remade start stop at left ++ siblings remade start stop middle right =
      ap (λ ds. ds ++ siblings digest start stop middle right) (siblings_same at left)
      ∙ ap (λ ds. siblings remade start stop at left ++ ds) (siblings_same middle right) in
      case_of (λ (b : Bool). meets start stop (at, node) ≡ b
      → cond b (siblings digest start stop at left ++ siblings digest start stop middle right) (digest at node ∷ [])
      ≡ cond b (siblings remade start stop at left ++ siblings remade start stop middle right) (remade at node ∷ []))
      (meets start stop (at, node)) (λ is. both) (λ is. ap (λ d. d ∷ []) (sym (remade_beside at node is))) refl

  inner_same : (peaks : List Located) → inner_digests digest start stop peaks ≡ inner_digests remade start stop peaks
  inner_same [] = refl
  inner_same (peak ∷ peaks) =
      let others : List Located = filter (meets start stop) peaks in
      case_of (λ (b : Bool). flat_map (λ one. siblings digest start stop one.0 one.1) (cond b (peak ∷ others) others)
      ≡ flat_map (λ one. siblings remade start stop one.0 one.1) (cond b (peak ∷ others) others)) (meets start stop peak)
      (ap (λ ds. ds ++ inner_digests digest start stop peaks) (siblings_same peak.0 peak.1)
      ∙ ap (λ ds. siblings remade start stop peak.0 peak.1 ++ ds) (inner_same peaks))
      (inner_same peaks)

  -- so the proof gives them too
  pub remade_given : AreGiven proof.inactive start stop (peaks_of rule proof.leaves) digest proof.digests
      → AreGiven proof.inactive start stop (peaks_of rule proof.leaves) remade proof.digests
  remade_given it =
      let peaks : List Located = peaks_of rule proof.leaves in
      let before = singly_same (is_before start) (before_out start stop) (drop proof.inactive peaks) in
      let after = singly_same (is_after stop) (after_out start stop) (take proof.inactive peaks) in
      record {
        front = it.front;
        back = it.back;
        is = it.is
            ∙ ap (λ ds. it.front ++ (ds ++ (singly digest (filter (is_after stop) (take proof.inactive peaks))
            ++ (it.back ++ inner_digests digest start stop peaks)))) before
            ∙ ap (λ ds. it.front ++ (singly remade (filter (is_before start) (drop proof.inactive peaks)) ++ (ds
            ++ (it.back ++ inner_digests digest start stop peaks)))) after
            ∙ ap (λ ds. it.front ++ (singly remade (filter (is_before start) (drop proof.inactive peaks))
            ++ (singly remade (filter (is_after stop) (take proof.inactive peaks)) ++ (it.back ++ ds)))) (inner_same peaks);
        fronts = it.fronts;
        backs = it.backs;
      }

  module _ (made : AreMadeOfShown rule hash level proof shown digest) where
    -- in the tree they are those that the proof shows
    remade_same : (at : ℕ) (t : Tree) → ((first : ℕ) (node : Tree) → IsWithin first node at t → IsNodeAt first node trees)
        → remade at t ≡ digest at t
    remade_same at (leaf p) all =
        if_is (meets start stop (at, leaf p)) _ _ (digest at (leaf p)) (λ met. sym (made.leaf at p (all at (leaf p) (refl, refl)) met)) (λ out. refl)
    remade_same at (branch p left right) all =
        let node : Tree = branch p left right in
        let stands : IsNodeAt at node trees = all at node (inl (refl, refl)) in
        let found = node_at-is rule pairs at p (height node)
        (node, record { leaf_total = proof.leaves; few = few; stands = stands; subtree = refl; level = refl }) in
        let one = remade_same at left (λ first n within. all first n (inr (inl within))) in
        let other = remade_same (at + leaf_count left) right (λ first n within. all first n (inr (inr within))) in
        if_is (meets start stop (at, node)) _ _ (digest at node)
        (λ met. ap (λ x. grafted hash (joined_chunk given x) (hash (node_string p (remade at left) (remade (at + leaf_count left) right)))) found
        ∙ ap (λ d. grafted hash (joined_chunk given (Some (at, height node))) (hash (node_string p d (remade (at + leaf_count left) right)))) one
        ∙ ap (λ d. grafted hash (joined_chunk given (Some (at, height node))) (hash (node_string p (digest at left) d))) other
        ∙ sym (made.branch at p left right stands met))
        (λ out. refl)

    told_same : (at : ℕ) (t : Tree) → ((first : ℕ) (node : Tree) → IsWithin first node at t → IsNodeAt first node trees)
        → node_digests remade (told_nodes start stop at t) ≡ node_digests digest (told_nodes start stop at t)
    told_same at (leaf p) all = ap (λ d. (p, d) ∷ []) (remade_same at (leaf p) all)
    told_same at (branch p left right) all =
        let node : Tree = branch p left right in
        let middle : ℕ = at + leaf_count left in
        let own : node_digests remade ((at, node) ∷ []) ≡ node_digests digest ((at, node) ∷ []) = ap (λ d. (p, d) ∷ []) (remade_same at node all) in
        case_of (λ (b : Bool). node_digests remade (cond b (told_nodes start stop at left ++ (told_nodes start stop middle right ++ ((at, node) ∷ [])))
        ((at, node) ∷ []))
        ≡ node_digests digest (cond b (told_nodes start stop at left ++ (told_nodes start stop middle right ++ ((at, node) ∷ []))) ((at, node) ∷ [])))
        (meets start stop (at, node))
        (parts_same remade digest (told_nodes start stop at left) (told_nodes start stop middle right ++ ((at, node) ∷ []))
        (told_same at left (λ first n within. all first n (inr (inl within))))
        (parts_same remade digest (told_nodes start stop middle right) ((at, node) ∷ [])
        (told_same middle right (λ first n within. all first n (inr (inr within)))) own))
        own

    abbrev IsToldSame : Located → Type 0
    IsToldSame peak = node_digests remade (told_nodes start stop peak.0 peak.1) ≡ node_digests digest (told_nodes start stop peak.0 peak.1)

    peaks_same : (ts : List Tree) → ((first : ℕ) (node : Tree) → IsNodeAt first node ts → IsNodeAt first node trees)
        → AllByRecursion IsToldSame (located ts)
    peaks_same [] all = tt
    peaks_same (t ∷ ts) all =
        all_after IsToldSame (located ts) ((leaves ts, t) ∷ []) (peaks_same ts (λ first node stands. all first node (inr stands)))
        (told_same (leaves ts) t (λ first node within. all first node (inl within)), tt)

    inner_told_same : (peaks : List Located) → AllByRecursion IsToldSame peaks
        → node_digests remade (inner_told start stop peaks) ≡ node_digests digest (inner_told start stop peaks)
    inner_told_same [] all = refl
    inner_told_same (peak ∷ peaks) all =
        let others : List Located = filter (meets start stop) peaks in
        let told : Located → List Located = λ one. told_nodes start stop one.0 one.1 in
        case_of (λ (b : Bool). node_digests remade (flat_map told (cond b (peak ∷ others) others))
        ≡ node_digests digest (flat_map told (cond b (peak ∷ others) others))) (meets start stop peak)
        (parts_same remade digest (told peak) (inner_told start stop peaks) all.0 (inner_told_same peaks all.1))
        (inner_told_same peaks all.1)

    beside_same : (test : Located → Bool) → ((peak : Located) → test peak ≡ true → meets start stop peak ≡ false) → (peaks : List Located)
        → node_digests remade (filter test peaks) ≡ node_digests digest (filter test peaks)
    beside_same test out [] = refl
    beside_same test out (peak ∷ peaks) =
        let rest = beside_same test out peaks in
        case_of (λ (b : Bool). test peak ≡ b → node_digests remade (cond b (peak ∷ filter test peaks) (filter test peaks))
        ≡ node_digests digest (cond b (peak ∷ filter test peaks) (filter test peaks))) (test peak)
        (λ is. ap (λ d. (position peak.1, d) ∷ node_digests remade (filter test peaks)) (remade_beside peak.0 peak.1 (out peak is))
        ∙ ap (λ ds. (position peak.1, digest peak.0 peak.1) ∷ ds) rest)
        (λ is. rest) refl

    -- what is told with the digests that the hasher makes is told with those that the proof shows
    pub told_as_shown : node_digests remade (told_by rule proof shown) ≡ node_digests digest (told_by rule proof shown)
    told_as_shown =
        let peaks : List Located = peaks_of rule proof.leaves in
        let before : List Located = filter (is_before start) (drop proof.inactive peaks) in
        let after : List Located = filter (is_after stop) (take proof.inactive peaks) in
        parts_same remade digest before (after ++ inner_told start stop peaks)
        (beside_same (is_before start) (before_out start stop) (drop proof.inactive peaks))
        (parts_same remade digest after (inner_told start stop peaks)
        (beside_same (is_after stop) (after_out start stop) (take proof.inactive peaks))
        (inner_told_same peaks (peaks_same trees (λ first node stands. stands))))
