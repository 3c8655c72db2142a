-- What a tree keeps that is pruned.
use Rattle.std.proofs.Common.{◌≡◌, ℕ, zero, suc, ◌+◌, ◌-◌, ◌<◌, ◌≤◌, inl, inr, eqb, ltb, leb, List, [], ◌∷◌}
use Rattle.std.proofs.Common.{◌++◌, length, map, drop, Option, Some, None, refl, sym, ◌∙◌, ap, ap₂, subst, arith}
use Rattle.std.proofs.Common.{eq-eqb, length-drop}
use Rattle.std.proofs.lemmas.Bool.{cases_lt, cases_eq, cond-true, cond-false, lt-ltb, le-ltb, lt-leb, le-leb, ne_eqb}
use Rattle.std.proofs.lemmas.List.{map-append}
use Rattle.std.specs.Prelude.{slice_get, IsSome, unwrap_or}
use Rattle.std.specs.Option.{option_map}
use Rattle.std.specs.List.{find}
use Rattle.merkle_forest.specs.Forest.{Tree, position, leaves, Rule, forest_of}
use Rattle.merkle_forest.specs.Nodes.{IsPeakAt}
use Rattle.merkle_forest.specs.Peaks.{peak_positions, position_and_height}
use Rattle.merkle_forest.specs.Perfect.{IsPairing}
use Rattle.merkle_forest.specs.Trees.{located}
use Rattle.merkle_forest.specs.Laws.ForestGrowth.{size-mono}
use Rattle.merkle_forest.specs.Laws.Peaks.{located_from-zero}
use Rattle.merkle_core_parts.specs.Mem.{Nodes, Growth, Replacement, NodeHash, node_count, node_at, digest_at}
use Rattle.merkle_core_parts.specs.Mem.{IsKept, IsPeakPosition, AreKeptNodes, AreNodesOf, pinned_positions}
use Rattle.merkle_core_parts.specs.Mem.{pinned_digests}
use Rattle.merkle_core_parts.specs.Mem.{base_of, cut_before, pruned_before}
use Rattle.merkle_core_parts.specs.Mem.{value_after, replaced_from, replaced_at, with_batch}
use Rattle.merkle_core_parts.specs.Laws.Batches.{kept-before, known-old}
use Rattle.merkle_core_parts.specs.Laws.Held.{IsOneOf, peak-pinned, pinned-peak, peak-there}
use Rattle.merkle_core_parts.specs.Laws.Kept.{kept}
use Rattle.merkle_core_parts.specs.Laws.Replaced.{known-replaced}

-- the digest at a position of a list with one at each of these
digest_listed : (f : ℕ → List ℕ) (peaks : List (ℕ × ℕ)) (p : ℕ) → IsOneOf p (map (λ peak. peak.0) peaks)
    → digest_at (map (λ peak. (peak.0, f peak.0)) peaks) p ≡ Some (f p)
digest_listed f [] p it = absurd it
digest_listed f (q ∷ qs) p it =
    elim (cases_eq q.0 p) [
      | inl same ↦
          ap (option_map (λ (one : Replacement). one.1))
          (cond-true (eqb q.0 p) (Some (q.0, f q.0)) (find (λ one. eqb one.0 p) (map (λ peak. (peak.0, f peak.0)) qs))
          (eq-eqb q.0 p same))
          ∙ ap (λ n. Some (f n)) same
      | inr apart ↦
          ap (option_map (λ (one : Replacement). one.1))
          (cond-false (eqb q.0 p) (Some (q.0, f q.0)) (find (λ one. eqb one.0 p) (map (λ peak. (peak.0, f peak.0)) qs))
          (ne_eqb q.0 p apart))
          ∙ digest_listed f qs p (elim it [ inl same ↦ absurd (apart same) | inr more ↦ more ])
    ]

positions_listed : (f : ℕ → List ℕ) (peaks : List (ℕ × ℕ))
    → map (λ (one : Replacement). one.0) (map (λ peak. (peak.0, f peak.0)) peaks) ≡ map (λ peak. peak.0) peaks
positions_listed f [] = refl
positions_listed f (q ∷ qs) = ap (λ ps. q.0 ∷ ps) (positions_listed f qs)

get-drop : (k i : ℕ) (xs : List (List ℕ)) → slice_get (drop k xs) i ≡ slice_get xs (k + i)
get-drop zero i xs = let same : i ≡ 0 + i = omega arith in ap (slice_get xs) same
get-drop (suc k) i [] = refl
get-drop (suc k) i (x ∷ xs) =
    let same : suc (k + i) ≡ suc k + i = omega arith in
    get-drop k i xs ∙ ap (slice_get (x ∷ xs)) same

pub map-drop : {D : Type 0} (encoding : D → List ℕ) (k : ℕ) (xs : List D)
    → map encoding (drop k xs) ≡ drop k (map encoding xs)
map-drop encoding zero xs = refl
map-drop encoding (suc k) [] = refl
map-drop encoding (suc k) (x ∷ xs) = map-drop encoding k xs

unwrapped : (o : Option (List ℕ)) → IsSome o → Some (unwrap_or o []) ≡ o
unwrapped None some = absurd cc
unwrapped (Some x) some = refl

-- it has the shape of a tree that is pruned there
pub shape-cut : (rule : Rule) → IsPairing rule → (nodes : Nodes) (location : ℕ) → AreKeptNodes rule nodes
    → nodes.boundary ≤ location → location ≤ nodes.leaves → AreKeptNodes rule (cut_before rule nodes location)
shape-cut rule pairs nodes location shape from within =
    let gone = node_count rule location - node_count rule nodes.boundary in
    record {
      within = within;
      pinned = positions_listed (λ p. unwrap_or (node_at rule nodes p) []) (peak_positions (forest_of rule location));
      counted = omega (
        arith,
        length-drop gone nodes.digests,
        shape.counted,
        size-mono rule pairs nodes.boundary location from,
        size-mono rule pairs location nodes.leaves within,
      );
    }

-- and what it keeps stays as it was
node_after : (rule : Rule) → IsPairing rule → (nodes : Nodes) (location p : ℕ) → nodes.boundary ≤ location
    → node_count rule location ≤ p → node_at rule (cut_before rule nodes location) p ≡ node_at rule nodes p
node_after rule pairs nodes location p from after =
    let start = node_count rule nodes.boundary in
    let next = node_count rule location in
    let mono = size-mono rule pairs nodes.boundary location from in
    let same : next - start + (p - next) ≡ p - start = omega (arith, mono, after) in
    cond-false (ltb p next) (digest_at (pinned_digests rule nodes location) p)
    (slice_get (drop (next - start) nodes.digests) (p - next)) (le-ltb p next after)
    ∙ get-drop (next - start) (p - next) nodes.digests
    ∙ ap (slice_get nodes.digests) same
    ∙ sym (cond-false (ltb p start) (digest_at nodes.pinned p) (slice_get nodes.digests (p - start))
    (le-ltb p start (omega (arith, after, mono))))

one_of_pinned : (rule : Rule) (location p : ℕ) → IsPeakPosition rule location p
    → IsOneOf p (pinned_positions rule location)
one_of_pinned rule location p (tree, (f, stands), at) =
    subst (λ q. IsOneOf q (pinned_positions rule location)) at (peak-pinned f tree (forest_of rule location) stands)

pub node-cut : (rule : Rule) → IsPairing rule → (nodes : Nodes) (location p : ℕ) → AreKeptNodes rule nodes
    → nodes.boundary ≤ location → location ≤ nodes.leaves → IsKept rule location p
    → node_at rule (cut_before rule nodes location) p ≡ node_at rule nodes p
node-cut rule pairs nodes location p shape from within (inl after) = node_after rule pairs nodes location p from after
node-cut rule pairs nodes location p shape from within (inr peak) =
    let next = node_count rule location in
    elim (cases_lt p next) [
      | inl before ↦
          cond-true (ltb p next) (digest_at (pinned_digests rule nodes location) p)
          (slice_get (drop (next - node_count rule nodes.boundary) nodes.digests) (p - next)) (lt-ltb p next before)
          ∙ digest_listed (λ q. unwrap_or (node_at rule nodes q) []) (peak_positions (forest_of rule location)) p
          (one_of_pinned rule location p peak)
          ∙ unwrapped (node_at rule nodes p) (peak-there rule pairs nodes location p shape from within peak)
      | inr after ↦ node_after rule pairs nodes location p from after
    ]

same_digests : (f g : ℕ → Option (List ℕ)) (peaks : List Tree)
    → ((first : ℕ) (t : Tree) → IsPeakAt first t peaks → f (position t) ≡ g (position t))
    → map (λ peak. unwrap_or (f peak.0) []) (map position_and_height (located peaks))
    ≡ map (λ peak. unwrap_or (g peak.0) []) (map position_and_height (located peaks))
same_digests f g [] each = refl
same_digests f g (t ∷ ts) each =
    let last = (leaves ts, t) ∷ [] in
    let split : map position_and_height (located (t ∷ ts)) ≡ map position_and_height (located ts)
    ++ (position_and_height (leaves ts, t)) ∷ [] =
    map-append position_and_height (located ts) last in
    let one = position_and_height (leaves ts, t) ∷ [] in
    ap (map (λ (peak : ℕ × ℕ). unwrap_or (f peak.0) [])) split
    ∙ map-append (λ (peak : ℕ × ℕ). unwrap_or (f peak.0) []) (map position_and_height (located ts)) one
    ∙ ap₂ (λ front own. front ++ own ∷ []) (same_digests f g ts (λ first u stands. each first u (inr stands)))
    (ap (λ o. unwrap_or o []) (each (leaves ts) t (inl (refl, refl))))
    ∙ sym (ap (map (λ (peak : ℕ × ℕ). unwrap_or (g peak.0) [])) split
    ∙ map-append (λ (peak : ℕ × ℕ). unwrap_or (g peak.0) []) (map position_and_height (located ts)) one)

-- so the digests of its peaks stay
pub base-cut : (rule : Rule) → IsPairing rule → (nodes : Nodes) (location : ℕ) → AreKeptNodes rule nodes
    → nodes.boundary ≤ location → location ≤ nodes.leaves
    → base_of rule (cut_before rule nodes location) ≡ base_of rule nodes
base-cut rule pairs nodes location shape from within =
    let f = node_at rule (cut_before rule nodes location) in
    let g = node_at rule nodes in
    let forest = forest_of rule nodes.leaves in
    ap (λ peaks. record { leaves = nodes.leaves; peaks = peaks })
    (ap (λ peaks. map (λ peak. unwrap_or (f peak.0) []) (map position_and_height peaks)) (located_from-zero forest)
    ∙ same_digests f g forest (λ first t stands. node-cut rule pairs nodes location (position t) shape from within
    ((kept rule pairs location nodes.leaves within).peak t (first, stands)))
    ∙ sym (ap (λ peaks. map (λ peak. unwrap_or (g peak.0) []) (map position_and_height peaks))
    (located_from-zero forest)))

pub list-cut : (rule : Rule) → IsPairing rule → (node : NodeHash) (list : List (List ℕ)) (nodes : Nodes) (location : ℕ)
    → nodes.boundary ≤ location → location ≤ nodes.leaves → AreNodesOf node rule list nodes
    → AreNodesOf node rule list (cut_before rule nodes location)
list-cut rule pairs node list nodes location from within are = record {
  counted = are.counted;
  shape = shape-cut rule pairs nodes location are.shape from within;
  digests = λ f t stands keeps. node-cut rule pairs nodes location (position t) are.shape from within keeps
      ∙ are.digests f t stands (kept-before rule pairs nodes.boundary location (position t) from keeps);
}

-- what is pruned up to there already
pub pruned-already : (rule : Rule) (nodes : Nodes) (location : ℕ) → location ≤ nodes.boundary
    → pruned_before rule nodes location ≡ nodes
pruned-already rule nodes location le =
    cond-true (leb location nodes.boundary) nodes (cut_before rule nodes location) (le-leb location nodes.boundary le)

pub pruned-further : (rule : Rule) (nodes : Nodes) (location : ℕ) → nodes.boundary < location
    → pruned_before rule nodes location ≡ cut_before rule nodes location
pruned-further rule nodes location lt =
    cond-false (leb location nodes.boundary) nodes (cut_before rule nodes location) (lt-leb location nodes.boundary lt)

drop-replaced : (k s : ℕ) (xs : List (List ℕ)) (us : List Replacement)
    → drop k (replaced_from s xs us) ≡ replaced_from (s + k) (drop k xs) us
drop-replaced zero s xs us = let same : s ≡ s + 0 = omega arith in ap (λ n. replaced_from n xs us) same
drop-replaced (suc k) s [] us = refl
drop-replaced (suc k) s (x ∷ xs) us =
    let same : suc s + k ≡ s + suc k = omega arith in
    drop-replaced k (suc s) xs us ∙ ap (λ n. replaced_from n (drop k xs) us) same

drop-front : (k : ℕ) (xs ys : List (List ℕ)) → k ≤ length xs → drop k (xs ++ ys) ≡ drop k xs ++ ys
drop-front zero xs ys le = refl
drop-front (suc k) [] ys le = absurd (omega arith)
drop-front (suc k) (x ∷ xs) ys le = drop-front k xs ys (omega arith)

pinned_after : (f g : ℕ → List ℕ) (us : List Replacement) (peaks : List (ℕ × ℕ))
    → ((p : ℕ) → IsOneOf p (map (λ peak. peak.0) peaks) → g p ≡ value_after us p (f p))
    → replaced_at (map (λ peak. (peak.0, f peak.0)) peaks) us ≡ map (λ peak. (peak.0, g peak.0)) peaks
pinned_after f g us [] each = refl
pinned_after f g us (q ∷ qs) each =
    ap₂ (λ (u : Replacement) (rest : List Replacement). u ∷ rest)
    (ap (λ d. (q.0, d)) (sym (each q.0 (inl refl))))
    (pinned_after f g us qs (λ p it. each p (inr it)))

digest_after : (rule : Rule) (nodes : Nodes) (batch : Growth) (p : ℕ) (o : Option (List ℕ)) → o ≡ node_at rule nodes p
    → IsSome o → unwrap_or (node_at rule (with_batch rule nodes batch) p) []
    ≡ value_after batch.changed p (unwrap_or (node_at rule nodes p) [])
digest_after rule nodes batch p None is some = absurd cc
digest_after rule nodes batch p (Some x) is some =
    let start = node_count rule nodes.boundary in
    ap (λ o. unwrap_or o [])
    (known-replaced start nodes.pinned (nodes.digests ++ batch.digests) batch.changed p
    ∙ ap (option_map (value_after batch.changed p))
    (known-old start nodes.pinned nodes.digests batch.digests x p (sym is)))
    ∙ ap (λ o. value_after batch.changed p (unwrap_or o [])) is

cut_with : (rule : Rule) → IsPairing rule → (nodes : Nodes) (batch : Growth) (location : ℕ) → AreKeptNodes rule nodes
    → nodes.boundary ≤ location → location ≤ nodes.leaves
    → with_batch rule (cut_before rule nodes location) batch ≡ cut_before rule (with_batch rule nodes batch) location
cut_with rule pairs nodes batch location shape from within =
    let start = node_count rule nodes.boundary in
    let next = node_count rule location in
    let more = size-mono rule pairs nodes.boundary location from in
    let few = size-mono rule pairs location nodes.leaves within in
    let sum : start + (next - start) ≡ next = omega (arith, more) in
    let pinned : replaced_at (pinned_digests rule nodes location) batch.changed
    ≡ pinned_digests rule (with_batch rule nodes batch) location =
    pinned_after (λ p. unwrap_or (node_at rule nodes p) [])
    (λ p. unwrap_or (node_at rule (with_batch rule nodes batch) p) []) batch.changed
    (peak_positions (forest_of rule location))
    (λ p it. digest_after rule nodes batch p (node_at rule nodes p) refl
    (peak-there rule pairs nodes location p shape from within (pinned-peak p (forest_of rule location) it))) in
    let digests : replaced_from next (drop (next - start) nodes.digests ++ batch.digests) batch.changed
    ≡ drop (next - start) (replaced_from start (nodes.digests ++ batch.digests) batch.changed) =
    ap (λ xs. replaced_from next xs batch.changed)
    (sym (drop-front (next - start) nodes.digests batch.digests (omega (arith, shape.counted, few))))
    ∙ ap (λ n. replaced_from n (drop (next - start) (nodes.digests ++ batch.digests)) batch.changed) (sym sum)
    ∙ sym (drop-replaced (next - start) start (nodes.digests ++ batch.digests) batch.changed) in
    ap₂ (λ (ps : List Replacement) (ds : List (List ℕ)). record {
      leaves = batch.leaves;
      boundary = location;
      pinned = ps;
      digests = ds;
    }) pinned digests

-- a tree pruned before a batch is applied is the one that is pruned after it
pub pruned-with : (rule : Rule) → IsPairing rule → (nodes : Nodes) (batch : Growth) (location : ℕ)
    → AreKeptNodes rule nodes
    → location ≤ nodes.leaves
    → with_batch rule (pruned_before rule nodes location) batch
    ≡ pruned_before rule (with_batch rule nodes batch) location
pruned-with rule pairs nodes batch location shape within =
    elim (cases_lt nodes.boundary location) [
      | inl further ↦
          ap (λ (n : Nodes). with_batch rule n batch) (pruned-further rule nodes location further)
          ∙ cut_with rule pairs nodes batch location shape (omega (arith, further)) within
          ∙ sym (pruned-further rule (with_batch rule nodes batch) location further)
      | inr already ↦
          ap (λ (n : Nodes). with_batch rule n batch) (pruned-already rule nodes location already)
          ∙ sym (pruned-already rule (with_batch rule nodes batch) location already)
    ]
