-- Digests that are handed in for the pinned nodes.
use Rattle.std.proofs.Common.{◌≡◌, ℕ, zero, suc, ◌+◌, ◌^◌, ◌<◌, ◌≤◌, inl, inr, List, [], ◌∷◌, length, map, drop, get_or}
use Rattle.std.proofs.Common.{Option}
use Rattle.std.proofs.Common.{refl, sym, ◌∙◌, ap, ap₂, arith}
use Rattle.std.proofs.lemmas.Bool.{cases_lt}
use Rattle.std.proofs.lemmas.List.{length-map}
use Rattle.std.specs.Prelude.{unwrap_or}
use Rattle.merkle_forest.specs.Forest.{Rule, forest_of}
use Rattle.merkle_forest.specs.Peaks.{peak_positions, position_and_height}
use Rattle.merkle_forest.specs.Perfect.{IsPairing}
use Rattle.merkle_forest.specs.Laws.Peaks.{located_from-zero}
use Rattle.merkle_forest.specs.Laws.ForestGrowth.{size-mono}
use Rattle.merkle_forest.specs.Laws.Trees.{length-located}
use Rattle.merkle_forest.specs.Trees.{located}
use Rattle.merkle_core_parts.specs.Mem.{Nodes, Replacement, AreKeptNodes, node_count, pinned_positions, placed, encoded}
use Rattle.merkle_core_parts.specs.Mem.{digests_from}
use Rattle.merkle_core_parts.specs.Laws.Growth.{grown}

-- the forests of a rule have at most 62 peaks
abbrev pub HasFewPeaks : Rule → Type 0
HasFewPeaks rule = (leaves : ℕ) → leaves ≤ 2 ^ 62 → length (forest_of rule leaves) ≤ 62

positions_placed : (ps : List ℕ) (ds : List (List ℕ)) → length ds ≡ length ps
    → map (λ (one : Replacement). one.0) (placed ps ds) ≡ ps
positions_placed [] ds same = refl
positions_placed (p ∷ ps) [] same = absurd (omega arith)
positions_placed (p ∷ ps) (d ∷ ds) same = ap (λ qs. p ∷ qs) (positions_placed ps ds (omega arith))

pub drop-mapped : {D : Type 0} (encoding : D → List ℕ) (xs : List D) (i : ℕ) (x other : D) → i < length xs
    → x ≡ get_or xs i other → drop i (map encoding xs) ≡ encoding x ∷ drop (suc i) (map encoding xs)
drop-mapped encoding [] i x other lt is = absurd (omega arith)
drop-mapped encoding (y ∷ xs) zero x other lt is = ap (λ z. encoding z ∷ map encoding xs) (sym is)
drop-mapped encoding (y ∷ xs) (suc i) x other lt is = drop-mapped encoding xs i x other (omega arith) is

-- there are as many pinned nodes as peaks
pub count-pinned : (rule : Rule) (n : ℕ) (digests : ℕ → Option (List ℕ))
    → length (digests_from rule n digests 0) ≡ length (pinned_positions rule n)
count-pinned rule n digests =
    let peaks = peak_positions (forest_of rule n) in
    ap (λ ls. length (map (λ (peak : ℕ × ℕ). unwrap_or (digests peak.0) []) (map position_and_height ls)))
    (located_from-zero (forest_of rule n))
    ∙ length-map peaks (λ (peak : ℕ × ℕ). unwrap_or (digests peak.0) [])
    ∙ sym (length-map peaks (λ (peak : ℕ × ℕ). peak.0))

-- a node stays pinned for each peak
pub length-pinned : (rule : Rule) (b : ℕ) → length (pinned_positions rule b) ≡ length (forest_of rule b)
length-pinned rule b =
    let peaks = forest_of rule b in
    length-map (peak_positions peaks) (λ peak. peak.0) ∙ length-map (located peaks) position_and_height
    ∙ length-located peaks

pub length-encoded : {D : Type 0} (encoding : D → List ℕ) (ones : List (ℕ × D))
    → length (encoded encoding ones) ≡ length ones
length-encoded encoding [] = refl
length-encoded encoding (one ∷ ones) = ap (λ n. suc n) (length-encoded encoding ones)

-- so where forests of a rule have few peaks, few nodes stay pinned
pub few-pinned : {D : Type 0} (encoding : D → List ℕ) (rule : Rule) → HasFewPeaks rule
    → (n b : ℕ) (pinned : List (ℕ × D)) (digests : List (List ℕ)) → n ≤ 2 ^ 62
    → AreKeptNodes rule (record { leaves = n; boundary = b; pinned = encoded encoding pinned; digests = digests })
    → length pinned ≤ 62
few-pinned encoding rule few n b pinned digests within shape =
    omega (
      arith,
      length-encoded encoding pinned,
      length-map (encoded encoding pinned) (λ (one : Replacement). one.0),
      ap length shape.pinned,
      length-pinned rule b,
      few b (omega (arith, shape.within, within)),
    )

-- fewer nodes are those of fewer leaves
pub leaves-within : (rule : Rule) → IsPairing rule → (b n k : ℕ) → node_count rule n ≡ node_count rule b + k → b ≤ n
leaves-within rule pairs b n k is =
    elim (cases_lt n b) [
      | inl less ↦
          absurd (omega (arith, is, (grown rule pairs n).large, size-mono rule pairs (suc n) b (omega (arith, less))))
      | inr le ↦ le
    ]

-- the shape of a tree that is made from its parts
pub shape-placed : (rule : Rule) → IsPairing rule
    → (n b : ℕ) (pinned : List Replacement) (handed digests : List (List ℕ))
    → node_count rule n ≡ node_count rule b + length digests → pinned ≡ placed (pinned_positions rule b) handed
    → length handed ≡ length (pinned_positions rule b)
    → AreKeptNodes rule (record { leaves = n; boundary = b; pinned = pinned; digests = digests })
shape-placed rule pairs n b pinned handed digests sized is same = record {
  within = leaves-within rule pairs b n (length digests) sized;
  pinned = ap (map (λ (one : Replacement). one.0)) is ∙ positions_placed (pinned_positions rule b) handed same;
  counted = sym sized;
}

placed_again : (pinned : List Replacement)
    → placed (map (λ (one : Replacement). one.0) pinned) (map (λ (one : Replacement). one.1) pinned) ≡ pinned
placed_again [] = refl
placed_again (u ∷ us) = ap (λ rest. u ∷ rest) (placed_again us)

same_leaves : (rule : Rule) → IsPairing rule → (n m : ℕ) → node_count rule n ≡ node_count rule m → n ≡ m
same_leaves rule pairs n m is =
    omega (
      arith,
      leaves-within rule pairs m n 0 (omega (arith, is)),
      leaves-within rule pairs n m 0 (omega (arith, is)),
    )

-- a tree that is made of the parts of another is that one
pub made-again : (rule : Rule) → IsPairing rule → (nodes made : Nodes) → AreKeptNodes rule nodes
    → AreKeptNodes rule made
    → made.boundary ≡ nodes.boundary
    → made.pinned ≡ placed (pinned_positions rule nodes.boundary) (map (λ one. one.1) nodes.pinned)
    → made.digests ≡ nodes.digests → made ≡ nodes
made-again rule pairs nodes made shape again boundary pinned digests =
    let counts : node_count rule made.leaves ≡ node_count rule nodes.leaves =
    omega (arith, shape.counted, again.counted, ap (node_count rule) boundary, ap length digests) in
    let same : made.pinned ≡ nodes.pinned =
    pinned ∙ ap (λ ps. placed ps (map (λ (one : Replacement). one.1) nodes.pinned)) (sym shape.pinned)
    ∙ placed_again nodes.pinned in
    ap₂ (λ (n b : ℕ). record { leaves = n; boundary = b; pinned = made.pinned; digests = made.digests })
    (same_leaves rule pairs made.leaves nodes.leaves counts) boundary
    ∙ ap₂ (λ (ps : List Replacement) (ds : List (List ℕ)). record {
      leaves = nodes.leaves;
      boundary = nodes.boundary;
      pinned = ps;
      digests = ds;
    }) same digests
