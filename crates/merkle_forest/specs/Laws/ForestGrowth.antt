-- What every forest of a pairing rule keeps as it grows.
use Rattle.std.proofs.Common.{◌≡◌, ℕ, zero, suc, ◌+◌, ◌-◌, ◌*◌, ◌^◌, ◌<◌, ◌≤◌, inl, inr, List, [], ◌∷◌, length, map}
use Rattle.std.proofs.Common.{Option, Some, None, refl, sym, ◌∙◌, ap, arith, add-zero, add-suc, pow-suc}
use Rattle.std.proofs.lemmas.Bool.{cases_lt}
use Rattle.std.proofs.lemmas.List.{length-map}
use Rattle.std.proofs.lemmas.Nat.{pow_below}
use Rattle.std.specs.Prelude.{IfSome, slice_get}
use Rattle.std.specs.Option.{option_map_or}
use Rattle.merkle_forest.specs.Forest.{Tree, leaf, branch, height, leaf_count, node_count, size, leaves, Rule, merged}
use Rattle.merkle_forest.specs.Forest.{peaks_after_merges, forest_of, IsPairOfEquals}
use Rattle.merkle_forest.specs.Perfect.{IsPerfect, ArePerfect, IsPairing}

-- a tree has one node more than twice its leaves, less two
pub node_count-twice : (t : Tree) → suc (node_count t) ≡ 2 * leaf_count t
node_count-twice (leaf p) = refl
node_count-twice (branch p left right) = omega (arith, node_count-twice left, node_count-twice right)

-- so a forest has as many nodes as twice its leaves, less one for each peak
pub size-twice : (peaks : List Tree) → size peaks + length peaks ≡ 2 * leaves peaks
size-twice [] = refl
size-twice (t ∷ peaks) = omega (arith, node_count-twice t, size-twice peaks)

pub size_bound : (peaks : List Tree) → size peaks ≤ 2 * leaves peaks
size_bound [] = omega arith
size_bound (t ∷ peaks) = omega (arith, node_count-twice t, size_bound peaks)

-- a tree has more leaves than levels above them
pub height_below : (t : Tree) → height t < leaf_count t
height_below (leaf p) = omega arith
height_below (branch p left right) = omega (arith, height_below left, height_below right)

-- a merge keeps the leaves
pub leaves-merged : (p index : ℕ) (peaks : List Tree) → suc index < length peaks
    → leaves (merged p index peaks) ≡ leaves peaks
leaves-merged p zero [] lt = refl
leaves-merged p zero (r ∷ []) lt = refl
leaves-merged p zero (r ∷ l ∷ peaks) lt = omega arith
leaves-merged p (suc index) [] lt = refl
leaves-merged p (suc index) (t ∷ peaks) lt = ap (λ n. leaf_count t + n) (leaves-merged p index peaks (omega arith))

-- a merge makes one node
pub size-merged : (p index : ℕ) (peaks : List Tree) → suc index < length peaks
    → size (merged p index peaks) ≡ size peaks + 1
size-merged p zero [] lt = absurd (omega arith)
size-merged p zero (r ∷ []) lt = absurd (omega arith)
size-merged p zero (r ∷ l ∷ peaks) lt = omega arith
size-merged p (suc index) [] lt = absurd (omega arith)
size-merged p (suc index) (t ∷ peaks) lt = omega (arith, size-merged p index peaks (omega arith))

get_within : (xs : List ℕ) (i h : ℕ) → slice_get xs i ≡ Some h → i < length xs
get_within [] i h e = absurd cc
get_within (x ∷ xs) zero h e = omega arith
get_within (x ∷ xs) (suc i) h e = omega (arith, get_within xs i h e)

-- two neighbours stand within the list
pub pair_within : (heights : List ℕ) (index : ℕ) → IsPairOfEquals heights index → suc index < length heights
pair_within heights index pair = get_within heights (suc index) pair.0 pair.2

pub some_number : (i j : ℕ) → ◌≡◌ {A = Option ℕ} (Some i) (Some j) → i ≡ j
some_number i j e = cc

-- a merge of two trees of one height keeps the trees perfect
pub perfect-merged : (p index : ℕ) (peaks : List Tree) → IsPairOfEquals (map height peaks) index → ArePerfect peaks
    → ArePerfect (merged p index peaks)
perfect-merged p zero [] pair perfect = tt
perfect-merged p zero (r ∷ []) pair perfect = absurd (let e = pair.2 in cc)
perfect-merged p zero (r ∷ l ∷ peaks) pair perfect = (
  (
    some_number (height l) pair.0 pair.2
        ∙ sym (some_number (height r) pair.0 pair.1),
    perfect.1.0,
    perfect.0,
  ),
  perfect.1.1,
)
perfect-merged p (suc index) [] pair perfect = tt
perfect-merged p (suc index) (t ∷ peaks) pair perfect = (perfect.0, perfect-merged p index peaks pair perfect.1)

step_keeps : (P : List Tree → Type 0) (heights : List ℕ) (peaks : List Tree)
    (after : ℕ → List Tree) (found : Option ℕ) → IfSome found (IsPairOfEquals heights)
    → ((index : ℕ) → IsPairOfEquals heights index → P (after index)) → P peaks → P (option_map_or after found peaks)
step_keeps P heights peaks after None pair keeps p = p
step_keeps P heights peaks after (Some index) pair keeps p = keeps index pair

-- what a merge keeps whose node has the next position, the merges after a leaf keep
pub peaks_after_merges-keeps_next : (rule : Rule) (P : List Tree → Type 0) → IsPairing rule
    → ((index : ℕ) (peaks : List Tree) → IsPairOfEquals (map height peaks) index → P peaks
    → P (merged (size peaks) index peaks))
    → (room merges : ℕ) (peaks : List Tree) → P peaks → P (peaks_after_merges rule room merges peaks)
unfolding peaks_after_merges
peaks_after_merges-keeps_next rule P pairs keeps zero merges peaks p = p
peaks_after_merges-keeps_next rule P pairs keeps (suc room) merges peaks p =
    step_keeps P (map height peaks) peaks (λ index.
    peaks_after_merges rule room (suc merges) (merged (size peaks) index peaks)) (rule merges (map height peaks))
    (pairs merges (map height peaks))
    (λ index pair. peaks_after_merges-keeps_next rule P pairs keeps room (suc merges)
    (merged (size peaks) index peaks) (keeps index peaks pair p)) p

-- what every merge keeps, they keep
pub peaks_after_merges-keeps : (rule : Rule) (P : List Tree → Type 0) → IsPairing rule
    → ((p index : ℕ) (peaks : List Tree) → IsPairOfEquals (map height peaks) index → P peaks → P (merged p index peaks))
    → (room merges : ℕ) (peaks : List Tree) → P peaks → P (peaks_after_merges rule room merges peaks)
peaks_after_merges-keeps rule P pairs keeps =
    peaks_after_merges-keeps_next rule P pairs (λ index peaks. keeps (size peaks) index peaks)

-- every tree of a forest is perfect
pub forest_of-perfect : (rule : Rule) → IsPairing rule → (n : ℕ) → ArePerfect (forest_of rule n)
unfolding forest_of
forest_of-perfect rule pairs zero = tt
forest_of-perfect rule pairs (suc n) =
    peaks_after_merges-keeps rule ArePerfect pairs perfect-merged (length (forest_of rule n)) 0
    (leaf (size (forest_of rule n)) ∷ forest_of rule n) (tt, forest_of-perfect rule pairs n)

pub leaves-merged_pair : (n p index : ℕ) (peaks : List Tree) → IsPairOfEquals (map height peaks) index
    → leaves peaks ≡ n → leaves (merged p index peaks) ≡ n
leaves-merged_pair n p index peaks pair same =
    leaves-merged p index peaks (rw (← length-map peaks height) (pair_within (map height peaks) index pair)) ∙ same

-- the forest of n leaves has n leaves
pub leaves-forest_of : (rule : Rule) → IsPairing rule → (n : ℕ) → leaves (forest_of rule n) ≡ n
unfolding forest_of
leaves-forest_of rule pairs zero = refl
leaves-forest_of rule pairs (suc n) =
    peaks_after_merges-keeps rule (λ peaks. leaves peaks ≡ suc n) pairs (leaves-merged_pair (suc n))
    (length (forest_of rule n)) 0 (leaf (size (forest_of rule n)) ∷ forest_of rule n)
    (omega (arith, leaves-forest_of rule pairs n))

-- a perfect tree of height h has 2 ^ h leaves
pub leaf_count-perfect : (t : Tree) → IsPerfect t → leaf_count t ≡ 2 ^ height t
leaf_count-perfect (leaf p) perfect = refl
leaf_count-perfect (branch p left right) perfect =
    let l = leaf_count-perfect left perfect.1 in
    let r = leaf_count-perfect right perfect.2 in
    let same : 2 ^ height left ≡ 2 ^ height right = ap (λ h. 2 ^ h) perfect.0 in
    rw (pow-suc 2 (height left)) (omega arith)

pub height_fits : (bound : ℕ) (h : ℕ) → 2 ^ h ≤ 2 ^ bound → h ≤ bound
height_fits bound h le =
    elim (cases_lt bound h) [ inl lt ↦ absurd (omega (arith, pow_below bound h lt)) | inr le' ↦ le' ]

-- no peak of a forest of up to 2 ^ bound leaves is higher than the bound
abbrev pub AreUpTo : ℕ → List Tree → Type 0
AreUpTo bound [] = Unit {0}
AreUpTo bound (peak ∷ peaks) = (height peak ≤ bound) × AreUpTo bound peaks

pub heights-up_to : (bound : ℕ) (peaks : List Tree) → ArePerfect peaks → leaves peaks ≤ 2 ^ bound → AreUpTo bound peaks
heights-up_to bound [] perfect few = tt
heights-up_to bound (t ∷ peaks) perfect few = (
  height_fits bound (height t) (omega (arith, leaf_count-perfect t perfect.0)),
  heights-up_to bound peaks perfect.1
      (omega arith),
)

pub forest_of-up_to : (rule : Rule) → IsPairing rule → (bound n : ℕ) → n ≤ 2 ^ bound → AreUpTo bound (forest_of rule n)
forest_of-up_to rule pairs bound n few =
    heights-up_to bound (forest_of rule n) (forest_of-perfect rule pairs n)
    (omega (arith, leaves-forest_of rule pairs n))

size-merged_pair : (s p index : ℕ) (peaks : List Tree) → IsPairOfEquals (map height peaks) index → s < size peaks
    → s < size (merged p index peaks)
size-merged_pair s p index peaks pair more =
    omega (
      arith,
      size-merged p index peaks (rw (← length-map peaks height)
          (pair_within (map height peaks) index pair)),
    )

-- a leaf adds nodes
pub size-grows : (rule : Rule) → IsPairing rule → (n : ℕ) → size (forest_of rule n) < size (forest_of rule (suc n))
unfolding forest_of
size-grows rule pairs n =
    peaks_after_merges-keeps rule (λ peaks. size (forest_of rule n) < size peaks) pairs
    (size-merged_pair (size (forest_of rule n))) (length (forest_of rule n)) 0
    (leaf (size (forest_of rule n)) ∷ forest_of rule n)
    (omega arith)

-- more leaves have more nodes
pub size-order : (rule : Rule) → IsPairing rule → (more n : ℕ)
    → size (forest_of rule n) + more ≤ size (forest_of rule (n + more))
size-order rule pairs zero n = simp add-zero (omega arith)
size-order rule pairs (suc more) n =
    simp add-suc (omega (arith, size-order rule pairs more n, size-grows rule pairs (n + more)))

pub size-lt : (rule : Rule) → IsPairing rule → (n m : ℕ) → n < m → size (forest_of rule n) < size (forest_of rule m)
size-lt rule pairs n m lt =
    let same : size (forest_of rule (n + (m - n))) ≡ size (forest_of rule m) =
    ap (λ k. size (forest_of rule k)) (omega arith) in
    omega (arith, size-order rule pairs (m - n) n, same)

-- forests of one node count have one leaf count
pub size-le : (rule : Rule) → IsPairing rule → (n m : ℕ) → size (forest_of rule n) ≤ size (forest_of rule m) → n ≤ m
size-le rule pairs n m le =
    elim (cases_lt m n) [ inl lt ↦ absurd (omega (arith, le, size-lt rule pairs m n lt)) | inr le' ↦ le' ]

pub size-mono : (rule : Rule) → IsPairing rule → (n m : ℕ) → n ≤ m → size (forest_of rule n) ≤ size (forest_of rule m)
size-mono rule pairs n m le =
    let same : size (forest_of rule (n + (m - n))) ≡ size (forest_of rule m) =
    ap (λ k. size (forest_of rule k)) (omega arith) in
    omega (arith, size-order rule pairs (m - n) n, same)

-- the forest whose nodes are too many has more leaves
pub leaves-below : (rule : Rule) → IsPairing rule → (n m nodes : ℕ) → size (forest_of rule n) ≤ nodes
    → nodes < size (forest_of rule m) → n < m
leaves-below rule pairs n m nodes fits more =
    elim (cases_lt n m) [ inl lt ↦ lt | inr le ↦ absurd (omega (arith, fits, more, size-mono rule pairs m n le)) ]

-- the greatest leaf count whose nodes are not too many has a node count exactly if any has
pub no_size : (rule : Rule) → IsPairing rule → (found n nodes : ℕ) → size (forest_of rule found) ≤ nodes
    → nodes ≡ size (forest_of rule n) → n ≤ found → size (forest_of rule found) ≡ nodes
no_size rule pairs found n nodes fits is le = omega (arith, size-mono rule pairs n found le)
