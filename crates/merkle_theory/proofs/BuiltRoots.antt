-- Proofs that are built out of the nodes of a plain tree lead to its root.
use Rattle.std.proofs.Common.{◌≡◌, ℕ, ◌+◌, ◌-◌, ◌^◌, ◌<◌, ◌≤◌, take, drop}
use Rattle.std.proofs.Common.{length, List, ◌∷◌, [], Some, option_map, sym, ◌∙◌, ap, subst, arith}
use Rattle.std.proofs.lemmas.List.{length-take-le, length-drop}
use Rattle.std.specs.List.{AllByRecursion}
use Rattle.merkle_forest.specs.declared.bagging.Bagging.{Bagging}
use Rattle.merkle_forest.specs.Forest.{Rule, forest_of}
use Rattle.merkle_forest.specs.Hashing.{Hash}
use Rattle.merkle_forest.specs.Made.{value}
use Rattle.merkle_forest.specs.Perfect.{IsPairing}
use Rattle.merkle_forest.specs.Laws.ForestGrowth.{leaves-forest_of}
use Rattle.merkle_forest.specs.Laws.Trees.{length-located}
use Rattle.merkle_forest.specs.Trees.{Located, plain_digest, tree_root}
use Rattle.merkle_core_parts.specs.Mem.{tree_digest, plain_node, plain_leaf_digests}
use Rattle.merkle_core_parts.specs.Laws.Plain.{digest-plain}
use Rattle.merkle_theory.specs.MadeRoots.{peaks_of}
use Rattle.merkle_theory.specs.MadeTrees.{from, plain_over}
use Rattle.merkle_theory.specs.Plans.{honest_digests, range_nodes}
use Rattle.merkle_theory.specs.Reads.{Agrees, range_root}
use Rattle.merkle_theory.specs.Soundness.{plain_names}
use Rattle.merkle_theory.proofs.HonestRoots.{honest_root, part_agrees, peak_there}
use Rattle.merkle_theory.proofs.Lookups.{IsNode, range_all, AreSame, honest_same}

all_more : (P Q : Located → Type 0) → ((x : Located) → P x → Q x) → (xs : List Located) → AllByRecursion P xs → AllByRecursion Q xs
all_more P Q each [] all = tt
all_more P Q each (x ∷ xs) all = (each x all.0, all_more P Q each xs all.1)

-- the honest proof of a range of a list leads to its root
pub plain_root : (rule : Rule) → IsPairing rule → (hash : Hash) (bagging : Bagging) (elements : List (List ℕ)) (inactive start stop : ℕ)
    → length elements ≤ 2 ^ 62 → start < stop → stop ≤ length elements → inactive ≤ length (peaks_of rule (length elements))
    → option_map (value hash) (range_root plain_names plain_over bagging rule (length elements) inactive start
    (take (stop - start) (drop start elements))
    (honest_digests hash (plain_digest hash elements) bagging rule (length elements) inactive start stop))
    ≡ Some (tree_root hash bagging rule elements inactive)
unfolding tree_root
plain_root rule pairs hash bagging elements inactive start stop few some within enough =
    let n = length elements in
    let part = take (stop - start) (drop start elements) in
    let plain = plain_digest hash elements in
    let count : length part ≡ stop - start = length-take-le (stop - start) (drop start elements) (omega (arith, length-drop start elements, within)) in
    let end : start + length part ≡ stop = omega (arith, count, some) in
    let middle : start + (stop - start) ≡ start + length part = omega (arith, count) in
    let agrees = subst (λ s. Agrees hash plain_over (from start part) plain start s) middle (part_agrees hash elements start (stop - start)) in
    let there : 0 < length (peaks_of rule n) = omega (
      arith,
      length-located (forest_of rule n),
      peak_there (forest_of rule n) (omega (arith, leaves-forest_of rule pairs n, some, within)),
    ) in
    ap (λ s. option_map (value hash) (range_root plain_names plain_over bagging rule n inactive start part
    (honest_digests hash plain bagging rule n inactive start s))) (sym end)
    ∙ honest_root hash plain_names plain_over bagging plain rule n inactive start part (omega (arith, count, some)) agrees few
    (omega (arith, end, within)) enough there

pub built_root : (rule : Rule) → IsPairing rule → (hash : Hash) (bagging : Bagging) (elements : List (List ℕ)) (inactive start stop : ℕ)
    → length elements ≤ 2 ^ 62 → start < stop → stop ≤ length elements → inactive ≤ length (peaks_of rule (length elements))
    → option_map (value hash) (range_root plain_names plain_over bagging rule (length elements) inactive start
    (take (stop - start) (drop start elements))
    (honest_digests hash (tree_digest (plain_node hash) (plain_leaf_digests hash rule 0 elements)) bagging rule (length elements) inactive start stop))
    ≡ Some (tree_root hash bagging rule elements inactive)
built_root rule pairs hash bagging elements inactive start stop few some within enough =
    let n = length elements in
    let one = tree_digest (plain_node hash) (plain_leaf_digests hash rule 0 elements) in
    let plain = plain_digest hash elements in
    let same = honest_same one plain hash bagging rule n inactive start stop
    (all_more (IsNode (forest_of rule n)) (AreSame one plain) (λ x stands. digest-plain hash rule pairs elements x.0 x.1 stands)
    (range_nodes start stop (peaks_of rule n)) (range_all (forest_of rule n) start stop)) in
    ap (λ ds. option_map (value hash) (range_root plain_names plain_over bagging rule n inactive start
    (take (stop - start) (drop start elements)) ds)) same
    ∙ plain_root rule pairs hash bagging elements inactive start stop few some within enough
