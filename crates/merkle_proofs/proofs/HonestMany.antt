-- A proof of several elements that leads to the root of a list is the honest one, or strings collide.
use Rattle.std.proofs.Common.{◌≡◌, ℕ, zero, suc, ◌<◌, ◌≤◌, ◌^◌, List, []}
use Rattle.std.proofs.Common.{◌∷◌, length, Contains, Some, IfSome, sym, ◌∙◌, ap, subst, arith}
use Rattle.std.specs.List.{AllByRecursion}
use Rattle.std.specs.Prelude.{slice_get}
use Rattle.std.proofs.lemmas.List.Sorted.{Contains-permutation, IsPermutation-sym, length_permutation}
use Rattle.std.proofs.lemmas.Option.{slice_get_within, get_or_from_slice_get}
use Rattle.merkle_forest.specs.declared.bagging.Bagging.{Bagging}
use Rattle.merkle_forest.specs.Forest.{Tree, position, Rule, forest_of}
use Rattle.merkle_forest.specs.Hashing.{Hash}
use Rattle.merkle_forest.specs.Laws.NodeGrowth.{one-node}
use Rattle.merkle_forest.specs.Nodes.{IsNodeAt}
use Rattle.merkle_forest.specs.Perfect.{IsPairing}
use Rattle.merkle_forest.specs.Trees.{Located, plain_digest}
use Rattle.merkle_core_parts.specs.Laws.Plain.{digest-plain, length-plain}
use Rattle.merkle_core_parts.specs.Mem.{plain_node, plain_leaf_digests}
use Rattle.merkle_theory.specs.Laws.HonestReads.{plain_children}
use Rattle.merkle_theory.specs.Laws.MadeTrees.{AllSized, value_plain}
use Rattle.merkle_theory.specs.MadeRoots.{peaks_of}
use Rattle.merkle_theory.specs.MadeTrees.{whole, plain_over}
use Rattle.merkle_theory.specs.Multi.{multi_nodes, AreDigestsAt, AreMultiPositions}
use Rattle.merkle_theory.specs.MultiReads.{Shown, locations_of, shown_at, ranked, needed_positions, multi_root}
use Rattle.merkle_theory.specs.MultiSoundness.{AreHonestFor, AreHonestOrCollide}
use Rattle.merkle_theory.specs.Plans.{positions_of}
use Rattle.merkle_theory.specs.Soundness.{plain_names}
use Rattle.merkle_theory.proofs.HonestRoots.{ascend_located}
use Rattle.merkle_theory.proofs.Lookups.{IsNode}
use Rattle.merkle_theory.proofs.MultiHonest.{multi_all}
use Rattle.merkle_theory.proofs.MultiSound.{multi_told}
use Rattle.merkle_theory.proofs.MultiTold.{IsOwn, PeaksTold, peaks_told, multi_up}
use Rattle.merkle_proofs.proofs.OneRank.{at_most_once, rank_is}
use Rattle.merkle_proofs.proofs.PinnedMade.{distinct}

-- the node that stands at a position of these
record StandsThere (P Q : Located → Type 0) (p : ℕ) : Type 0 where
  node : Located
  one : P node
  other : Q node
  at : position node.1 ≡ p

stands_there : (P Q : Located → Type 0) (p : ℕ) (ns : List Located) → AllByRecursion P ns → AllByRecursion Q ns
    → Contains (positions_of ns) p → StandsThere P Q p
stands_there P Q p [] one other among = absurd (omega (arith, among.1))
stands_there P Q p (n ∷ ns) one other (zero, below, is) = record { node = n; one = one.0; other = other.0; at = is }
stands_there P Q p (n ∷ ns) one other (suc k, below, is) = stands_there P Q p ns one.1 other.1 (k, omega (arith, below), is)

module _ (hash : Hash) (rule : Rule) (pairs : IsPairing rule) (elements : List (List ℕ)) (leaf_total : ℕ) (locations : List ℕ)
    (digests : List (List ℕ)) (same : leaf_total ≡ length elements) where
  abbrev needed : List ℕ
  needed = needed_positions rule leaf_total locations

  abbrev nodes : List Located
  nodes = multi_nodes locations (peaks_of rule leaf_total)

  abbrev Own : Located → Type 0
  Own = IsOwn hash plain_over plain_over (whole elements) (whole elements) (plain_digest hash elements) locations (ranked needed digests)
      (value_plain hash elements) (plain_children hash)

  module _ (all : AllByRecursion Own nodes) (positions : List ℕ) (at : AreMultiPositions rule leaf_total locations positions) where
    digest_there : (i first : ℕ) (tree : Tree) → IsNodeAt first tree (forest_of rule leaf_total) → slice_get positions i ≡ Some (position tree)
        → slice_get digests i ≡ Some (plain_digest hash elements first tree)
    digest_there i first tree stands is =
        let p : ℕ = position tree in
        let among : Contains positions p = (i, slice_get_within positions i p is, get_or_from_slice_get positions i p p is) in
        let found = stands_there (IsNode (forest_of rule leaf_total)) Own p nodes (multi_all locations (forest_of rule leaf_total)) all
        (Contains-permutation positions needed p (IsPermutation-sym needed positions at.all) among) in
        let one = one-node rule pairs leaf_total leaf_total found.node.0 first found.node.1 tree found.one stands found.at in
        let rank = rank_is needed positions i p at.all at.ascending
        (at_most_once p nodes (distinct rule pairs leaf_total 0 nodes (multi_up locations 0 (peaks_of rule leaf_total)
        (ascend_located (forest_of rule leaf_total))) (multi_all locations (forest_of rule leaf_total)))) is in
        ap (slice_get digests) (sym rank) ∙ ap (ranked needed digests) (sym found.at) ∙ found.other
        ∙ ap (λ n. Some (plain_digest hash elements n found.node.1)) one.0 ∙ ap (λ t. Some (plain_digest hash elements first t)) one.1

  pub given_there : AllByRecursion Own nodes → length digests ≡ length needed → (positions : List ℕ)
      → AreMultiPositions rule (length elements) locations positions
      → (length digests ≡ length positions) × AreDigestsAt (plain_node hash) rule (plain_leaf_digests hash rule 0 elements) positions digests
  given_there all counted positions at =
      let here : AreMultiPositions rule leaf_total locations positions =
      subst (λ n. AreMultiPositions rule n locations positions) (sym same) at in
      let total : length (plain_leaf_digests hash rule 0 elements) ≡ length elements = length-plain hash rule 0 elements in (
        counted ∙ sym (length_permutation needed positions here.all),
        λ i first tree stands is.
            let there : IsNodeAt first tree (forest_of rule (length elements)) =
            subst (λ n. IsNodeAt first tree (forest_of rule n)) total stands in
            digest_there all positions here i first tree (subst (λ n. IsNodeAt first tree (forest_of rule n)) (sym same) there) is
            ∙ ap (λ d. Some d) (sym (digest-plain hash rule pairs elements first tree there)),
      )

pub multi_honest : (hash : Hash) (size : ℕ) (hash_sized : (xs : List ℕ) → length (hash xs) ≡ size) (bagging : Bagging) (rule : Rule)
    (pairs : IsPairing rule) (elements : List (List ℕ)) (inactive : ℕ) → length elements ≤ 2 ^ 62 → inactive < 2 ^ 64
    → (leaf_total shown_inactive : ℕ) (shown : Shown) (digests : List (List ℕ)) → AllSized size digests
    → IfSome (multi_root plain_names plain_over bagging rule leaf_total shown_inactive shown digests)
    (AreHonestOrCollide hash bagging rule elements inactive leaf_total shown_inactive shown digests)
multi_honest hash size hash_sized bagging rule pairs elements inactive few few_inactive leaf_total shown_inactive shown digests sized =
    let locations : List ℕ = locations_of shown in
    let known = ranked (needed_positions rule leaf_total locations) digests in
    let Told = PeaksTold hash plain_over plain_over (shown_at shown) (whole elements) (plain_digest hash elements) locations known
    (value_plain hash elements) (plain_children hash) size hash_sized plain_names (peaks_of rule leaf_total) in
    multi_told hash size hash_sized bagging rule pairs elements inactive few few_inactive leaf_total shown_inactive shown digests sized Told
    (AreHonestFor hash rule elements inactive leaf_total shown_inactive shown digests)
    (peaks_told hash plain_over plain_over (shown_at shown) (whole elements) (plain_digest hash elements) locations known
    (value_plain hash elements) (plain_children hash) size hash_sized plain_names (peaks_of rule leaf_total))
    (λ xs are told good counted same_leaves same_inactive agree. record {
      leaf_count = same_leaves;
      inactive_count = same_inactive;
      given = given_there hash rule pairs elements leaf_total locations digests same_leaves (told agree) counted;
    })
