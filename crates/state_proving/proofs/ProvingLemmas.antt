-- What proofs of what is kept are built of.
use Rattle.std.proofs.Common.{◌≡◌, ℕ, ◌≤◌, ◌^◌, List, length, Option, sym, ◌∙◌, subst}
use Rattle.std.specs.Prelude.{IfSome}
use Rattle.merkle_core_parts.specs.Laws.Held.{right-there}
use Rattle.merkle_core_parts.specs.Mem.{node_at, plain_leaf_digests, plain_node, tree_digest}
use Rattle.state_theory.specs.Sources.{IsSourceOf, Source}
use Rattle.state_theory.specs.Canonical.{Setting, State}
use Rattle.state_theory.specs.GraftedNodes.{IsLookupOfOperations, grafted_lookup}
use Rattle.state_theory.specs.Laws.GraftedTrees.{chunks_are, source_is}
use Rattle.state_theory.specs.Bits.{all_bits}
use Rattle.state_current.specs.Kept.{Kept, StandsFor}
use Rattle.state_current.proofs.CurrentLemmas.{IsGraftable, all_are}

pub source_stands : (setting : Setting) (state : State) (kept : Kept) (facts : IsGraftable setting.rule) (stands : StandsFor setting state kept)
    → length state.operations ≤ 2 ^ 62 → (source : Source) → source.span.leaves ≡ kept.operations.leaves
    → source.bits ≡ all_bits setting.width kept.bits
    → source.known ≡ grafted_lookup setting.rule setting.hash (record {
      grafting_height = setting.grafting_height;
      operations = node_at setting.rule kept.operations;
      chunks = node_at setting.rule kept.chunks;
    }) → IsSourceOf setting state source
source_stands setting state kept facts stands few source leaves_are bits_are known_are =
    let digests : List (List ℕ) = plain_leaf_digests setting.hash setting.rule 0 state.operations in
    let of_operations : IsLookupOfOperations setting state (node_at setting.rule kept.operations) =
    λ first tree digest node is.
    (let If : Option (List ℕ) → Type 0 = λ o. IfSome o (λ d. d ≡ tree_digest (plain_node setting.hash) digests first tree) in
    subst If is (right-there (plain_node setting.hash) setting.rule digests kept.operations stands.operations first tree node)) in
    source_is setting state facts.root facts.pairs facts.roots stands.whole few facts.aligned source (node_at setting.rule kept.operations)
    (node_at setting.rule kept.chunks) of_operations
    (chunks_are setting state facts.root facts.pairs facts.roots stands.whole few stands.leaf_digests kept.chunks stands.joined stands.chunks)
    (leaves_are ∙ all_are setting state kept facts stands) (bits_are ∙ sym stands.bits) known_are
