use Rattle.std.proofs.Common.{◌≡◌, ◌+◌, None, ℕ, sym, ◌∙◌, ap, subst, arith}
use Rattle.merkle_forest.specs.Forest.{mmr_rule}
use Rattle.merkle_forest.specs.Laws.Rules.{mmr_merges_equals}
use Rattle.merkle_core_parts.specs.Mem.{node_at, tree_digest}
use Rattle.merkle_theory.specs.Plans.{first_missing, range_positions, honest_digests}
use Rattle.std.proofs.Common.{length}
use Rattle.state_theory.specs.Laws.Known.{all_known}
use Rattle.state_theory.proofs.ReadLemmas.{lookup_of}
use Rattle.state_theory.specs.Laws.Refusals.{element_memory}
use Rattle.state_proofs_parts.proofs.inclusion.chunk_digests.Goals as goal

pub out_of_memory-requires : goal.out_of_memory-requires
out_of_memory-requires g c =
    let tree = c.args.tree.now in
    element_memory mmr_rule tree.leaves c.new.result (node_at mmr_rule tree) c.in-Err.e (omega (arith, c.new.ensures, c.requires.there))
    (subst (λ (n : ℕ). first_missing (node_at mmr_rule tree) (range_positions mmr_rule tree.leaves n (n + 1)) ≡ None) (sym c.new.ensures)
    (all_known mmr_rule mmr_merges_equals tree c.pruning_boundary-boundary.ensures.shape c.args.chunk (c.args.chunk + 1) c.requires.kept))
    c.in-Err.ensures.refused

pub returns-clause-of_list : goal.returns-clause-of_list
returns-clause-of_list g c node_of list are =
    c.in-Ok.ensures.of_list node_of list are.counted (lookup_of node_of mmr_rule list c.args.tree.now are)
    ∙ ap (λ (n : ℕ). honest_digests g.H.Hasher.hash_of (tree_digest node_of list) (g.H.Hasher.bagging_of c.args.hasher.now) mmr_rule (length list) 0
    n (n + 1)) c.new.ensures
