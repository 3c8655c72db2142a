use Rattle.std.proofs.Common.{◌≡◌, ◌≤◌, true, false, length, sym, ◌∙◌, ap, subst}
use Rattle.merkle_forest.specs.Forest.{forest_of}
use Rattle.merkle_forest.specs.Trees.{located, inactive_peaks}
use Rattle.merkle_core_parts.specs.Mem.{digests_from, list_root, node_at, plain_leaf_digests, plain_node}
use Rattle.state_theory.specs.Canonical.{Setting, setting_with}
use Rattle.state_theory.specs.Laws.SameNodes.{born}
use Rattle.state_current.specs.Kept.{Kept, StandsFor}
use Rattle.state_current.proofs.CurrentLemmas.{IsGraftable, inactive_within, operations_root_is}
use Rattle.state_current.proofs.current.Current.root_of_operations.Goals as goal

pub unreachable-requires : goal.unreachable-requires
unreachable-requires g c =
    let same = c.as_u64-leaves.ensures ∙ c.leaves.ensures.leaves in
    let le = inactive_within g.F.Family.merge_rule c.as_u64-leaves.result c.self.inside.floor c.inactive_count-inactive.result
    (node_at g.F.Family.merge_rule c.self.inside.operations) c.inactive_count-inactive.ensures in
    let e : false ≡ true =
    c.in-Err.ensures.answered.1 (subst (λ n. c.inactive_count-inactive.result
    ≤ length (digests_from g.F.Family.merge_rule n (node_at g.F.Family.merge_rule c.self.inside.operations) 0)) same le) in
    cc

pub returns : goal.returns
returns g c height state stands =
    let setting : Setting = setting_with g.F.Family.merge_rule g.H.HashFunction.hash_of g.row.N height in
    let facts : IsGraftable g.F.Family.merge_rule = record {
      root = g.F.Graftable.root_of;
      birth = g.F.Graftable.birth_of;
      pairs = g.met.F.Family.merges_equals;
      roots = g.met.F.Graftable.roots;
      aligned = g.met.F.Graftable.aligned;
      born = born g.met.F.Graftable.births g.met.F.Graftable.births_apart g.met.F.Graftable.births_soon;
      counted = λ n chunk level few some low. g.met.F.Graftable.chunks_counted n chunk level few some low;
    } in
    let kept : Kept = record {
      operations = c.self.inside.operations;
      chunks = c.self.inside.chunks;
      bits = c.self.inside.bits;
      floor = c.self.inside.floor;
    } in
    let here : StandsFor setting state kept = subst (StandsFor setting state) (sym c.self.view_is) stands in
    let leaf_digests = plain_leaf_digests g.H.HashFunction.hash_of g.F.Family.merge_rule 0 state.operations in
    operations_root_is setting state kept facts here c.inactive_count-inactive.result (g.H.Digest.Write.encoding c.in-Ok.root)
    (c.inactive_count-inactive.ensures
    ∙ ap (λ n. inactive_peaks c.self.inside.floor (located (forest_of g.F.Family.merge_rule n))) (c.as_u64-leaves.ensures ∙ c.leaves.ensures.leaves))
    (c.in-Ok.ensures.of_list leaf_digests here.operations
    ∙ ap
    (λ b. list_root g.H.HashFunction.hash_of (plain_node g.H.HashFunction.hash_of) b g.F.Family.merge_rule leaf_digests c.inactive_count-inactive.result)
    c.new-hasher.ensures)
