use Rattle.std.proofs.Common.{◌*◌, ◌/◌, ◌≤◌, sym, ◌∙◌, ap, subst}
use Rattle.state_theory.specs.Maps.{Map, IsMapOf}
use Rattle.state_theory.proofs.CallLemmas.{set_fits, set_of}
use Rattle.state_theory.proofs.WidthLemmas.{wide-some}
use Rattle.state_proofs_parts.proofs.authenticated.BitMap+D+N+Unmerkleized.set_bit.Goals as goal

pub invariant_of-self-2 : goal.invariant_of-self-2
invariant_of-self-2 g c =
    set_fits g.row.N c.self.inside.bits c.set_bit.new.self c.self.inside.tree c.self.inside.state.chunks.keys c.remember.new.chunks.keys
    c.args.bit _ c.as_u64-leaves.result _ c.args.value c.set_bit.ensures c.in_ok-remember.ensures.with
    (c.as_u64-leaves.ensures ∙ c.leaves.ensures.leaves) (ap (λ n. c.args.bit / n) c.chunk_bits.ensures.bits)
    (subst (λ (m : Map). 8 * g.row.N * m.bits.pruned ≤ c.args.bit) (sym c.self.view_is) c.requires.kept) c.self.invariant

pub returns-clause-of_list : goal.returns-clause-of_list
returns-clause-of_list g c leaf_of node_of all of =
    set_of leaf_of node_of g.row.N all c.self.inside.bits c.set_bit.new.self c.self.inside.tree c.self.inside.state.chunks.keys
    c.remember.new.chunks.keys c.args.bit c.as_u64-leaves.result _ c.args.value (wide-some g.row.N c.self.invariant.wide) c.set_bit.ensures
    c.in_ok-remember.ensures.with (c.as_u64-leaves.ensures ∙ c.leaves.ensures.leaves) (ap (λ n. c.args.bit / n) c.chunk_bits.ensures.bits)
    (subst (λ (m : Map). 8 * g.row.N * m.bits.pruned ≤ c.args.bit) (sym c.self.view_is) c.requires.kept)
    (subst (IsMapOf leaf_of node_of g.row.N all) (sym c.self.view_is) of)
