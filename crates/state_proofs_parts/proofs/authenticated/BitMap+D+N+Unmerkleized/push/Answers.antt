use Rattle.std.proofs.Common.{[], ◌∷◌, sym, subst}
use Rattle.state_theory.specs.Maps.{IsMapOf}
use Rattle.state_theory.proofs.CallLemmas.{push_fits, push_of}
use Rattle.state_proofs_parts.proofs.authenticated.BitMap+D+N+Unmerkleized.push.Goals as goal

pub invariant_of-self : goal.invariant_of-self
invariant_of-self g c =
    push_fits c.push.result g.row.N c.self.inside.bits c.push.new.self c.self.inside.tree c.self.inside.state.chunks.keys (c.args.bit ∷ [])
    c.push.ensures.pushed c.push.ensures.unchanged c.self.invariant

pub returns-clause-of_list : goal.returns-clause-of_list
returns-clause-of_list g c leaf_of node_of all of =
    push_of c.push.result leaf_of node_of g.row.N all c.self.inside.bits c.push.new.self c.self.inside.tree c.self.inside.state.chunks.keys
    (c.args.bit ∷ []) c.push.ensures.pushed (subst (IsMapOf leaf_of node_of g.row.N all) (sym c.self.view_is) of)
