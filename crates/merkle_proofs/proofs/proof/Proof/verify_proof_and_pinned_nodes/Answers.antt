use Rattle.std.proofs.Common.{rules, ◌≡◌, Some, sym, ◌∙◌, ap}
use Rattle.merkle_theory.proofs.PlanFolds.{if_ok}
use Rattle.merkle_proofs.proofs.proof.Proof.verify_proof_and_pinned_nodes.Goals as goal

pub returns : goal.returns
returns g c names over by =
    let enc = g.D.Write.encoding in
    let same : enc c.in-Ok.found ≡ enc c.args.root.now = search rules in
    let shown = sym (c.in-Ok.ensures.root names over by) ∙ ap (λ d. Some d) same in
    let pinned = rw (c.as_u64.ensures, c.as_u64-2.ensures, c.as_u64-3.ensures, c.deref.ensures.value) at c.are_pinned.ensures in
    if_ok c.are_pinned.result (λ yes it. (λ is. (shown, it.0 is), λ both. it.1 both.1)) pinned
