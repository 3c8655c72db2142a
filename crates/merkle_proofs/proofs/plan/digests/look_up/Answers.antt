use Rattle.std.proofs.Common.{◌≡◌, map, None, sym, ◌∙◌, ap}
use Rattle.std.proofs.lemmas.List.{take_all}
use Rattle.merkle_theory.proofs.PlanDigests.{missing_after}
use Rattle.merkle_proofs.proofs.plan.digests.look_up.Goals as goal

pub returns-in-None-clause-refused : goal.returns-in-None-clause-refused
returns-in-None-clause-refused g c known answers =
    let none : known c.position-item.result ≡ None =
    ap known (sym c.as_u64.ensures) ∙ sym (answers c.as_u64.result None c.as_u64.type_inv c.in-None.ensures) in
    missing_after known (map g.D.Write.encoding c.loop-position.found.items) c.args.positions.now c.loop-position.position-index c.position-item.result _
    (c.loop-position.invariant.3 known answers) c.loop-position-test.true c.position-item.is none

pub returns-clause-found : goal.returns-clause-found
returns-clause-found g c known answers =
    c.loop-position.invariant.3 known answers ∙ ap (map known) (take_all c.loop-position.position-index c.args.positions.now c.loop-position-test.false)
