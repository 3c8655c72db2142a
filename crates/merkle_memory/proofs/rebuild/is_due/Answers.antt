use Rattle.std.proofs.Common.{get_or, refl, arith}
use Rattle.merkle_core_parts.specs.Laws.Encoded.{drop-encoded, drop-none}
use Rattle.merkle_core_parts.specs.Laws.Due.{due-at, due-none}
use Rattle.merkle_memory.proofs.rebuild.is_due.Goals as goal

pub returns-then-next-updates-clause-due : goal.returns-then-next-updates-clause-due
returns-then-next-updates-clause-due g c =
    due-none c.args.end _ (drop-none g.D.Write.encoding c.args.updates.now c.args.next (omega (arith, c.if-next-updates.true)))

pub returns-clause-due : goal.returns-clause-due
returns-clause-due g c =
    let u = get_or c.args.updates.now c.args.next c.index-updates-next.result in
    due-at c.args.end (u.0, g.D.Write.encoding u.1) _ _
    (drop-encoded g.D.Write.encoding c.args.updates.now c.args.next u c.index-updates-next.result
    (omega (arith, c.if-next-updates.false)) refl)
