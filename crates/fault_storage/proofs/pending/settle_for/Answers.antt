use Rattle.std.proofs.Common.{rules, sym}
use Rattle.fault_storage.specs.Pending.{is_of, settled}
use Rattle.fault_storage.proofs.Standings.{changed-at, changed-none}
use Rattle.fault_storage.proofs.pending.settle_for.Goals as goal

pub returns-in-Some : goal.returns-in-Some
returns-in-Some c =
    changed-at (is_of c.args.ticket.now) c.deref.result.now c.args.standings.now.items c.in-Some.place c.index_mut.result.now c.settle.new.self
    (settled c.args.ticket.now.number) c.deref.ensures.value c.in-Some.ensures c.index_mut.ensures.value c.settle.ensures

pub returns-in_default : goal.returns-in_default
returns-in_default c = sym (changed-none (is_of c.args.ticket.now) (settled c.args.ticket.now.number) c.args.standings.now.items (search rules))
