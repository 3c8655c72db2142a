use Rattle.std.proofs.Common.{[], refl}
use Rattle.std.proofs.KnownBytes.{Appends-nil}
use Rattle.auth_store.proofs.ScriptLines.{goes_none}
use Rattle.auth_store.proofs.script.progress.Progress.step.Goals as goal

pub returns-in-Empty : goal.returns-in-Empty
returns-in-Empty g c = rw c.in-Empty.is
    ([], [], ((refl, refl, refl), goes_none g.F.Named.family c.args.self.now.session), Appends-nil (g.W.Write.contents c.args.out.now))

pub returns-in-Put : goal.returns-in-Put
returns-in-Put g c = rw c.in-Put.is (c.put.ensures (g.W.Write.contents c.args.out.now))

pub returns-in-Delete : goal.returns-in-Delete
returns-in-Delete g c = rw c.in-Delete.is (c.delete.ensures (g.W.Write.contents c.args.out.now))
