use Rattle.merkle_theory.specs.Laws.Proofs.{parts_written}
use Rattle.merkle_proofs.proofs.proof.write_parts.Goals as goal

pub returns-clause-ok : goal.returns-clause-ok
returns-clause-ok g c =
    parts_written g.D.Write.encoding c.args.proof.now.leaves c.args.proof.now.inactive_peaks
    c.args.proof.now.digests.items _ _ _ _
    c.write-2.result c.in_ok-write.ensures.ok c.in_ok-write_number.ensures.ok c.write-2.ensures.ok
