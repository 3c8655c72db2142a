use Rattle.std.proofs.Common.{refl}
use Rattle.merkle_theory.specs.Laws.Proofs.{parts_joined}
use Rattle.merkle_proofs.proofs.proof.ProofRead.read_cfg.Goals as goal

pub returns-clause-read : goal.returns-clause-read
returns-clause-read g c =
    let listed = rw (c.new.ensures.least, c.new.ensures.greatest) at c.in_ok-digests.ensures.read.0 in (
      rw (c.in_ok-leaves.ensures.read.0, c.in_ok-inactive_peaks.ensures.exact, listed) refl,
      parts_joined g.D.Write.encoding c.in_ok-leaves.leaves c.in_ok-inactive_peaks.inactive_peaks
          c.in_ok-digests.digests.items _ _ _ _
          c.in_ok-leaves.ensures.read.1 c.in_ok-inactive_peaks.ensures.encoded c.in_ok-digests.ensures.read.1,
    )
