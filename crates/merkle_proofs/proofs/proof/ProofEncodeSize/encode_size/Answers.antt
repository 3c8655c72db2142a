use Rattle.std.proofs.Common.{arith}
use Rattle.merkle_theory.specs.Laws.Proofs.{length-proof}
use Rattle.merkle_proofs.proofs.proof.ProofEncodeSize.encode_size.Goals as goal

pub encode_size-requires-2 : goal.encode_size-requires-2
encode_size-requires-2 g c =
    omega (
      arith,
      c.requires,
      length-proof g.D.Write.encoding c.args.self.now.leaves c.args.self.now.inactive_peaks
          c.args.self.now.digests.items,
    )

pub overflow_add-result-2 : goal.overflow_add-result-2
overflow_add-result-2 g c =
    omega (
      arith,
      c.requires,
      length-proof g.D.Write.encoding c.args.self.now.leaves c.args.self.now.inactive_peaks
          c.args.self.now.digests.items,
    )

pub returns : goal.returns
returns g c =
    omega (
      arith,
      length-proof g.D.Write.encoding c.args.self.now.leaves c.args.self.now.inactive_peaks
          c.args.self.now.digests.items,
    )
