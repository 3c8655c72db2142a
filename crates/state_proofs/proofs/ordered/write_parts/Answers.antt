use Rattle.state_theory.proofs.Extending.{extends_first}
use Rattle.state_proofs.proofs.ordered.write_parts.Goals as goal

pub returns-in_err-write-clause-err : goal.returns-in_err-write-clause-err
returns-in_err-write-clause-err g c =
    extends_first c.from_residual.result c.args.out.now.items c.write.new.out.items c.in_err-write.ensures.err
