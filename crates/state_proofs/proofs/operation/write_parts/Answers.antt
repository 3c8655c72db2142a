use Rattle.state_theory.proofs.Extending.{extends_first, extends_two}
use Rattle.state_proofs.proofs.operation.write_parts.Goals as goal

pub returns-in_err-write-clause-err : goal.returns-in_err-write-clause-err
returns-in_err-write-clause-err g c =
    extends_first c.from_residual.result c.args.out.now.items c.write.new.out.items c.in_err-write.ensures.err

pub returns-clause-err : goal.returns-clause-err
returns-clause-err g c =
    extends_two c.write-2.result c.args.out.now.items _ _ _ _ _ c.in_ok-write.ensures.ok
    c.in_ok-extend_from_slice.ensures.items c.write-2.ensures.err
