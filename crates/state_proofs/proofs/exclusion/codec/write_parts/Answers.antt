use Rattle.state_theory.proofs.Extending.{extends_two}
use Rattle.state_proofs.proofs.exclusion.codec.write_parts.Goals as goal

pub returns-in_ok-write-in-KeyValue-clause-err : goal.returns-in_ok-write-in-KeyValue-clause-err
returns-in_ok-write-in-KeyValue-clause-err g c =
    extends_two c.write-in-KeyValue.result c.args.out.now.items _ _ _ _ _ c.in_ok-push-in-KeyValue.ensures.items
    c.in_ok-write-in-KeyValue.ensures.ok c.write-in-KeyValue.ensures.err

pub returns-in_ok-write-in-Commit-clause-err : goal.returns-in_ok-write-in-Commit-clause-err
returns-in_ok-write-in-Commit-clause-err g c =
    extends_two c.write-in-Commit-2.result c.args.out.now.items _ _ _ _ _ c.in_ok-push-in-Commit.ensures.items
    c.in_ok-write-in-Commit.ensures.ok c.write-in-Commit-2.ensures.err
