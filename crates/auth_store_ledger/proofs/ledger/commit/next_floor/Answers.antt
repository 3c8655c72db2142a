use Rattle.std.proofs.Common.{arith}
use Rattle.state_theory.specs.Laws.Bits.{length-all}
use Rattle.auth_store_ledger.proofs.ledger.commit.next_floor.Goals as goal

pub first_set_from-requires : goal.first_set_from-requires
first_set_from-requires g c =
    record {
      few = omega (
        arith,
        length-all g.row.N c.args.current.now.bits,
        c.leaves-leaves.ensures.bits,
        c.leaves-leaves.ensures.leaves,
        c.requires.few,
      );
      kept = omega (arith, c.requires.behind, c.floor.ensures, c.as_u64-floor.ensures);
    }

pub returns : goal.returns
returns g c = rw (c.as_u64-floor.ensures, c.floor.ensures) at c.first_set_from.ensures
