use Rattle.std.proofs.Common.{arith}
use Rattle.auth_store_proving.proofs.ranges.operation_with_proof.Goals as goal

pub read_operation-requires : goal.read_operation-requires
read_operation-requires g c = record {
  may = c.requires.may;
  within = omega (arith, c.requires.within, c.requires.of.keeps.current.leaves);
}

pub returns-clause-bytes : goal.returns-clause-bytes
returns-clause-bytes g c = c.in_ok-bytes.ensures (g.L.LoggedValues.log c.args.log.now) c.requires.of
