use Rattle.std.proofs.Common.{◌++◌}
use Rattle.merkle_core_parts.specs.Laws.Replaced.{replaced-more}
use Rattle.merkle_core_parts.proofs.laws.an_update_replaces_one_leaf.Goals as goal

pub returns : goal.returns
returns g c leaf_digests batch location digest =
    replaced-more (leaf_digests ++ batch.added) batch.updates (location, digest)
