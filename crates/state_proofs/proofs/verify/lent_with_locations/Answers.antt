use Rattle.std.proofs.Common.{rules, tests}
use Rattle.std.proofs.lemmas.Iterator.{YieldsList-from_map_by, YieldsList-from_slice}
use Rattle.std.proofs.lemmas.Iterator.Consumers.{map_from_collect}
use Rattle.state_theory.specs.LogProofs.{placed}
use Rattle.state_proofs.proofs.verify.lent_with_locations.Goals as goal

pub returns : goal.returns
returns g c =
    map_from_collect c.collect.result c.collect.ensures.ran
    (YieldsList-from_map_by _ (λ e. placed e.0.now e.1) (λ e. placed e.0.items e.1) (YieldsList-from_slice c.args.encodings.now cc)
    c.map.ensures.closure (λ x r q k. search (rules, tests)))
