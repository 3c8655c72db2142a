use Rattle.std.proofs.Common.{◌≡◌, ◌+◌, drop}
use Rattle.auth_store_parts.specs.History as spec
use Rattle.auth_store_parts.specs.Places.{placed}
use Rattle.auth_store_parts.proofs.history.ranked.RankedPlaces.follow_all.Given as goal

abbrev pub invariant-loop-index : goal.invariant-loop-index
invariant-loop-index g l =
    let meanings = spec.meanings g.K.Write.encoding g.V.Write.encoding in
    record {
      names : l.self.names ≡ l.initial.self.names;
      placed : placed (l.start + l.index) l.self.places (meanings (drop l.index l.operations))
          ≡ placed l.start l.initial.self.places (meanings l.operations);
    }
