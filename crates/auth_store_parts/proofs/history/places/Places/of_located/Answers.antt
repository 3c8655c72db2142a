use Rattle.std.proofs.Common.{◌∷◌, []}
use Rattle.auth_store_parts.specs.Laws.Many.{state_of-made}
use Rattle.auth_store_parts.proofs.history.places.Places.of_located.Goals as goal

pub returns : goal.returns
returns g c =
    state_of-made g.K.Write.encoding (λ n. n ∷ []) g.K.Ord.cmp g.met.K.FixedKey.in_order g.met.K.Ord.total
    c.args.located.items c.in_ok-locations.locations c.requires c.in_ok-locations.ensures
