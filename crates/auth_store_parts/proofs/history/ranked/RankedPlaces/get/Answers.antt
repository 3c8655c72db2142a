use Rattle.std.proofs.Common.{◌≡◌, ◌∙◌, Some, map, slice_get, ap}
use Rattle.auth_store_parts.specs.Map.{value_at}
use Rattle.auth_store_parts.proofs.Ranks.{value_at_rank}
use Rattle.auth_store_parts.proofs.Named.{read, rank_key}
use Rattle.auth_store_parts.proofs.history.ranked.RankedPlaces.get.Goals as goal

pub returns : goal.returns
returns g c key is =
    let keys = map g.K.Write.encoding c.self.inside.keys.items in
    let location = c.args.location in
    let rank = c.in_ok-rank.field-0.now in
    let slot = c.in_ok-get.field-0.now in
    let at : slice_get c.self.inside.ranks.items location ≡ Some rank =
    read c.self.inside.ranks.items c.deref.result.now location rank c.deref.ensures.value
    c.in_ok-rank.ensures.lookup.3.0 c.in_ok-rank.ensures.lookup.1 in
    let has : slice_get c.self.inside.slots.items rank ≡ Some slot =
    read c.self.inside.slots.items c.deref-2.result.now rank slot c.deref-2.ensures.value
    c.in_ok-get.ensures.lookup.3.0 c.in_ok-get.ensures.lookup.1 in
    value_at_rank keys c.self.inside.slots.items rank key slot c.self.invariant.0
    (rank_key keys c.self.inside.ranks.items location rank key at
    (ap (λ ranked. slice_get ranked.names location) c.self.view_is ∙ is)) has
    ∙ ap (λ ranked. value_at ranked.places key) c.self.view_is
