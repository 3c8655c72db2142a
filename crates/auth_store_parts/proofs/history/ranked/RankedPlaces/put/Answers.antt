use Rattle.std.proofs.Common.{◌∙◌, map, slice_get, ap, sym}
use Rattle.std.proofs.Math.ListN.{set}
use Rattle.std.proofs.lemmas.List.{length-map}
use Rattle.auth_store_parts.specs.Ranked.{names_at, places_at, with_place}
use Rattle.auth_store_parts.proofs.Ranks.{places_at-set}
use Rattle.auth_store_parts.proofs.Named.{rank_read, same_ranked}
use Rattle.auth_store_parts.proofs.history.ranked.RankedPlaces.put.Goals as goal

pub returns : goal.returns
returns g c key is =
    let encoding = g.K.Write.encoding in
    let keys = map encoding c.self.inside.keys.items in
    let ranks = c.self.inside.ranks.items in
    let slots = c.self.inside.slots.items in
    let rank = c.index-rank.result.now in
    same_ranked (names_at keys ranks) c.args.self.now.names (places_at keys (set slots rank c.args.place))
    (with_place c.args.self.now.places key c.args.place)
    (ap (λ ranked. ranked.names) c.self.view_is)
    (places_at-set keys slots rank key c.args.place c.self.invariant.0
    (rank_read keys ranks c.args.location rank key c.index-rank.ensures
    (ap (λ ranked. slice_get ranked.names c.args.location) c.self.view_is ∙ is))
    (c.self.invariant.1 ∙ sym (length-map c.self.inside.keys.items encoding))
    ∙ ap (λ ranked. with_place ranked.places key c.args.place) c.self.view_is)
