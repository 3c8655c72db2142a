use Rattle.std.proofs.Common.{◌≡◌, ◌∙◌, ◌∷◌, [], ap, sym, map, subst}
use Rattle.std.proofs.lemmas.Result.{IfOk-weaker}
use Rattle.auth_store_parts.specs.Map.{state_of}
use Rattle.auth_store_parts.specs.History.{IsState}
use Rattle.auth_store_parts.proofs.Ranks.{IsState-places_at}
use Rattle.auth_store_parts.proofs.history.ranked.RankedPlaces.into_places.Goals as goal

pub of_located-requires : goal.of_located-requires
of_located-requires g c =
    subst IsState (sym c.in_ok-located.ensures)
    (IsState-places_at (map g.K.Write.encoding c.self.inside.keys.items) c.self.inside.slots.items c.self.invariant.0)

pub returns : goal.returns
returns g c =
    IfOk-weaker c.of_located.result
    (λ places. places ≡ state_of g.K.Write.encoding (λ n. n ∷ []) c.in_ok-located.located.items)
    (λ places. places ≡ c.args.self.places)
    (λ places made. made ∙ (c.in_ok-located.ensures ∙ ap (λ ranked. ranked.places) c.self.view_is)) c.of_located.ensures
