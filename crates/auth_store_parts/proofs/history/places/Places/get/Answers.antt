use Rattle.std.proofs.Common.{◌∙◌, ◌∷◌, [], ap, option_map}
use Rattle.auth_store_parts.specs.Map.{value_at}
use Rattle.auth_store_parts.specs.Laws.Entries.{value_at-state_of}
use Rattle.auth_store_parts.proofs.history.places.Places.get.Goals as goal

pub returns : goal.returns
returns g c =
    ap (option_map (λ n. n ∷ [])) (c.copied.ensures ∙ c.get.ensures.value)
    ∙ (value_at-state_of g.K.Write.encoding (λ n. n ∷ []) g.K.Ord.cmp g.met.K.FixedKey.in_order
    c.self.inside.locations.entries c.args.key.now
    ∙ ap (λ places. value_at places (g.K.Write.encoding c.args.key.now)) c.self.view_is)
