use Rattle.std.proofs.Common.{◌∙◌, ◌∷◌, [], ap}
use Rattle.auth_store_parts.specs.Laws.Entries.{state_of-clone}
use Rattle.auth_store_parts.proofs.history.places.Places.try_copy.Goals as goal

pub returns : goal.returns
returns g c =
    state_of-clone g.K.Write.encoding (λ n. n ∷ []) g.K.Clone.is_clone _ g.met.K.Faithful.copied
    (λ n m is. ap (λ l. l ∷ []) is) c.self.inside.locations.entries c.in_ok-locations.locations.entries
    c.in_ok-locations.ensures.cases
    ∙ c.self.view_is
