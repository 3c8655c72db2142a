use Rattle.std.proofs.Common.{[], refl, sym, subst, ◌∙◌}
use Rattle.auth_store_parts.specs.Map.{Map}
use Rattle.auth_store_parts.specs.Staged.{told, AreEarlier}
use Rattle.auth_store_parts.proofs.history.places.Places.follow_updates.Goals as goal

-- nothing that is remembered leads to where one is
at_first : (places : Map) → AreEarlier places places []
at_first places = record { back = refl; can = tt }

pub returns-in-Ok-clause-earlier : goal.returns-in-Ok-clause-earlier
returns-in-Ok-clause-earlier g c =
    let places = c.args.self.now in
    c.follow_each_update.ensures.earlier places
    (subst (λ items. AreEarlier places places (told g.K.Write.encoding items)) (sym c.new-earlier.ensures.items)
    (at_first places))

pub returns-in-Err-clause-err : goal.returns-in-Err-clause-err
returns-in-Err-clause-err g c =
    let places = c.args.self.now in
    let earlier = c.follow_each_update.ensures.earlier places
    (subst (λ items. AreEarlier places places (told g.K.Write.encoding items)) (sym c.new-earlier.ensures.items)
    (at_first places)) in
    c.take_back.ensures ∙ earlier.back
