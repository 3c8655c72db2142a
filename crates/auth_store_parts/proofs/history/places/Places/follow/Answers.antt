use Rattle.std.proofs.Common.{◌∙◌, ◌∷◌, [], ap, sym, refl}
use Rattle.state_ops.specs.Operation.{meaning_of}
use Rattle.auth_store_parts.specs.Map.{state_of, with_entry, without_key}
use Rattle.auth_store_parts.specs.Places.{after_place}
use Rattle.auth_store_parts.specs.Laws.Entries.{state_of-insert_copies, state_of-remove_entry}
use Rattle.auth_store_parts.proofs.history.places.Places.follow.Goals as goal

pub returns-in-Delete-clause-ok : goal.returns-in-Delete-clause-ok
returns-in-Delete-clause-ok g c =
    let key = g.K.Write.encoding in
    ap (state_of key (λ n. n ∷ [])) c.remove.ensures.entries
    ∙ (state_of-remove_entry key (λ n. n ∷ []) g.K.Ord.cmp g.met.K.FixedKey.in_order c.self.inside.locations.entries
    c.in-Delete.key
    ∙ (ap (λ places. without_key places (key c.in-Delete.key)) c.self.view_is
    ∙ ap (λ operation. after_place c.args.location (meaning_of key g.V.Write.encoding operation) c.args.self.now)
    (sym c.in-Delete.is)))

pub returns-in_ok-insert-in-Update-clause-ok : goal.returns-in_ok-insert-in-Update-clause-ok
returns-in_ok-insert-in-Update-clause-ok g c =
    let key = g.K.Write.encoding in
    state_of-insert_copies key (λ n. n ∷ []) g.K.Ord.cmp g.met.K.FixedKey.in_order c.self.inside.locations.entries _
    c.in-Update.update.key c.in_ok-key-in-Update.key c.args.location c.args.location
    (g.met.K.Faithful.copied c.in-Update.update.key c.in_ok-key-in-Update.key c.in_ok-key-in-Update.ensures.cases) refl
    c.in_ok-insert-in-Update.ensures.entries
    ∙ (ap (λ places. with_entry places (key c.in-Update.update.key) (c.args.location ∷ [])) c.self.view_is
    ∙ ap (λ operation. after_place c.args.location (meaning_of key g.V.Write.encoding operation) c.args.self.now)
    (sym c.in-Update.is))
