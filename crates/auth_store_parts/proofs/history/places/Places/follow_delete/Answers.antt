use Rattle.std.proofs.Common.{◌∙◌, ◌∷◌, [], ap, sym}
use Rattle.state_ops.specs.Operation.{meaning_of}
use Rattle.auth_store_parts.specs.Map.{state_of, without_key}
use Rattle.auth_store_parts.specs.Staged.{after_delete}
use Rattle.auth_store_parts.specs.Laws.Entries.{state_of-remove_entry}
use Rattle.auth_store_parts.proofs.history.places.Places.follow_delete.Goals as goal

pub returns-in-Delete : goal.returns-in-Delete
returns-in-Delete g c =
    let key = g.K.Write.encoding in
    ap (state_of key (λ n. n ∷ [])) c.remove.ensures.entries
    ∙ (state_of-remove_entry key (λ n. n ∷ []) g.K.Ord.cmp g.met.K.FixedKey.in_order c.self.inside.locations.entries
    c.in-Delete.key
    ∙ (ap (λ places. without_key places (key c.in-Delete.key)) c.self.view_is
    ∙ ap (λ operation. after_delete (meaning_of key g.V.Write.encoding operation) c.args.self.now) (sym c.in-Delete.is)))
