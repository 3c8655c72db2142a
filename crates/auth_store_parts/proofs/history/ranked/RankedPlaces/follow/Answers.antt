use Rattle.std.proofs.Common.{◌∙◌, [], ap, sym}
use Rattle.state_ops.specs.Operation.{meaning_of}
use Rattle.auth_store_parts.specs.Places.{after_place}
use Rattle.auth_store_parts.specs.Ranked.{named}
use Rattle.auth_store_parts.proofs.Named.{ranked, named_first}
use Rattle.auth_store_parts.proofs.history.ranked.RankedPlaces.follow.Goals as goal

pub put-requires : goal.put-requires
put-requires g c =
    let meaning = meaning_of g.K.Write.encoding g.V.Write.encoding in
    let key = g.K.Write.encoding c.in-Delete.field-0 in (
      key,
      named_first c.args.self.now.names c.args.location (meaning c.args.operation.now) [] key c.requires
          (ap (λ operation. named (meaning operation)) c.in-Delete.is),
    )

pub put-requires-in-Update : goal.put-requires-in-Update
put-requires-in-Update g c =
    let meaning = meaning_of g.K.Write.encoding g.V.Write.encoding in
    let key = g.K.Write.encoding c.in-Update.field-0.key in (
      key,
      named_first c.args.self.now.names c.args.location (meaning c.args.operation.now) [] key c.requires
          (ap (λ operation. named (meaning operation)) c.in-Update.is),
    )

pub returns-in-Delete : goal.returns-in-Delete
returns-in-Delete g c =
    let meaning = meaning_of g.K.Write.encoding g.V.Write.encoding in
    let key = g.K.Write.encoding c.in-Delete.field-0 in
    let self = c.args.self.now in
    c.put.ensures key
    (named_first self.names c.args.location (meaning c.args.operation.now) [] key c.requires
    (ap (λ operation. named (meaning operation)) c.in-Delete.is))
    ∙ ap (λ operation. ranked self.names (after_place c.args.location (meaning operation) self.places))
    (sym c.in-Delete.is)

pub returns-in-Update : goal.returns-in-Update
returns-in-Update g c =
    let meaning = meaning_of g.K.Write.encoding g.V.Write.encoding in
    let key = g.K.Write.encoding c.in-Update.field-0.key in
    let self = c.args.self.now in
    c.put-in-Update.ensures key
    (named_first self.names c.args.location (meaning c.args.operation.now) [] key c.requires
    (ap (λ operation. named (meaning operation)) c.in-Update.is))
    ∙ ap (λ operation. ranked self.names (after_place c.args.location (meaning operation) self.places))
    (sym c.in-Update.is)
