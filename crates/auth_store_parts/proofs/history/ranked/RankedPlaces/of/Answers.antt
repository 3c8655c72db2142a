use Rattle.std.proofs.Common.{◌∙◌, map}
use Rattle.std.proofs.lemmas.List.{length-map}
use Rattle.auth_store_parts.specs.History as spec
use Rattle.auth_store_parts.specs.Ranked.{named, names_at}
use Rattle.auth_store_parts.proofs.Ranks.{places_at-unset}
use Rattle.auth_store_parts.proofs.Named.{sorted_named, named_sorted}
use Rattle.state_ops.specs.Operation.{meaning_of}
use Rattle.auth_store_parts.proofs.history.ranked.RankedPlaces.of.Goals as goal

pub rank_keys-requires-clause-named : goal.rank_keys-requires-clause-named
rank_keys-requires-clause-named g c =
    let key = g.K.Write.encoding in
    let operations = spec.meanings key g.V.Write.encoding c.args.operations.now in (
      map named operations,
      length-map operations named ∙ length-map c.args.operations.now (meaning_of key g.V.Write.encoding),
      sorted_named key operations c.in_ok-located_keys.field-0.items c.in_ok-sorted.sorted.items
          c.in_ok-located_keys.ensures c.in_ok-sorted.ensures.same,
    )

pub returns-clause-named : goal.returns-clause-named
returns-clause-named g c =
    let key = g.K.Write.encoding in
    let operations = spec.meanings key g.V.Write.encoding c.args.operations.now in
    named_sorted key operations c.in_ok-located_keys.field-0.items c.in_ok-sorted.sorted.items
    c.in_ok-located_keys.ensures c.in_ok-sorted.ensures.same
    (names_at (map key c.in_ok-keys.keys.items) c.in_ok-keys.ranks.items) c.in_ok-keys.ensures.named

pub returns-clause-none : goal.returns-clause-none
returns-clause-none g c =
    let keys = map g.K.Write.encoding c.in_ok-keys.keys.items in
    places_at-unset _ keys c.in_ok-slots.slots.items c.in_ok-slots.ensures.items (λ n copied. copied)
