use Rattle.std.proofs.Common.{ap, sym, ◌∙◌, ◌&&◌, [], ◌∷◌, arith}
use Rattle.std.specs.Str.{bytes_eq}
use Rattle.auth_store_parts.specs.Map.{Map, state_of, value_at, next_key}
use Rattle.auth_store_parts.specs.History.{is_value}
use Rattle.auth_store_parts.specs.Places.{places_of}
use Rattle.auth_store_parts.specs.Laws.Entries.{value_at-state_of}
use Rattle.auth_store_index.specs.Sources.{source_value, value_there}
use Rattle.auth_store_index.specs.Laws.Readings.{has_update}
use Rattle.auth_store_index.specs.Laws.Sourced.{none_there, some_there, if_has, has_both, own_reads, own_readable}
use Rattle.auth_store_index.proofs.fields.has_fields.Goals as goal

pub returns-in-None-clause-what : goal.returns-in-None-clause-what
returns-in-None-clause-what g c =
    let key = g.K.Write.encoding in
    let log = g.L.LoggedValues.log c.args.log.now in
    let value = source_value g.V.Write.encoding log c.args.source.now in
    let old = state_of key (value_there log) c.args.old.now.entries in
    ap (λ o. is_value o value && bytes_eq (next_key old (key c.args.key.now)) (key c.args.next.now))
    (none_there (value_there log) _ (value_at old (key c.args.key.now)) c.in-None.ensures.value
    (value_at-state_of key (value_there log) g.K.Ord.cmp g.met.K.FixedKey.in_order c.args.old.now.entries c.args.key.now))

pub returns-else-not-is_next-clause-what : goal.returns-else-not-is_next-clause-what
returns-else-not-is_next-clause-what g c =
    let key = g.K.Write.encoding in
    let log = g.L.LoggedValues.log c.args.log.now in
    let value = source_value g.V.Write.encoding log c.args.source.now in
    let old : Map = state_of key (value_there log) c.args.old.now.entries in
    if_has c.has_value.result _ _ c.has_value.ensures.what
    (has_both old (key c.args.key.now) value (key c.args.next.now) (value_there log c.in-Some.place.now)
    (some_there (value_there log) c.in-Some.place.now _ (value_at old (key c.args.key.now)) c.in-Some.ensures.value
    (value_at-state_of key (value_there log) g.K.Ord.cmp g.met.K.FixedKey.in_order c.args.old.now.entries c.args.key.now))
    (c.if-not-is_next.ensures (value_there log)))

pub has_value-requires-clause-stands : goal.has_value-requires-clause-stands
has_value-requires-clause-stands g c =
    let key = g.K.Write.encoding in
    let log = g.L.LoggedValues.log c.args.log.now in
    has_update (key c.args.key.now) log c.in-Some.place.now
    (sym (some_there (λ place. place ∷ []) c.in-Some.place.now _ (value_at (places_of log) (key c.args.key.now))
    c.in-Some.ensures.value
    (value_at-state_of key (λ place. place ∷ []) g.K.Ord.cmp g.met.K.FixedKey.in_order c.args.old.now.entries c.args.key.now
    ∙ ap (λ places. value_at places (key c.args.key.now)) c.requires.places)))

pub has_value-requires-clause-readable : goal.has_value-requires-clause-readable
has_value-requires-clause-readable g c =
    own_readable (g.L.LoggedValues.log c.args.log.now) (g.K.Write.encoding c.args.key.now) c.args.source.now c.requires.own

pub returns-else-not-is_next-clause-few : goal.returns-else-not-is_next-clause-few
returns-else-not-is_next-clause-few g c =
    let key = g.K.Write.encoding in
    let places : Map = places_of (g.L.LoggedValues.log c.args.log.now) in
    let least = own_reads places (key c.args.key.now) c.args.source.now c.in-Some.place.now c.requires.own
    (some_there (λ place. place ∷ []) c.in-Some.place.now _ (value_at places (key c.args.key.now)) c.in-Some.ensures.value
    (value_at-state_of key (λ place. place ∷ []) g.K.Ord.cmp g.met.K.FixedKey.in_order c.args.old.now.entries c.args.key.now
    ∙ ap (λ known. value_at known (key c.args.key.now)) c.requires.places)) in
    omega (arith, c.has_value.ensures.few, least)
