use Rattle.std.proofs.Common.{◌≡◌, refl, ◌∙◌, ◌++◌, ◌∷◌, [], List, ℕ, ap, sym, subst, append_assoc, arith, length}
use Rattle.std.proofs.lemmas.Result.{on_ok_weaker}
use Rattle.auth_store_parts.specs.Map.{Map, key_order, state_of, first_key}
use Rattle.auth_store_parts.specs.Places.{places_of}
use Rattle.auth_store_parts.specs.History as spec
use Rattle.auth_store_parts.specs.Laws.Neighbours.{state_sorted}
use Rattle.auth_store_index.specs.Sources.{IsOwn, AreOwn, source_value, value_there}
use Rattle.auth_store_index.specs.Laws.Refused.{refused_further, refused_more}
use Rattle.auth_store_index.specs.Laws.NearCode.{neighbours, less_of, near_updated, last_updated}
use Rattle.auth_store_index.proofs.near.push_near.Goals as goal

abbrev Entry : Type 0
Entry = List ℕ × List ℕ

pub loop-end-init : goal.loop-end-init
loop-end-init g c =
    let key = g.K.Write.encoding in
    let says = g.V.Write.encoding in
    let log = g.L.LoggedValues.log c.args.log.now in
    let value = source_value says log in
    let old : Map = state_of key (value_there log) c.args.index.now.entries in
    let near : Map = state_of key value c.args.near.now.entries in
    let whole = ap (λ l. (c.in-Some.first.now, c.in-Some.source.now) ∷ l) c.into_iter-end-iterator.ensures.into_iter_gives
    ∙ (sym c.in-Some.ensures.steps ∙ c.iter-entries.ensures.rest) in
    let many = ap length whole in
    let left : (key c.in-Some.first.now, value c.in-Some.source.now) ∷ state_of key value c.into_iter-end-iterator.result ≡ near =
    ap (λ l. (key c.in-Some.first.now, value c.in-Some.source.now) ∷ state_of key value l) c.into_iter-end-iterator.ensures.into_iter_gives
    ∙ (ap (state_of key value) (sym c.in-Some.ensures.steps) ∙ ap (state_of key value) c.iter-entries.ensures.rest) in (
      [],
      left,
      state_sorted key value g.K.Ord.cmp g.met.K.FixedKey.in_order c.args.near.now.entries c.iter-entries.ensures.ordered,
      ap first_key left,
      (λ new told. ap (λ l. spec.meanings key says c.args.out.now.items ++ spec.updates l old new) left),
      refl,
      subst (AreOwn key (places_of log)) (sym whole) c.requires.own,
      omega (arith, many),
      g.L.LoggedValues.none_leads c.args.log.now,
    )

pub next_before-next-requires : goal.next_before-next-requires
next_before-next-requires g c =
    let key = g.K.Write.encoding in
    let value = source_value g.V.Write.encoding (g.L.LoggedValues.log c.args.log.now) in
    let here = c.loop-end.invariant in
    let e : Entry = (key c.loop-end.key.now, value c.loop-end.source.now) in
    let f : Entry = (key c.in-Some-2.end.now, value c.in-Some-2.later.now) in
    let rest : Map = state_of key value c.next-in-loop-end.new.self in
    let near : Map = state_of key value c.args.near.now.entries in
    let is : here.0 ++ e ∷ f ∷ rest ≡ near =
    ap (λ l. here.0 ++ e ∷ l) (sym (ap (state_of key value) c.in-Some-2.ensures.steps)) ∙ here.1 in
    less_of (g.K.Ord.cmp c.loop-end.key.now c.in-Some-2.end.now) (key_order (key c.loop-end.key.now) (key c.in-Some-2.end.now))
    (g.met.K.FixedKey.in_order c.loop-end.key.now c.in-Some-2.end.now) (neighbours here.0 e f rest near is here.2)

pub push_update-requires-clause-may : goal.push_update-requires-clause-may
push_update-requires-clause-may g c =
    g.L.LoggedValues.stays_readable c.args.log.now c.loop-end.log c.loop-end.invariant.8 c.requires.may

pub push_update-requires-2-clause-may : goal.push_update-requires-2-clause-may
push_update-requires-2-clause-may g c =
    g.L.LoggedValues.stays_readable c.args.log.now c.loop-end.log c.loop-end.invariant.8 c.requires.may

pub push_update-requires-clause-places : goal.push_update-requires-clause-places
push_update-requires-clause-places g c = c.requires.places ∙ ap places_of (sym c.loop-end.invariant.5)

pub push_update-requires-clause-own : goal.push_update-requires-clause-own
push_update-requires-clause-own g c =
    subst (λ log. IsOwn (places_of log) (g.K.Write.encoding c.loop-end.key.now) c.loop-end.source.now)
    (sym c.loop-end.invariant.5) c.loop-end.invariant.6.0

pub push_update-requires-2-clause-places : goal.push_update-requires-2-clause-places
push_update-requires-2-clause-places g c = c.requires.places ∙ ap places_of (sym c.loop-end.invariant.5)

pub push_update-requires-2-clause-own : goal.push_update-requires-2-clause-own
push_update-requires-2-clause-own g c =
    subst (λ log. IsOwn (places_of log) (g.K.Write.encoding c.loop-end.key.now) c.loop-end.source.now)
    (sym c.loop-end.invariant.5) c.loop-end.invariant.6.0

pub loop-end-preserved : goal.loop-end-preserved
loop-end-preserved g c =
    let key = g.K.Write.encoding in
    let says = g.V.Write.encoding in
    let log = g.L.LoggedValues.log c.args.log.now in
    let value = source_value says log in
    let old : Map = state_of key (value_there log) c.args.index.now.entries in
    let gone : Map = state_of key (value_there log) c.args.gone.now.entries in
    let near : Map = state_of key value c.args.near.now.entries in
    let here = c.loop-end.invariant in
    let e : Entry = (key c.loop-end.key.now, value c.loop-end.source.now) in
    let f : Entry = (key c.in-Some-2.end.now, value c.in-Some-2.later.now) in
    let next : List ℕ = key c.next_before-next.result.now in
    let many = ap length c.in-Some-2.ensures.steps in
    let rest : Map = state_of key value c.next-in-loop-end.new.self in
    let behind : state_of key value c.loop-end.end-iterator ≡ f ∷ rest = ap (state_of key value) c.in-Some-2.ensures.steps in
    let is : here.0 ++ e ∷ f ∷ rest ≡ near = ap (λ l. here.0 ++ e ∷ l) (sym behind) ∙ here.1 in
    let does : spec.meanings key says c.push_update.new.out.items ≡ spec.meanings key says c.loop-end.out.items
    ++ spec.update_to old e.0 e.1 next =
    c.in_ok-push_update.ensures.what ∙ ap (λ l. spec.meanings key says c.loop-end.out.items
    ++ spec.update_to (state_of key (value_there l) c.args.index.now.entries) e.0 (source_value says l c.loop-end.source.now) next) here.5 in (
      here.0 ++ e ∷ [],
      append_assoc here.0 (e ∷ []) (f ∷ rest) ∙ is,
      here.2,
      here.3,
      (λ new told. near_updated old gone near new here.0 e f rest (spec.meanings key says c.loop-end.out.items)
          (spec.meanings key says c.push_update.new.out.items)
          (spec.meanings key says c.args.out.now.items ++ spec.updates near old new) next told is
          (c.next_before-next.ensures (value_there log)) does
          (ap (λ l. spec.meanings key says c.loop-end.out.items ++ spec.updates (e ∷ l) old new) (sym behind) ∙ here.4 new told)),
      c.in_ok-push_update.ensures.same ∙ here.5,
      subst (AreOwn key (places_of log)) c.in-Some-2.ensures.steps here.6.1,
      omega (arith, many, here.7, c.in_ok-push_update.ensures.few),
      g.L.LoggedValues.more_leads c.args.log.now c.loop-end.log c.push_update.new.log here.8
          c.in_ok-push_update.ensures.leads,
    )

pub returns-clause-what : goal.returns-clause-what
returns-clause-what g c new told =
    let key = g.K.Write.encoding in
    let says = g.V.Write.encoding in
    let log = g.L.LoggedValues.log c.args.log.now in
    let value = source_value says log in
    let old : Map = state_of key (value_there log) c.args.index.now.entries in
    let gone : Map = state_of key (value_there log) c.args.gone.now.entries in
    let near : Map = state_of key value c.args.near.now.entries in
    let here = c.loop-end.invariant in
    let e : Entry = (key c.loop-end.key.now, value c.loop-end.source.now) in
    let next : List ℕ = key c.next_around-next.result.now in
    let none : state_of key value c.loop-end.end-iterator ≡ [] = ap (state_of key value) c.in-None.ensures.steps.0 in
    on_ok_weaker c.push_update-2.result
    (λ made. let does : spec.meanings key says c.push_update-2.new.out.items ≡ spec.meanings key says c.loop-end.out.items
    ++ spec.update_to old e.0 e.1 next =
    made ∙ ap (λ l. spec.meanings key says c.loop-end.out.items
    ++ spec.update_to (state_of key (value_there l) c.args.index.now.entries) e.0 (source_value says l c.loop-end.source.now) next) here.5 in
    last_updated old gone near new here.0 e (spec.meanings key says c.loop-end.out.items)
    (spec.meanings key says c.push_update-2.new.out.items)
    (spec.meanings key says c.args.out.now.items ++ spec.updates near old new) next (key c.in-Some.first.now) told
    (ap (λ l. here.0 ++ e ∷ l) (sym none) ∙ here.1) here.3 (c.next_around-next.ensures (value_there log)) does
    (ap (λ l. spec.meanings key says c.loop-end.out.items ++ spec.updates (e ∷ l) old new) (sym none) ∙ here.4 new told))
    c.push_update-2.ensures.what

pub returns-in_err-push_update-clause-few : goal.returns-in_err-push_update-clause-few
returns-in_err-push_update-clause-few g c = omega (arith, c.loop-end.invariant.7, c.push_update.ensures.few)

pub returns-clause-few : goal.returns-clause-few
returns-clause-few g c = omega (arith, c.loop-end.invariant.7, c.push_update-2.ensures.few)

pub returns-clause-leads : goal.returns-clause-leads
returns-clause-leads g c =
    on_ok_weaker c.push_update-2.result (λ made. g.L.LoggedValues.more_leads c.args.log.now c.loop-end.log c.push_update-2.new.log
    c.loop-end.invariant.8 made) c.push_update-2.ensures.leads

pub returns-clause-refused : goal.returns-clause-refused
returns-clause-refused g c = refused_more g.L.LoggedValues.leads g.L.LoggedValues.refuses g.L.LoggedValues.more_leads
    g.L.LoggedValues.more_refuses c.args.log.now c.loop-end.log c.push_update-2.new.log c.push_update-2.result
    c.loop-end.invariant.8 c.push_update-2.ensures.refused

pub returns-in_err-push_update-clause-refused : goal.returns-in_err-push_update-clause-refused
returns-in_err-push_update-clause-refused g c =
    refused_further g.L.LoggedValues.leads g.L.LoggedValues.refuses g.L.LoggedValues.more_leads
    g.L.LoggedValues.more_refuses c.args.log.now c.loop-end.log c.push_update.new.log c.from_residual.result
    c.in_err-push_update.field-0.0 c.from_residual.ensures.1 c.loop-end.invariant.8 c.in_err-push_update.ensures.refused
