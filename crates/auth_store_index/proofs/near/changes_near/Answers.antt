use Rattle.std.proofs.Common.{◌≡◌, [], ◌∷◌, ◌∙◌, ap, subst, sym, arith, length}
use Rattle.auth_store_parts.specs.Map.{Map, state_of}
use Rattle.auth_store_parts.specs.Batch as words
use Rattle.auth_store_parts.specs.Batch.{map_after}
use Rattle.auth_store_parts.specs.History as spec
use Rattle.auth_store_parts.specs.Laws.Logs.{IsState-replayed}
use Rattle.auth_store_index.specs.Readings.{state_read}
use Rattle.auth_store_index.specs.Sources.{AreOwn, source_value, value_there}
use Rattle.auth_store_index.specs.Laws.Readings.{read-places_of}
use Rattle.auth_store_index.specs.Laws.Sourced.{state_of-read}
use Rattle.auth_store_index.specs.Laws.NearCode.{near_joined}
use Rattle.auth_store_index.proofs.near.changes_near.Goals as goal

pub returns-clause-what : goal.returns-clause-what
returns-clause-what g c =
    let key = g.K.Write.encoding in
    let value = g.V.Write.encoding in
    let log = g.L.LoggedValues.log c.args.log.now in
    let source = source_value value log in
    let old : Map = state_of key (value_there log) c.locations-index.result.now.entries in
    let puts : Map = state_of key source c.in_ok-near.near.entries in
    let gone : Map = state_of key (value_there log) c.in_ok-gone.gone.entries in
    let near : Map = state_of key source c.add_all_before.new.near.entries in
    let said = words.meanings key value c.args.batch.now.words.items in
    let state : old ≡ spec.replayed [] log =
    state_of-read key log c.locations-index.result.now.entries
    ∙ (ap (state_read log) (c.locations-index.ensures ∙ c.requires.places) ∙ read-places_of log) in
    let is_puts : puts ≡ map_after said [] =
    c.in_ok-near.ensures.after log ∙ ap (λ es. map_after said (state_of key source es)) c.new.ensures.empty in
    near_joined said old puts gone near (spec.replayed [] log) (spec.meanings key value c.new-out.result.items)
    (spec.meanings key value c.push_gone.new.out.items) (spec.meanings key value c.push_near.new.out.items)
    (subst spec.IsState (sym state) (IsState-replayed [] log tt)) state is_puts
    (c.in_ok-gone.ensures log) (c.in_ok-add_all_before.ensures.near log) (ap (spec.meanings key value) c.new-out.ensures.items)
    (c.in_ok-push_gone.ensures (value_there log)) c.in_ok-push_near.ensures.what

pub push_near-requires-clause-places : goal.push_near-requires-clause-places
push_near-requires-clause-places g c = c.locations-index.ensures ∙ c.requires.places

pub push_near-requires-clause-own : goal.push_near-requires-clause-own
push_near-requires-clause-own g c =
    let key = g.K.Write.encoding in
    let known : Map = state_of key (λ place. place ∷ []) c.locations-index.result.now.entries in
    subst (λ places. AreOwn key places c.add_all_before.new.near.entries) (c.locations-index.ensures ∙ c.requires.places)
    (c.in_ok-add_all_before.ensures.own
    (c.in_ok-near.ensures.own known (subst (AreOwn key known) (sym c.new.ensures.empty) tt)))

pub returns-in_err-push_near-clause-few : goal.returns-in_err-push_near-clause-few
returns-in_err-push_near-clause-few g c =
    let none = ap length c.new.ensures.empty in
    omega (arith, none, c.in_ok-near.ensures.few, c.in_ok-add_all_before.ensures.few, c.push_near.ensures.few)

pub returns-clause-few : goal.returns-clause-few
returns-clause-few g c =
    let none = ap length c.new.ensures.empty in
    omega (arith, none, c.in_ok-near.ensures.few, c.in_ok-add_all_before.ensures.few, c.push_near.ensures.few)
