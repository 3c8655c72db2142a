use Rattle.std.proofs.Common.{refl}
use Rattle.auth_store_parts.specs.Map.{Map, state_of, value_at}
use Rattle.auth_store_parts.specs.Laws.Entries.{state_of-insert_copies, value_at-state_of}
use Rattle.auth_store_index.specs.Sources.{source_value, value_there}
use Rattle.auth_store_index.specs.Laws.Sourced.{none_there, some_there}
use Rattle.auth_store_index.specs.Laws.NearCode.{gone_none, gone_some}
use Rattle.auth_store_index.proofs.near.add_gone.Goals as goal

pub returns-in-None : goal.returns-in-None
returns-in-None g c log =
    let key = g.K.Write.encoding in
    let old : Map = state_of key (value_there log) c.args.index.now.entries in
    let puts : Map = state_of key (source_value g.V.Write.encoding log) c.args.puts.now.entries in
    gone_none old puts (state_of key (value_there log) c.args.gone.now.entries) (key c.args.key.now)
    (c.if-is_there.ensures (source_value g.V.Write.encoding log))
    (none_there (value_there log) _ (value_at old (key c.args.key.now)) c.in-None.ensures.value
    (value_at-state_of key (value_there log) g.K.Ord.cmp g.met.K.FixedKey.in_order c.args.index.now.entries c.args.key.now))

pub returns-in_ok-insert-in-Some : goal.returns-in_ok-insert-in-Some
returns-in_ok-insert-in-Some g c log =
    let key = g.K.Write.encoding in
    let old : Map = state_of key (value_there log) c.args.index.now.entries in
    let puts : Map = state_of key (source_value g.V.Write.encoding log) c.args.puts.now.entries in
    let gone : Map = state_of key (value_there log) c.args.gone.now.entries in
    gone_some old puts gone (state_of key (value_there log) c.insert.new.self.entries) (key c.args.key.now)
    (value_there log c.in-Some.place.now) (c.if-is_there.ensures (source_value g.V.Write.encoding log))
    (some_there (value_there log) c.in-Some.place.now _ (value_at old (key c.args.key.now)) c.in-Some.ensures.value
    (value_at-state_of key (value_there log) g.K.Ord.cmp g.met.K.FixedKey.in_order c.args.index.now.entries c.args.key.now))
    (state_of-insert_copies key (value_there log) g.K.Ord.cmp g.met.K.FixedKey.in_order c.args.gone.now.entries _
    c.args.key.now c.in_ok-key-in-Some.key c.in-Some.place.now c.in-Some.place.now
    (g.met.K.Faithful.copied c.args.key.now c.in_ok-key-in-Some.key c.in_ok-key-in-Some.ensures.cases)
    refl c.in_ok-insert-in-Some.ensures.entries)
