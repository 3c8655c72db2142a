use Rattle.std.proofs.Common.{[], ◌∷◌}
use Rattle.auth_store_parts.specs.Map.{Map, state_of}
use Rattle.auth_store_index.specs.Near.{between, staying}
use Rattle.auth_store_index.specs.Laws.NearCode.{first_here, first_there}
use Rattle.auth_store_index.proofs.near.next_before.Goals as goal

pub returns-in-Some : goal.returns-in-Some
returns-in-Some g c value =
    let key = g.K.Write.encoding in
    let old : Map = state_of key value c.args.index.now.entries in
    let gone : Map = state_of key value c.args.gone.now.entries in
    first_here (key c.in-Some.next.now) (staying gone (between old (key c.args.key.now) (key c.args.end.now)))
    ((key c.args.end.now, []) ∷ []) (c.in-Some.ensures value)

pub returns-in-None : goal.returns-in-None
returns-in-None g c value =
    let key = g.K.Write.encoding in
    let old : Map = state_of key value c.args.index.now.entries in
    let gone : Map = state_of key value c.args.gone.now.entries in
    first_there (staying gone (between old (key c.args.key.now) (key c.args.end.now)))
    ((key c.args.end.now, []) ∷ []) (c.in-None.ensures value)
