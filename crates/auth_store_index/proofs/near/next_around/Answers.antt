use Rattle.std.proofs.Common.{[], ◌∷◌, ◌++◌, ◌∙◌}
use Rattle.auth_store_parts.specs.Map.{Map, above, state_of}
use Rattle.auth_store_index.specs.Near.{below, staying}
use Rattle.auth_store_index.specs.Laws.NearCode.{first_here, first_there}
use Rattle.auth_store_index.proofs.near.next_around.Goals as goal

pub returns-in-Some : goal.returns-in-Some
returns-in-Some g c value =
    let key = g.K.Write.encoding in
    let old : Map = state_of key value c.args.index.now.entries in
    let gone : Map = state_of key value c.args.gone.now.entries in
    first_here (key c.in-Some.next.now) (staying gone (above old (key c.args.key.now)))
    (staying gone (below old (key c.args.least.now)) ++ (key c.args.least.now, []) ∷ []) (c.in-Some.ensures value)

pub returns-in-Some-staying_below : goal.returns-in-Some-staying_below
returns-in-Some-staying_below g c value =
    let key = g.K.Write.encoding in
    let old : Map = state_of key value c.args.index.now.entries in
    let gone : Map = state_of key value c.args.gone.now.entries in
    first_here (key c.in-Some-staying_below.next.now) (staying gone (below old (key c.args.least.now)))
    ((key c.args.least.now, []) ∷ []) (c.in-Some-staying_below.ensures value)
    ∙ first_there (staying gone (above old (key c.args.key.now)))
    (staying gone (below old (key c.args.least.now)) ++ (key c.args.least.now, []) ∷ []) (c.in-None.ensures value)

pub returns-in-None-staying_below : goal.returns-in-None-staying_below
returns-in-None-staying_below g c value =
    let key = g.K.Write.encoding in
    let old : Map = state_of key value c.args.index.now.entries in
    let gone : Map = state_of key value c.args.gone.now.entries in
    first_there (staying gone (below old (key c.args.least.now))) ((key c.args.least.now, []) ∷ [])
    (c.in-None-staying_below.ensures value)
    ∙ first_there (staying gone (above old (key c.args.key.now)))
    (staying gone (below old (key c.args.least.now)) ++ (key c.args.least.now, []) ∷ []) (c.in-None.ensures value)
