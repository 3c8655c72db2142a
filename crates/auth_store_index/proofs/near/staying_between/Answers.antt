use Rattle.std.proofs.Common.{◌∙◌, ap}
use Rattle.auth_store_parts.specs.Chains.{first_of}
use Rattle.auth_store_parts.specs.Map.{state_of}
use Rattle.auth_store_index.specs.Laws.NearCode.{state_of-between}
use Rattle.auth_store_index.specs.Near.{staying}
use Rattle.auth_store_index.proofs.near.staying_between.Goals as goal

pub returns : goal.returns
returns g c value =
    let key = g.K.Write.encoding in
    c.first_staying.ensures value
    ∙ ap (λ s. first_of (staying (state_of key value c.args.gone.now.entries) s))
    (ap (state_of key value) (c.range-between.ensures.between tt)
    ∙ state_of-between key value g.K.Ord.cmp g.met.K.FixedKey.in_order c.args.index.now.entries c.args.low.now c.args.high.now)
