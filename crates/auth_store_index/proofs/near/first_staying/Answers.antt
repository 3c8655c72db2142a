use Rattle.std.proofs.Common.{◌∙◌, ap, sym}
use Rattle.auth_store_parts.specs.Chains.{first_of}
use Rattle.auth_store_parts.specs.Map.{state_of}
use Rattle.auth_store_index.specs.Near.{staying}
use Rattle.auth_store_index.specs.Laws.NearCode.{stays_first, goes_first}
use Rattle.auth_store_index.proofs.near.first_staying.Goals as goal

pub loop-key-init : goal.loop-key-init
loop-key-init g c value =
    ap (λ l. first_of (staying (state_of g.K.Write.encoding value c.args.gone.now.entries) (state_of g.K.Write.encoding value l)))
    c.into_iter-key-iterator.ensures.into_iter_gives

pub returns-then-not-is_there : goal.returns-then-not-is_there
returns-then-not-is_there g c value =
    stays_first g.K.Write.encoding value (state_of g.K.Write.encoding value c.args.gone.now.entries) c.loop-key.key-iterator
    c.next.new.self c.in-Some.key.now c.in-Some.field-0-1.now _ c.in-Some.ensures.steps (c.if-not-is_there.ensures value)
    (c.loop-key.invariant value)

pub loop-key-preserved : goal.loop-key-preserved
loop-key-preserved g c value =
    goes_first g.K.Write.encoding value (state_of g.K.Write.encoding value c.args.gone.now.entries) c.loop-key.key-iterator
    c.next.new.self c.in-Some.key.now c.in-Some.field-0-1.now _ c.in-Some.ensures.steps (c.if-not-is_there.ensures value)
    (c.loop-key.invariant value)

pub returns : goal.returns
returns g c value =
    ap (λ l. first_of (staying (state_of g.K.Write.encoding value c.args.gone.now.entries) (state_of g.K.Write.encoding value l)))
    (sym c.in-None.ensures.steps.0) ∙ c.loop-key.invariant value
