use Rattle.std.proofs.Common.{◌∙◌, refl}
use Rattle.auth_store_parts.proofs.Fronts.{fronts_alike, fronts_decide}
use Rattle.auth_store_parts.proofs.history.fronts.compare.Goals as goal

pub returns-then-front-other_front : goal.returns-then-front-other_front
returns-then-front-other_front g c =
    let encoding = g.K.Write.encoding in
    c.cmp-then-front-other_front.ensures
    ∙ fronts_decide (encoding c.args.key.now) (encoding c.args.other.now) c.in-Some-Some.front c.in-Some-Some.other_front
    c.in-Some-Some.ensures c.in-Some-Some.ensures' c.if-front-other_front.true

pub returns-then-is_front-2 : goal.returns-then-is_front-2
returns-then-is_front-2 g c =
    let encoding = g.K.Write.encoding in
    fronts_alike (encoding c.args.key.now) (encoding c.args.other.now) c.in-Some-Some.front c.in-Some-Some.other_front
    c.in-Some-Some.ensures c.in-Some-Some.ensures' c.if-front-other_front.false (c.if-is_front.ensures.0 refl)
    (c.if-is_front-2.ensures.0 refl)

pub returns : goal.returns
returns g c = c.cmp-2.ensures ∙ g.met.K.FixedKey.in_order c.args.key.now c.args.other.now
