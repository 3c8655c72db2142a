use Rattle.std.proofs.Common.{◌+◌, ◌-◌, ◌++◌, ap, ◌∙◌, arith}
use Rattle.std.specs.List.{range_with_len}
use Rattle.state_proofs.proofs.RequestLemmas.{places_go_on, places_end}
use Rattle.state_proofs.proofs.proof.request.places_between.Goals as goal

pub loop-place-preserved : goal.loop-place-preserved
loop-place-preserved c =
    ap (λ places. places ++ range_with_len (c.loop-place.place + 1) (c.args.stop - (c.loop-place.place + 1))) c.in_ok-push.ensures.items
    ∙ places_go_on c.loop-place.places.items c.loop-place.place c.args.stop (range_with_len c.args.start (c.args.stop - c.args.start))
    (omega (arith, c.loop-place-test.true)) c.loop-place.invariant

pub returns : goal.returns
returns c = places_end c.loop-place.places.items c.loop-place.place c.args.stop (range_with_len c.args.start (c.args.stop - c.args.start))
    (omega (arith, c.loop-place-test.false)) c.loop-place.invariant
