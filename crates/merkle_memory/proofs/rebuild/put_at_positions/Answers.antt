use Rattle.std.proofs.Common.{◌++◌, take, drop, sym, ◌∙◌, ap, arith, add-one}
use Rattle.merkle_core_parts.specs.Mem.{encoded, replaced_at}
use Rattle.merkle_core_parts.specs.Laws.Encoded.{put-next}
use Rattle.merkle_memory.proofs.rebuild.put_at_positions.Goals as goal

pub loop-place-preserved : goal.loop-place-preserved
loop-place-preserved g c =
    let encoding = g.D.Write.encoding in
    let place = c.loop-place.place in
    let old = encoded encoding c.args.digests.now in
    let us = encoded encoding c.args.changes.now in
    let u = c.index-digests-place.result in
    put-next encoding c.loop-place.digests old us place u.0 u.1 c.last_digest.result u
    (omega (arith, c.loop-place-test.true)) c.index-digests-place.is c.loop-place.invariant c.last_digest.ensures
    ∙ ap (λ i. replaced_at (take i old) us ++ drop i old) (sym (add-one place))
