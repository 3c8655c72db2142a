use Rattle.auth_store_index.specs.Laws.Walks.{set_more, set_empty, set_whole}
use Rattle.auth_store_index.proofs.floor.set_of.Goals as goal

pub loop-place-init : goal.loop-place-init
loop-place-init c at = set_empty c.new-set.result.keys c.args.places.now at c.new-set.ensures.empty

pub loop-place-preserved : goal.loop-place-preserved
loop-place-preserved c at =
    set_more c.loop-place.set.keys c.insert.new.self.keys c.args.places.now c.loop-place.place-index at _
    c.loop-place-test.true c.in_ok-insert.ensures.keys (c.loop-place.invariant at)

pub returns : goal.returns
returns c at =
    set_whole c.loop-place.set.keys c.args.places.now c.loop-place.place-index at c.loop-place-test.false
    (c.loop-place.invariant at)
