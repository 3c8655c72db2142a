use Rattle.merkle_forest_parts.proofs.VarintWriting.{writes_on, writes_last, extends_on}
use Rattle.merkle_forest_parts.proofs.codec.varint.write_groups.Goals as goal

pub loop-rest-preserved : goal.loop-rest-preserved
loop-rest-preserved c = record {
  whole = writes_on _ _ _ c.loop-rest.rest c.loop-rest-test.true c.in_ok-push.ensures.items c.loop-rest.invariant.whole;
  front = extends_on _ _ _ _ c.loop-rest.invariant.front c.in_ok-push.ensures.items;
}

pub returns-clause-ok : goal.returns-clause-ok
returns-clause-ok c =
    writes_last _ _ _ c.loop-rest.rest c.loop-rest-test.false c.in_ok-push-2.ensures.items c.loop-rest.invariant.whole
