use Rattle.merkle_forest_parts.proofs.Lists.{extends_more, writes_item, value_more}
use Rattle.merkle_forest_parts.proofs.codec.list.write_list.Goals as goal

pub loop-digest-preserved : goal.loop-digest-preserved
loop-digest-preserved g c = record {
  written = writes_item g.D.Write.encoding _ _ c.digest-item.result _ _ _ _ c.loop-digest-test.true c.digest-item.is
      c.loop-digest.invariant.written c.in_ok-write.ensures.ok;
  front = extends_more _ _ _ c.loop-digest.invariant.front (_, c.in_ok-write.ensures.ok);
  values = value_more g.D.Write.is_value _ _ c.digest-item.result c.loop-digest-test.true c.digest-item.is
      c.loop-digest.invariant.values c.in_ok-write.ensures.value;
}
