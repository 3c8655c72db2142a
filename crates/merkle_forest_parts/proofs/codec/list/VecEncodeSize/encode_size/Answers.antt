use Rattle.merkle_forest_parts.proofs.Lists.{size_fits}
use Rattle.merkle_forest_parts.proofs.codec.list.VecEncodeSize.encode_size.Goals as goal

pub overflow_add-size : goal.overflow_add-size
overflow_add-size g c =
    size_fits g.D.Write.encoding _ _ _ _ c.item-item.result _ c.deref-item-items.ensures.value c.loop-item-test.true
    c.item-item.is c.as_bytes.ensures.bytes c.loop-item.invariant c.requires
