use Rattle.std.proofs.Common.{sym, ◌∙◌, ap}
use Rattle.paged_blob_parts.specs.Served.{total}
use Rattle.paged_blob_parts.proofs.ServedLaws.{total_items}
use Rattle.paged_blob_parts.proofs.view.View.try_read_many_sync_into.Goals as goal

pub try_read_ranges_sync_into-requires : goal.try_read_ranges_sync_into-requires
try_read_ranges_sync_into-requires g c = record {
  room = c.requires.room ∙ sym (total_items c.args.item_size c.args.offsets.now) ∙ ap total (sym (c.deref.ensures.value ∙ c.in_ok-ranges.ensures));
}
