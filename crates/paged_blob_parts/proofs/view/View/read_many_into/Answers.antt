use Rattle.std.proofs.Common.{sym, ◌∙◌, ap}
use Rattle.paged_blob_parts.specs.Served.{total}
use Rattle.paged_blob_parts.proofs.ServedLaws.{total_items}
use Rattle.paged_blob_parts.proofs.view.View.read_many_into.Goals as goal

pub read_ranges_into-requires-clause-room : goal.read_ranges_into-requires-clause-room
read_ranges_into-requires-clause-room g c =
    c.requires.room ∙ sym (total_items c.args.item_size c.args.offsets.now) ∙ ap total (sym (c.deref.ensures.value ∙ c.in_ok-ranges.ensures))
