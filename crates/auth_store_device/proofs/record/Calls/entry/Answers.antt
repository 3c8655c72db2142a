use Rattle.std.proofs.Common.{rules, ◌-◌, ◌<◌, List, drop, get_or, ap, sym, ◌∙◌}
use Rattle.std.proofs.lemmas.List.{get_or-drop, get_or-take}
use Rattle.paged_blob_parts.specs.Calls.{Call}
use Rattle.auth_store_device.proofs.record.Calls.entry.Goals as goal

pub returns : goal.returns
returns c = λ d.
    let at = c.self.inside in
    let all = at.record_kept.now.in_order in
    let read = c.entry.ensures.call d in
    let below : c.args.place < at.to - at.from = search rules in (
      read.0,
      read.1 ∙ sym (
          ap (λ (l : List Call). get_or l c.args.place d) (sym c.self.view_is) ∙ get_or-take (at.to - at.from) (drop at.from all) c.args.place d below
          ∙ get_or-drop at.from all c.args.place d
          ),
    )
