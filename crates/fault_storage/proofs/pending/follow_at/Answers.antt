use Rattle.std.proofs.Common.{◌≡◌, Some, false, find, is_some, set, sym, ap, ◌∙◌}
use Rattle.fault_storage.specs.Pending.{has_name, followed, next_ticket, failure_in}
use Rattle.fault_storage.proofs.pending.follow_at.Goals as goal

pub returns : goal.returns
returns c =
    let items = c.args.standings.now.items in
    let test = has_name c.args.partition.now c.args.name.now in
    let seen = c.index.result.now in
    let shown = c.index_mut.result.now in
    let free : is_some seen.failure ≡ false = cc in
    let found : find test items ≡ Some shown = c.requires.is shown ∙ ap Some (sym c.index_mut.ensures.value) in (
      ap (λ f. is_some (failure_in f)) (c.requires.is seen ∙ ap Some (sym c.index.ensures)) ∙ free,
      λ standing is. let same : shown ≡ standing = cc in
          c.in_ok-follow.ensures.ok.0 ∙ ap (λ n. next_ticket n c.args.number shown) c.in_ok-known.ensures
          ∙ ap (next_ticket (c.args.partition.now, c.args.name.now) c.args.number) same,
      ap (set items c.args.place) c.in_ok-follow.ensures.ok.1
          ∙ sym (c.requires.change (followed c.args.number) shown
          ∙ ap (λ s. set items c.args.place (followed c.args.number s)) (sym c.index_mut.ensures.value)),
    )
