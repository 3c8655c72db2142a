use Rattle.std.proofs.Common.{rules, arith, ◌≡◌, ◌+◌, ◌<◌, [], ◌++◌, length, take, drop, ap, sym, ◌∙◌}
use Rattle.paged_blob_parts.specs.Calls.{opened}
use Rattle.auth_store_device.specs.OpeningsCode.{opening_in, openings_from}
use Rattle.auth_store_device.specs.RecordsCode.{call_of}
use Rattle.auth_store_device.proofs.Replays.{opening-next, openings-more}
use Rattle.auth_store_device.proofs.openings.OpeningsIterator.next.Goals as goal

pub returns-in-Opened-clause-steps : goal.returns-in-Opened-clause-steps
returns-in-Opened-clause-steps c =
    let all = c.loop-self.self-inside.record_kept.now.in_order in
    let place = c.loop-self.self-inside.place in
    let d = opened [] in
    let at = c.entry.ensures.call d in
    sym c.self.view_is ∙ sym c.loop-self.invariant.1
    ∙ opening-next all c.first.result place c.in-Opened.shown d (search rules) (ap (call_of at.0) (sym c.in-Opened.is) ∙ at.1) c.first.ensures

pub returns-in-Opened-clause-goes : goal.returns-in-Opened-clause-goes
returns-in-Opened-clause-goes c = let steps = returns-in-Opened-clause-steps c in search (rules, steps)

pub loop-self-preserved : goal.loop-self-preserved
loop-self-preserved c =
    let all = c.loop-self.self-inside.record_kept.now.in_order in
    let place = c.loop-self.self-inside.place in
    let d = opened [] in
    let at = c.entry.ensures.call d in
    let below : place < length all = search rules in
    let none : opening_in (take place all) (call_of at.0 c.entry.result) ≡ [] = search rules in
    let later = openings_from (take (place + 1) all) (drop (place + 1) all) in (
      omega (arith, below),
      sym (openings-more all place d below ∙ ap (λ c. opening_in (take place all) c ++ later) (sym at.1) ∙ ap (λ l. l ++ later) none)
          ∙ c.loop-self.invariant.1,
    )
