use Rattle.std.proofs.Common.{rules, ◌≡◌, [], ◌++◌, map, ap, sym, ◌∙◌}
use Rattle.auth_store_device.specs.Openings.{plain}
use Rattle.auth_store_device.specs.OpeningsCode.{changes_in}
use Rattle.auth_store_device.specs.RecordsCode.{changes_of}
use Rattle.auth_store_device.proofs.Replays.{changes-first}
use Rattle.auth_store_device.proofs.openings.MutationsIterator.next.Goals as goal

pub returns-in-Wrote-clause-steps : goal.returns-in-Wrote-clause-steps
returns-in-Wrote-clause-steps c =
    let later = c.behind-self-inside.result in
    let first =
    changes-first c.loop-self.self-inside.calls later c.entry-call.result (search rules) c.entry-call.ensures c.behind-self-inside.ensures in
    sym c.self.view_is ∙ ap (map plain) (sym c.loop-self.invariant ∙ first) ∙ ap (λ e. map plain (changes_of e ++ changes_in later)) c.in-Wrote.is

pub returns-in-Wrote-clause-goes : goal.returns-in-Wrote-clause-goes
returns-in-Wrote-clause-goes c = let steps = returns-in-Wrote-clause-steps c in search (rules, steps)

pub returns-in-ResizedTo-clause-steps : goal.returns-in-ResizedTo-clause-steps
returns-in-ResizedTo-clause-steps c =
    let later = c.behind-self-inside.result in
    let first =
    changes-first c.loop-self.self-inside.calls later c.entry-call.result (search rules) c.entry-call.ensures c.behind-self-inside.ensures in
    sym c.self.view_is ∙ ap (map plain) (sym c.loop-self.invariant ∙ first) ∙ ap (λ e. map plain (changes_of e ++ changes_in later)) c.in-ResizedTo.is

pub returns-in-ResizedTo-clause-goes : goal.returns-in-ResizedTo-clause-goes
returns-in-ResizedTo-clause-goes c = let steps = returns-in-ResizedTo-clause-steps c in search (rules, steps)

pub loop-self-preserved : goal.loop-self-preserved
loop-self-preserved c =
    let later = c.behind-self-inside.result in
    let first =
    changes-first c.loop-self.self-inside.calls later c.entry-call.result (search rules) c.entry-call.ensures c.behind-self-inside.ensures in
    let none : changes_of c.entry-call.result ≡ [] = search rules in
    sym (first ∙ ap (λ l. l ++ changes_in later) none) ∙ c.loop-self.invariant
