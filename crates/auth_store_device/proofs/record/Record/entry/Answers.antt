use Rattle.std.proofs.Common.{arith, ◌≡◌, ℕ, ◌<◌, List, [], length, get_or, reverse, take, ap, sym, ◌∙◌, subst}
use Rattle.std.proofs.lemmas.List.{append-nil}
use Rattle.auth_store_device.specs.declared.kept.Kept.{Kept}
use Rattle.auth_store_device.specs.BlocksCode.{Held}
use Rattle.auth_store_device.specs.Records.{Recording}
use Rattle.auth_store_device.specs.RecordsCode.{calls_in, call_in, HasItsBytes, KnowsBase, HasBase}
use Rattle.auth_store_device.proofs.KeptCalls.{call-at, length-in, within-at}
use Rattle.auth_store_device.proofs.record.Record.entry.Goals as goal

-- the place is one of those that are kept
place-below : (held : Held) (calls : List Kept) (now : Recording) (place : ℕ) → calls_in held [] calls ≡ now.in_order
    → place < length now.in_order → place < length calls
place-below held calls now place is below =
    let many : length (calls_in held [] calls) ≡ length calls = length-in held [] calls in
    omega (arith, below, many, ap length is)

pub get-requires : goal.get-requires
get-requires c =
    let at = c.self.inside in
    place-below at.blocks at.calls.items c.args.self.now c.args.place (ap (λ (r : Recording). r.in_order) c.self.view_is) c.requires

pub entry_of-requires : goal.entry_of-requires
entry_of-requires c =
    let at = c.self.inside in
    let below = place-below at.blocks at.calls.items c.args.self.now c.args.place (ap (λ (r : Recording). r.in_order) c.self.view_is) c.requires in
    let here = within-at at.blocks [] at.calls.items c.args.place c.get.result below c.self.invariant.0 in
    subst (HasItsBytes at.blocks) (sym (c.get.ensures c.get.result)) here.0

pub returns-clause-call : goal.returns-clause-call
returns-clause-call c = λ d.
    let at = c.self.inside in
    let all = calls_in at.blocks [] at.calls.items in
    let below = place-below at.blocks at.calls.items c.args.self.now c.args.place (ap (λ (r : Recording). r.in_order) c.self.view_is) c.requires in
    let past = reverse (take c.args.place all) in
    let read = c.entry_of.ensures.call past in (
      read.0,
      read.1 ∙ ap (call_in at.blocks past) (c.get.ensures c.get.result)
          ∙ ap (λ p. call_in at.blocks p (get_or at.calls.items c.args.place c.get.result)) (sym (append-nil past))
          ∙ sym (call-at at.blocks [] at.calls.items c.args.place c.get.result d below)
          ∙ ap (λ (r : Recording). get_or r.in_order c.args.place d) c.self.view_is,
    )

pub returns-clause-base : goal.returns-clause-base
returns-clause-base c =
    let at = c.self.inside in
    let past = reverse (take c.args.place (calls_in at.blocks [] at.calls.items)) in
    let below = place-below at.blocks at.calls.items c.args.self.now c.args.place (ap (λ (r : Recording). r.in_order) c.self.view_is) c.requires in
    let here = within-at at.blocks [] at.calls.items c.args.place c.get.result below c.self.invariant.0 in
    let knows : KnowsBase at.blocks past (get_or at.calls.items c.args.place c.get.result) =
    subst (λ p. KnowsBase at.blocks p (get_or at.calls.items c.args.place c.get.result)) (append-nil past) here.1 in
    subst (λ (r : Recording). HasBase (reverse (take c.args.place r.in_order)) c.entry_of.result) c.self.view_is
    (c.entry_of.ensures.base past (subst (KnowsBase at.blocks past) (sym (c.get.ensures c.get.result)) knows))
