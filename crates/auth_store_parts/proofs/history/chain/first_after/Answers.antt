use Rattle.std.proofs.Common.{◌∙◌, ap, sym, true, false, option_map}
use Rattle.state_ops.specs.Operation.{meaning_of}
use Rattle.auth_store_parts.specs.Chains.{first_by}
use Rattle.auth_store_parts.proofs.ChainCode.{first_after-last, first_by-update}
use Rattle.auth_store_parts.proofs.history.chain.first_after.Goals as goal

pub returns-then-is_some : goal.returns-then-is_some
returns-then-is_some g c =
    let key = g.K.Write.encoding in
    let meaning = meaning_of key g.V.Write.encoding in
    let first = option_map (λ k. key k.now) c.args.first in
    sym (first_after-last meaning first c.args.batch.now c.in-Some-Update.field-0.now (sym c.in-Some-Update.ensures.value)
    ∙ ap (λ o. first_by first (meaning o)) c.in-Some-Update.field-0-is
    ∙ first_by-update (λ k. key k.now) c.behind.result (key c.in-Some-Update.last.key)
    (g.V.Write.encoding c.in-Some-Update.last.value) (key c.in-Some-Update.last.next_key) first true c.behind.ensures
    (sym c.is_some.ensures ∙ c.if-is_some.true))

pub returns-else-is_some : goal.returns-else-is_some
returns-else-is_some g c =
    let key = g.K.Write.encoding in
    let meaning = meaning_of key g.V.Write.encoding in
    let first = option_map (λ k. key k.now) c.args.first in
    sym (first_after-last meaning first c.args.batch.now c.in-Some-Update.field-0.now (sym c.in-Some-Update.ensures.value)
    ∙ ap (λ o. first_by first (meaning o)) c.in-Some-Update.field-0-is
    ∙ first_by-update (λ k. key k.now) c.behind.result (key c.in-Some-Update.last.key)
    (g.V.Write.encoding c.in-Some-Update.last.value) (key c.in-Some-Update.last.next_key) first false c.behind.ensures
    (sym c.is_some.ensures ∙ c.if-is_some.false))

pub returns-in-Some-Delete : goal.returns-in-Some-Delete
returns-in-Some-Delete g c =
    let key = g.K.Write.encoding in
    let meaning = meaning_of key g.V.Write.encoding in
    let first = option_map (λ k. key k.now) c.args.first in
    sym (first_after-last meaning first c.args.batch.now c.in-Some-Delete.field-0.now (sym c.in-Some-Delete.ensures.value)
    ∙ ap (λ o. first_by first (meaning o)) c.in-Some-Delete.field-0-is)

pub returns-in-Some-CommitFloor : goal.returns-in-Some-CommitFloor
returns-in-Some-CommitFloor g c =
    let key = g.K.Write.encoding in
    let meaning = meaning_of key g.V.Write.encoding in
    let first = option_map (λ k. key k.now) c.args.first in
    sym (first_after-last meaning first c.args.batch.now c.in-Some-CommitFloor.field-0.now (sym c.in-Some-CommitFloor.ensures.value)
    ∙ ap (λ o. first_by first (meaning o)) c.in-Some-CommitFloor.field-0-is)
