use Rattle.std.proofs.Common.{◌∙◌, Some, ap, refl, sym}
use Rattle.auth_store_ledger.specs.Store.{LedgerState}
use Rattle.auth_store_machine.specs.Reads.{LiveParts}
use Rattle.auth_store_machine.proofs.Pruned.{on_err_so}
use Rattle.auth_store_live.proofs.live.prune_live.Goals as goal

pub returns-clause-ok : goal.returns-clause-ok
returns-clause-ok g c =
    let view = rw c.in-Some.is at c.take-2.view_is in
    let is = sym c.take.ensures.value ∙ sym view in
    rw is c.prune_ledger-chunks.ensures.of

pub returns-clause-writer : goal.returns-clause-writer
returns-clause-writer g c =
    let view = rw c.in-Some.is at c.take-2.view_is in
    let is = sym c.take.ensures.value ∙ sym view in
    rw is refl

pub returns-clause-refused : goal.returns-clause-refused
returns-clause-refused g c =
    let view = rw c.in-Some.is at c.take-2.view_is in
    let is = sym c.take.ensures.value ∙ sym view in
    rw is c.prune_ledger-chunks.ensures.refused

pub returns-clause-unchanged : goal.returns-clause-unchanged
returns-clause-unchanged g c =
    let view = rw c.in-Some.is at c.take-2.view_is in
    let is = sym c.take.ensures.value ∙ sym view in
    let live : LedgerState → LiveParts = λ l. record { ledger = l; writer = c.in-Some.field-0.writer } in
    rw is (on_err_so c.prune_ledger-chunks.result (λ same. ap (λ (l : LedgerState). Some (live l)) same) c.prune_ledger-chunks.ensures.unchanged)
