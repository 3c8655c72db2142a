use Rattle.std.proofs.Common.{◌∙◌, Some, ap, refl, subst, sym}
use Rattle.paged_blob_parts.specs.Moments.{here}
use Rattle.state_theory.specs.Canonical.{Setting}
use Rattle.auth_store_ledger.specs.Store.{IsLedgerOf, root_of_history, setting_of_width}
use Rattle.auth_store_log.specs.Records.{Format, format_of}
use Rattle.auth_store_machine.specs.Reads.{LiveParts, log_in}
use Rattle.auth_store_machine.specs.declared.error.StoreError.TheVariants.{Failed}
use Rattle.auth_store_machine.proofs.Batches.{kept_live, kept_or}
use Rattle.auth_store_machine.proofs.Powers.{raises_none}
use Rattle.auth_store_live.proofs.live.commit_live.Goals as goal

pub returns-in_default-clause-grows : goal.returns-in_default-clause-grows
returns-in_default-clause-grows g c = here tt

pub returns-in-Ok-clause-commits : goal.returns-in-Ok-clause-commits
returns-in-Ok-clause-commits g c =
    let format : Format = format_of (g.K.Read.after tt) (g.V.Read.after tt) g.K.FixedSize.SIZE g.V.FixedSize.SIZE in
    let setting : Setting = setting_of_width g.F.Family.merge_rule g.H.HashFunction.hash_of g.row.N in
    let view = rw c.in-Some.is at c.take-2.view_is in
    let is = sym c.take.ensures.value ∙ sym view in
    let next = c.in-Ok.ensures.next in
    let log = log_in format (g.B.Blob.calls c.grow_live.new.blob) c.in-Ok.live.writer in
    let of = subst (λ (p : LiveParts). IsLedgerOf setting format log p.ledger) (sym c.live.view_is)
    c.in-Ok.ensures.live.ledger in
    rw is (
      c.root-root.ensures log of ∙ ap (root_of_history setting g.K.FixedSize.SIZE g.V.FixedSize.SIZE) next.0,
      next.0,
      next.1,
      c.in-Ok.ensures.powered,
    )

pub returns-in-Err-clause-live : goal.returns-in-Err-clause-live
returns-in-Err-clause-live g c = kept_live c.in-Err.kept _ _ _ c.in-Err.ensures.kept

pub returns-in-Err-clause-commits : goal.returns-in-Err-clause-commits
returns-in-Err-clause-commits g c =
    let format : Format = format_of (g.K.Read.after tt) (g.V.Read.after tt) g.K.FixedSize.SIZE g.V.FixedSize.SIZE in
    let view = rw c.in-Some.is at c.take-2.view_is in
    let is = sym c.take.ensures.value ∙ sym view in
    rw is (kept_or format (g.B.Blob.calls c.grow_live.new.blob) c.in-Err.kept _ _ _ _ c.in-Err.ensures.kept
    c.in-Err.ensures.failed)

pub returns-in-Ok-clause-pruned : goal.returns-in-Ok-clause-pruned
returns-in-Ok-clause-pruned g c =
    let view = rw c.in-Some.is at c.take-2.view_is in
    let is = sym c.take.ensures.value ∙ sym view in
    rw is c.in-Ok.ensures.pruned

pub returns-in-Err-clause-pruned : goal.returns-in-Err-clause-pruned
returns-in-Err-clause-pruned g c =
    let view = rw c.in-Some.is at c.take-2.view_is in
    let is = sym c.take.ensures.value ∙ sym view in
    rw is c.in-Err.ensures.pruned

pub returns-in_default-clause-raised : goal.returns-in_default-clause-raised
returns-in_default-clause-raised g c = raises_none (Some Failed) (g.B.Blob.failures c.args.blob.now) refl refl
