use Rattle.std.proofs.Common.{Contains, sym, ◌∙◌, subst}
use Rattle.merkle_core_parts.specs.declared.error.Error.{Error}
use Rattle.merkle_theory.specs.Multi.{IsRefusalToProveMany}
use Rattle.merkle_proofs.specs.ProofStores.{suffix_positions}
use Rattle.merkle_proofs.proofs.Stores.{missed_apart}
use Rattle.merkle_proofs.proofs.proof_store.ProofStore.refusal.Goals as goal

pub returns-then-is_among : goal.returns-then-is_among
returns-then-is_among g c locations known why =
    let store = c.args.self.now in
    let Why : Error _ → Type 0 = λ e. IsRefusalToProveMany g.F.Family.merge_rule store.leaves locations store.inactive known e in (
      subst Why c.in-ElementPruned.is why,
      subst (λ ps. Contains ps c.in-ElementPruned.position) (c.deref.ensures.value ∙ c.in-Ok.ensures) (c.is_among.ensures.0 c.if-is_among.true),
    )

pub returns-in_default : goal.returns-in_default
returns-in_default g c locations known why =
    (why, missed_apart (suffix_positions g.F.Family.merge_rule c.args.self.now) c.args.error c.in_default.not-ElementPruned)

pub returns-in_default-suffix_peak_positions : goal.returns-in_default-suffix_peak_positions
returns-in_default-suffix_peak_positions g c locations known why = (tt, tt)

pub returns : goal.returns
returns g c locations known why =
    let store = c.args.self.now in
    let Why : Error _ → Type 0 = λ e. IsRefusalToProveMany g.F.Family.merge_rule store.leaves locations store.inactive known e in (
      subst Why c.in-ElementPruned.is why,
      λ there. let clash = sym c.if-is_among.false ∙ c.is_among.ensures.1 (subst (λ ps. Contains ps c.in-ElementPruned.position)
          (sym (c.deref.ensures.value ∙ c.in-Ok.ensures)) there) in
          absurd cc,
    )
