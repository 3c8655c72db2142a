use Rattle.std.proofs.Common.{◌≡◌, ◌==◌, ◌∷◌, true, [], get_or, reverse, subst, ap, refl, sym, ◌∙◌}
use Rattle.std.proofs.lemmas.Bool.{eqb-true}
use Rattle.paged_blob_parts.specs.Calls.{opened, file_of}
use Rattle.auth_store_device.specs.declared.kept.Kept.TheVariants.{Opened}
use Rattle.auth_store_device.specs.Records.{Recording, calls_of}
use Rattle.auth_store_device.specs.RecordsCode.{calls_in}
use Rattle.auth_store_device.proofs.Bases.{base-in-image}
use Rattle.auth_store_device.proofs.Helds.{gains-none}
use Rattle.auth_store_device.proofs.Recorded.{IsWell, begin-noted}
use Rattle.auth_store_device.proofs.record.Record.note_opening.Goals as goal

pub invariant_of-self : goal.invariant_of-self
invariant_of-self c =
    let at = c.self.inside in
    let all = calls_in at.blocks [] at.calls.items in
    let has : (at.base.image_at == at.base.base_at) ≡ true = ap (λ (r : Recording). r.has_base) c.self.view_is ∙ c.requires.base in
    let knows : get_or at.blocks.images at.base.image [] ≡ (file_of (reverse all)).base =
    base-in-image at.blocks all at.base c.self.invariant.1 (eqb-true at.base.image_at at.base.base_at has) in
    let done =
    begin-noted at.blocks at.blocks at.calls.items c.push.new.self.items (Opened at.base.image at.ready) at.base at.ready (gains-none at.blocks)
    c.push.ensures c.self.invariant c.len.result at.ready (get_or at.blocks.images at.ready [])
    c.begin.new.self.touched (c.self.invariant.1.within, c.self.invariant.2) knows
    c.len.ensures refl c.self.invariant.2 refl in
    subst (λ b. IsWell at.blocks c.push.new.self.items b at.ready) (sym c.begin.ensures.base) done.1

pub returns : goal.returns
returns c =
    let at = c.self.inside in
    let all = calls_in at.blocks [] at.calls.items in
    let has : (at.base.image_at == at.base.base_at) ≡ true = ap (λ (r : Recording). r.has_base) c.self.view_is ∙ c.requires.base in
    let knows : get_or at.blocks.images at.base.image [] ≡ (file_of (reverse all)).base =
    base-in-image at.blocks all at.base c.self.invariant.1 (eqb-true at.base.image_at at.base.base_at has) in
    (begin-noted at.blocks at.blocks at.calls.items c.push.new.self.items (Opened at.base.image at.ready) at.base at.ready (gains-none at.blocks)
    c.push.ensures c.self.invariant c.len.result at.ready (get_or at.blocks.images at.ready [])
    c.begin.new.self.touched (c.self.invariant.1.within, c.self.invariant.2) knows
    c.len.ensures refl c.self.invariant.2 refl).0
    ∙ ap (λ (r : Recording). opened r.ready ∷ calls_of r) c.self.view_is
