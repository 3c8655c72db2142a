use Rattle.std.proofs.Common.{◌∷◌, not, ◌||◌, [], reverse, ap, refl, sym, subst, ◌∙◌}
use Rattle.paged_blob_parts.specs.Calls.{file_of, resized_to}
use Rattle.auth_store_device.specs.declared.kept.Kept.TheVariants.{ResizedTo}
use Rattle.auth_store_device.specs.RecordsCode.{calls_in}
use Rattle.auth_store_device.specs.Records.{Recording, calls_of}
use Rattle.auth_store_device.proofs.Helds.{gains-none}
use Rattle.auth_store_device.proofs.Recorded.{IsWell, change-noted, resize-may}
use Rattle.auth_store_device.proofs.record.Record.note_resize.Goals as goal

pub invariant_of-self : goal.invariant_of-self
invariant_of-self c =
    let at = c.self.inside in
    let done =
    change-noted at.blocks at.blocks at.calls.items c.push.new.self.items (ResizedTo c.args.len c.args.is_made) at.base at.ready (gains-none at.blocks)
    c.push.ensures c.self.invariant (at.base.has_failed || not c.args.is_made) c.change.new.self.touched tt tt refl
    (ap (λ b. b || not c.args.is_made) c.self.invariant.1.failed)
    (resize-may c.args.len c.args.is_made (file_of (reverse (calls_in at.blocks [] at.calls.items)))
    at.base.touched c.change.new.self.touched c.change.ensures.touched) in
    subst (λ b. IsWell at.blocks c.push.new.self.items b at.ready) (sym c.change.ensures.base) done.1

pub returns : goal.returns
returns c =
    let at = c.self.inside in
    (change-noted at.blocks at.blocks at.calls.items c.push.new.self.items (ResizedTo c.args.len c.args.is_made) at.base at.ready (gains-none at.blocks)
    c.push.ensures c.self.invariant (at.base.has_failed || not c.args.is_made) c.change.new.self.touched tt tt refl
    (ap (λ b. b || not c.args.is_made) c.self.invariant.1.failed)
    (resize-may c.args.len c.args.is_made (file_of (reverse (calls_in at.blocks [] at.calls.items)))
    at.base.touched c.change.new.self.touched c.change.ensures.touched)).0
    ∙ ap (λ (r : Recording). resized_to c.args.len c.args.is_made ∷ calls_of r) c.self.view_is
