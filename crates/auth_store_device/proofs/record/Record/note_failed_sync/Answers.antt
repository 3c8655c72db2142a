use Rattle.std.proofs.Common.{◌∷◌, [], false, ap, refl, ◌∙◌}
use Rattle.paged_blob_parts.specs.Calls.{synced}
use Rattle.auth_store_device.specs.declared.kept.Kept.TheVariants.{SyncFailed}
use Rattle.auth_store_device.specs.Records.{Recording, calls_of}
use Rattle.auth_store_device.proofs.Helds.{gains-none}
use Rattle.auth_store_device.proofs.Recorded.{change-noted}
use Rattle.auth_store_device.proofs.record.Record.note_failed_sync.Goals as goal

pub invariant_of-self : goal.invariant_of-self
invariant_of-self c =
    let at = c.self.inside in
    (change-noted at.blocks at.blocks at.calls.items c.push.new.self.items SyncFailed at.base at.ready (gains-none at.blocks) c.push.ensures c.self.invariant
    at.base.has_failed at.base.touched tt tt refl c.self.invariant.1.failed (λ i out. (out, λ left. left))).1

pub returns : goal.returns
returns c =
    let at = c.self.inside in
    (change-noted at.blocks at.blocks at.calls.items c.push.new.self.items SyncFailed at.base at.ready (gains-none at.blocks) c.push.ensures c.self.invariant
    at.base.has_failed at.base.touched tt tt refl c.self.invariant.1.failed (λ i out. (out, λ left. left))).0
    ∙ ap (λ (r : Recording). synced [] false ∷ calls_of r) c.self.view_is
