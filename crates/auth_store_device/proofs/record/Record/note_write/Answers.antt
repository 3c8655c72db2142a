use Rattle.std.proofs.Common.{rules, ◌∷◌, not, ◌||◌, [], reverse, ap, refl, sym, subst, ◌∙◌}
use Rattle.paged_blob_parts.specs.Calls.{file_of, wrote}
use Rattle.auth_store_device.specs.declared.kept.Kept.TheVariants.{Wrote}
use Rattle.auth_store_device.specs.RecordsCode.{calls_in}
use Rattle.auth_store_device.specs.Records.{Recording, calls_of}
use Rattle.auth_store_device.specs.BlocksCode.{bytes_in}
use Rattle.auth_store_device.proofs.Recorded.{IsWell, change-noted, write-may}
use Rattle.auth_store_device.proofs.record.Record.note_write.Goals as goal

pub invariant_of-self : goal.invariant_of-self
invariant_of-self c =
    let at = c.self.inside in
    let done =
    change-noted at.blocks c.put-part.new.self at.calls.items c.push.new.self.items (Wrote c.args.offset c.put-part.result c.args.is_sync c.args.is_made)
    at.base at.ready c.put-part.ensures.gains c.push.ensures c.self.invariant (at.base.has_failed || not c.args.is_made) c.change.new.self.touched
    c.put-part.ensures.within tt refl (ap (λ b. b || not c.args.is_made) c.self.invariant.1.failed)
    (write-may c.args.offset c.saturating_add-end.result c.args.bytes.now (bytes_in c.put-part.new.self.blocks c.put-part.result) c.args.is_sync c.args.is_made
    (file_of (reverse (calls_in at.blocks [] at.calls.items))) at.base.touched c.change.new.self.touched
    c.put-part.ensures.bytes (search rules) c.change.ensures.touched) in
    subst (λ b. IsWell c.put-part.new.self c.push.new.self.items b at.ready) (sym c.change.ensures.base) done.1

pub returns : goal.returns
returns c =
    let at = c.self.inside in
    (change-noted at.blocks c.put-part.new.self at.calls.items c.push.new.self.items (Wrote c.args.offset c.put-part.result c.args.is_sync c.args.is_made)
    at.base at.ready c.put-part.ensures.gains c.push.ensures c.self.invariant (at.base.has_failed || not c.args.is_made) c.change.new.self.touched
    c.put-part.ensures.within tt refl (ap (λ b. b || not c.args.is_made) c.self.invariant.1.failed)
    (write-may c.args.offset c.saturating_add-end.result c.args.bytes.now (bytes_in c.put-part.new.self.blocks c.put-part.result) c.args.is_sync c.args.is_made
    (file_of (reverse (calls_in at.blocks [] at.calls.items))) at.base.touched c.change.new.self.touched
    c.put-part.ensures.bytes (search rules) c.change.ensures.touched)).0
    ∙ ap (λ (r : Recording). wrote c.args.offset (bytes_in c.put-part.new.self.blocks c.put-part.result)
    c.args.is_sync c.args.is_made ∷ calls_of r) c.self.view_is
    ∙ ap (λ b. wrote c.args.offset b c.args.is_sync c.args.is_made ∷ calls_of c.args.self.now) c.put-part.ensures.bytes
