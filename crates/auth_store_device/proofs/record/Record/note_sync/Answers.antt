use Rattle.std.proofs.Common.{rules, ◌∷◌, true, [], get_or, subst, ap, refl, sym, ◌∙◌}
use Rattle.paged_blob_parts.specs.Calls.{synced, content}
use Rattle.auth_store_device.specs.declared.kept.Kept.TheVariants.{SyncedAs}
use Rattle.auth_store_device.specs.Records.{Recording, calls_of}
use Rattle.auth_store_device.proofs.Helds.{gains-none}
use Rattle.auth_store_device.proofs.Recorded.{IsWell, begin-noted, whole-noted}
use Rattle.auth_store_device.proofs.record.Record.note_sync.Goals as goal

pub invariant_of-self : goal.invariant_of-self
invariant_of-self c =
    let at = c.self.inside in
    let done =
    begin-noted at.blocks at.blocks at.calls.items c.push.new.self.items (SyncedAs at.ready) at.base at.ready (gains-none at.blocks) c.push.ensures
    c.self.invariant c.len.result at.ready (get_or at.blocks.images at.ready []) c.begin.new.self.touched
    c.self.invariant.2 tt c.len.ensures refl c.self.invariant.2 refl in
    subst (λ b. IsWell at.blocks c.push.new.self.items b at.ready) (sym c.begin.ensures.base) done.1

pub returns-then-self-clause-failed : goal.returns-then-self-clause-failed
returns-then-self-clause-failed c = λ failed.
    let at = c.self.inside in
    (begin-noted at.blocks at.blocks at.calls.items c.push.new.self.items (SyncedAs at.ready) at.base at.ready (gains-none at.blocks) c.push.ensures
    c.self.invariant c.len.result at.ready (get_or at.blocks.images at.ready []) c.begin.new.self.touched
    c.self.invariant.2 tt c.len.ensures refl c.self.invariant.2 refl).0
    ∙ ap (λ (r : Recording). synced r.ready true ∷ calls_of r) c.self.view_is

pub invariant_of-self-else-self : goal.invariant_of-self-else-self
invariant_of-self-else-self c =
    let at = c.self.inside in
    (whole-noted at.blocks at.calls.items c.push-else-self.new.self.items at.base at.ready c.len-self-inside.result c.push-else-self.ensures
    c.self.invariant c.len-self-inside.ensures (search rules)).1

pub returns-else-self-clause-whole : goal.returns-else-self-clause-whole
returns-else-self-clause-whole c = λ none.
    let at = c.self.inside in
    (whole-noted at.blocks at.calls.items c.push-else-self.new.self.items at.base at.ready c.len-self-inside.result c.push-else-self.ensures
    c.self.invariant c.len-self-inside.ensures (search rules)).0
    ∙ ap (λ (r : Recording). synced (content (calls_of r)) true ∷ calls_of r) c.self.view_is
