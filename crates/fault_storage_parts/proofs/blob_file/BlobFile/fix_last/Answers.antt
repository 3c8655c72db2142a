use Rattle.std.proofs.Common.{◌≤◌, ap, arith, ◌∙◌}
use Rattle.std.specs.Vec.{vec_capacity}
use Rattle.fault_storage_parts.specs.Files.{HasRoomFor, chosen_bytes}
use Rattle.fault_storage_parts.specs.FilesCode.{mutation_of}
use Rattle.fault_storage_parts.specs.Revisions.{kept_of, file_recast}
use Rattle.fault_storage_parts.proofs.LastMutations.{recast-put, room-put}
use Rattle.fault_storage_parts.proofs.blob_file.BlobFile.fix_last.Goals as goal

pub invariant_of-self : goal.invariant_of-self
invariant_of-self c =
    room-put (λ m. HasRoomFor (vec_capacity c.self.inside.base) (mutation_of m) × (chosen_bytes (mutation_of m) ≤ vec_capacity c.self.inside.choice))
    c.self.inside.log.items
    c.pop_back.new.self.items c.put_last.new.log.items c.in-Some.last c.fixed.result c.self.invariant c.in-Some.ensures.items c.put_last.ensures
    (λ h. (c.fixed.ensures.room _ h.0, omega (arith, h.1, c.fixed.ensures.chosen)))

pub returns-in-Some : goal.returns-in-Some
returns-in-Some c =
    ap (λ l. record { base = c.self.inside.base.items; log = l })
    (recast-put (kept_of c.args.kept.items) c.self.inside.log.items c.pop_back.new.self.items c.put_last.new.log.items c.in-Some.last c.fixed.result
    c.in-Some.ensures.items c.put_last.ensures c.fixed.ensures.is)
    ∙ ap (file_recast (kept_of c.args.kept.items)) c.self.view_is
