use Rattle.std.proofs.Common.{arith, ◌≡◌, ◌∷◌, reverse, ap, subst, sym}
use Rattle.std.proofs.lemmas.Grind.{common_steps}
use Rattle.paged_blob_parts.specs.Calls.{file_of}
use Rattle.paged_blob_parts.specs.Images.{IsImage}
use Rattle.paged_blob_parts.proofs.Live.{whole_image}
use Rattle.undo_disk.specs.Undone.{calls_from}
use Rattle.undo_disk.specs.declared.step.Step.TheVariants.{Synced}
use Rattle.undo_disk.proofs.disk.UndoDiskBlob.sync.Goals as goal

pub returns-clause-calls : goal.returns-clause-calls
returns-clause-calls c =
    let disk = c.args.self.now in
    let file = disk.bytes.items in
    let calls = calls_from (reverse disk.steps.items) file in
    let pushed : reverse c.push.new.self.items ≡ Synced ∷ reverse disk.steps.items = grind (arith, common_steps) in (
      file,
      record { image = subst (IsImage (file_of calls)) (sym disk.live) (whole_image (file_of calls)); content = λ _. disk.live },
      ap (λ l. calls_from l file) pushed,
    )
