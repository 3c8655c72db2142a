use Rattle.std.proofs.Common.{rules, arith, ◌≡◌, ◌∷◌, true, length, take, drop, reverse, ap, refl, sym, ◌∙◌}
use Rattle.std.proofs.lemmas.Grind.{common_steps}
use Rattle.paged_blob_parts.specs.Calls.{wrote, content, with_bytes}
use Rattle.paged_blob_parts.specs.WriteModes.{is_sync}
use Rattle.undo_disk.specs.Undone.{calls_from}
use Rattle.undo_disk.specs.declared.step.Step.TheVariants.{Wrote}
use Rattle.undo_disk.proofs.Undone.{write_read}
use Rattle.undo_disk.proofs.disk.UndoDiskBlob.write_at.Goals as goal

pub returns-clause-calls : goal.returns-clause-calls
returns-clause-calls c =
    let disk = c.args.self.now in
    let file = disk.bytes.items in
    let steps = reverse disk.steps.items in
    let new = c.put_bytes.new.file.items in
    let bytes = c.args.bytes.now in
    let sync : c.eq-is_sync.result ≡ is_sync c.args.mode = search rules in
    let size : c.len-size.result ≡ length file = search rules in
    let lost : c.in_ok-lost.lost.items ≡ take (length bytes) (drop c.place_of-place.result file) = search rules in
    let laid : new ≡ with_bytes c.place_of-place.result bytes file = search rules in
    let step = Wrote c.place_of-place.result (length bytes) c.eq-is_sync.result c.len-size.result c.in_ok-lost.lost in
    let pushed : reverse c.push.new.self.items ≡ step ∷ steps = grind (arith, common_steps) in
    let calls : calls_from (reverse c.push.new.self.items) new ≡ wrote c.place_of-place.result bytes (is_sync c.args.mode) true ∷ calls_from steps file =
    ap (λ l. calls_from l new) pushed
    ∙ write_read steps c.place_of-place.result (length bytes) c.len-size.result c.eq-is_sync.result (is_sync c.args.mode)
    c.in_ok-lost.lost.items bytes file new
    sync refl size lost laid in
    calls ∙ ap (λ p. wrote p bytes (is_sync c.args.mode) true ∷ calls_from steps file) c.place_of-place.ensures.is

pub invariant_of-self-else-is_err : goal.invariant_of-self-else-is_err
invariant_of-self-else-is_err c =
    let disk = c.args.self.now in
    let file = disk.bytes.items in
    let steps = reverse disk.steps.items in
    let new = c.put_bytes.new.file.items in
    let bytes = c.args.bytes.now in
    let sync : c.eq-is_sync.result ≡ is_sync c.args.mode = search rules in
    let size : c.len-size.result ≡ length file = search rules in
    let lost : c.in_ok-lost.lost.items ≡ take (length bytes) (drop c.place_of-place.result file) = search rules in
    let laid : new ≡ with_bytes c.place_of-place.result bytes file = search rules in
    let step = Wrote c.place_of-place.result (length bytes) c.eq-is_sync.result c.len-size.result c.in_ok-lost.lost in
    let pushed : reverse c.push.new.self.items ≡ step ∷ steps = grind (arith, common_steps) in
    let calls : calls_from (reverse c.push.new.self.items) new ≡ wrote c.place_of-place.result bytes (is_sync c.args.mode) true ∷ calls_from steps file =
    ap (λ l. calls_from l new) pushed
    ∙ write_read steps c.place_of-place.result (length bytes) c.len-size.result c.eq-is_sync.result (is_sync c.args.mode)
    c.in_ok-lost.lost.items bytes file new
    sync refl size lost laid in
    record { live = laid ∙ ap (with_bytes c.place_of-place.result bytes) disk.live ∙ sym (ap content calls) }
