use Rattle.std.proofs.Common.{rules, arith, ◌≡◌, ◌∷◌, true, length, drop, reverse, ap, sym, ◌∙◌}
use Rattle.std.proofs.lemmas.Grind.{common_steps}
use Rattle.paged_blob_parts.specs.Calls.{resized_to, content, resized}
use Rattle.undo_disk.specs.Undone.{calls_from}
use Rattle.undo_disk.specs.declared.step.Step.TheVariants.{Resized}
use Rattle.undo_disk.proofs.Undone.{resize_read}
use Rattle.undo_disk.proofs.disk.UndoDiskBlob.resize.Goals as goal

pub returns-clause-calls : goal.returns-clause-calls
returns-clause-calls c =
    let disk = c.args.self.now in
    let file = disk.bytes.items in
    let steps = reverse disk.steps.items in
    let new = c.set_length.new.file.items in
    let size : c.len-size.result ≡ length file = search rules in
    let lost : c.in_ok-lost.lost.items ≡ drop c.args.len file = search rules in
    let laid : new ≡ resized c.args.len file = search rules in
    let step = Resized c.args.len c.len-size.result c.in_ok-lost.lost in
    let pushed : reverse c.push.new.self.items ≡ step ∷ steps = grind (arith, common_steps) in
    let calls : calls_from (reverse c.push.new.self.items) new ≡ resized_to c.args.len true ∷ calls_from steps file =
    ap (λ l. calls_from l new) pushed ∙ resize_read steps c.args.len c.len-size.result c.in_ok-lost.lost.items file new size lost laid in
    calls

pub invariant_of-self-else-is_err : goal.invariant_of-self-else-is_err
invariant_of-self-else-is_err c =
    let disk = c.args.self.now in
    let file = disk.bytes.items in
    let steps = reverse disk.steps.items in
    let new = c.set_length.new.file.items in
    let size : c.len-size.result ≡ length file = search rules in
    let lost : c.in_ok-lost.lost.items ≡ drop c.args.len file = search rules in
    let laid : new ≡ resized c.args.len file = search rules in
    let step = Resized c.args.len c.len-size.result c.in_ok-lost.lost in
    let pushed : reverse c.push.new.self.items ≡ step ∷ steps = grind (arith, common_steps) in
    let calls : calls_from (reverse c.push.new.self.items) new ≡ resized_to c.args.len true ∷ calls_from steps file =
    ap (λ l. calls_from l new) pushed ∙ resize_read steps c.args.len c.len-size.result c.in_ok-lost.lost.items file new size lost laid in
    record { live = laid ∙ ap (resized c.args.len) disk.live ∙ sym (ap content calls) }
