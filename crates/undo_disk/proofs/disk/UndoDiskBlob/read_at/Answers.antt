use Rattle.std.proofs.Common.{rules, arith, ◌≡◌, ◌+◌, ◌≤◌, ◌<◌, length, take, drop, reverse, ap, ◌∙◌}
use Rattle.paged_blob_parts.specs.Calls.{content, file_of}
use Rattle.paged_blob_parts.proofs.Live.{whole_live}
use Rattle.undo_disk.specs.Undone.{calls_from}
use Rattle.undo_disk.proofs.disk.UndoDiskBlob.read_at.Goals as goal

pub returns-then-end-len-clause-cause : goal.returns-then-end-len-clause-cause
returns-then-end-len-clause-cause c =
    let disk = c.args.self.now in
    let calls = calls_from (reverse disk.steps.items) disk.bytes.items in
    let past : length disk.bytes.items < c.args.offset + c.args.len = search rules in
    record { live = content calls; found = whole_live (file_of calls); short = omega (arith, ap length disk.live, past) }

pub returns-clause-slice : goal.returns-clause-slice
returns-clause-slice c =
    let disk = c.args.self.now in
    let calls = calls_from (reverse disk.steps.items) disk.bytes.items in
    let within : c.args.offset + c.args.len ≤ length disk.bytes.items = search rules in
    let is : c.in_ok-to_vec.field-0.items ≡ take c.args.len (drop c.args.offset disk.bytes.items) = search rules in
    record {
      live = content calls;
      found = whole_live (file_of calls);
      within = omega (arith, ap length disk.live, within);
      slice = is ∙ ap (λ bytes. take c.args.len (drop c.args.offset bytes)) disk.live;
    }
