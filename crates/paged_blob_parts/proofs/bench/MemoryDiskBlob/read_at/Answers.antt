use Rattle.std.proofs.Common.{rules, arith, ◌≡◌, ◌+◌, ◌≤◌, ◌<◌, length, take, drop, ap, ◌∙◌}
use Rattle.paged_blob_parts.specs.Calls.{content, file_of}
use Rattle.paged_blob_parts.specs.Recorded.{calls_of}
use Rattle.paged_blob_parts.proofs.Live.{whole_live}
use Rattle.paged_blob_parts.proofs.bench.MemoryDiskBlob.read_at.Goals as goal

pub returns-then-end-len-clause-cause : goal.returns-then-end-len-clause-cause
returns-then-end-len-clause-cause c =
    let calls = calls_of c.args.self.now.record_kept.items in
    let long : length c.args.self.now.bytes.items ≡ length (content calls) = ap length c.args.self.now.live in
    let past : length c.args.self.now.bytes.items < c.args.offset + c.args.len = search rules in
    record { live = content calls; found = whole_live (file_of calls); short = omega (arith, long, past) }

pub returns-clause-slice : goal.returns-clause-slice
returns-clause-slice c =
    let calls = calls_of c.args.self.now.record_kept.items in
    let long : length c.args.self.now.bytes.items ≡ length (content calls) = ap length c.args.self.now.live in
    let within : c.args.offset + c.args.len ≤ length c.args.self.now.bytes.items = search rules in
    let is : c.in_ok-to_vec.field-0.items ≡ take c.args.len (drop c.args.offset c.args.self.now.bytes.items) = search rules in
    record {
      live = content calls;
      found = whole_live (file_of calls);
      within = omega (arith, long, within);
      slice = is ∙ ap (λ bytes. take c.args.len (drop c.args.offset bytes)) c.args.self.now.live;
    }
