use Rattle.std.proofs.Common.{rules, arith, ◌≡◌, ◌∷◌, true, subst, sym}
use Rattle.std.proofs.lemmas.Grind.{common_steps}
use Rattle.paged_blob_parts.specs.Calls.{synced, content, file_of}
use Rattle.paged_blob_parts.specs.Images.{IsImage}
use Rattle.paged_blob_parts.specs.Recorded.{calls_of}
use Rattle.paged_blob_parts.proofs.Live.{whole_image}
use Rattle.paged_blob_parts.proofs.bench.MemoryDiskBlob.sync.Goals as goal

pub returns-clause-calls : goal.returns-clause-calls
returns-clause-calls c =
    let live = c.args.self.now.live in
    let calls = calls_of c.args.self.now.record_kept.items in
    let is : c.in_ok-synced.synced.items ≡ content calls = search (rules, live) in
    let recorded : calls_of c.push.new.self.items ≡ synced c.in_ok-synced.synced.items true ∷ calls = grind (arith, common_steps) in
    (c.in_ok-synced.synced.items, record { image = subst (IsImage (file_of calls)) (sym is) (whole_image (file_of calls)); content = λ _. is }, recorded)
