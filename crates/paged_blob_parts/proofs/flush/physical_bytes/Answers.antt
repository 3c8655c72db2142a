use Rattle.std.proofs.Common.{rules, arith, ◌≡◌, ◌≤◌, ◌-◌, ◌*◌, ◌<◌, ◌++◌, suc, min, None, length, take, drop, sym, ◌∙◌, ap}
use Rattle.std.proofs.lemmas.List.{append_assoc, append-nil, length-append, length-drop, take_min, drop_min}
use Rattle.paged_format.specs.Footers.{content_size}
use Rattle.paged_blob_parts.specs.Flushes.{flushed_bytes, page_bytes, pages_bytes, page_count}
use Rattle.paged_blob_parts.specs.Laws.Flushes.{count_more, count_none, pages_more, pages_none, fit_more, length-page_bytes}
use Rattle.paged_blob_parts.proofs.flush.physical_bytes.Goals as goal

pub loop-rest-preserved : goal.loop-rest-preserved
loop-rest-preserved g c =
    let sum = g.C.Checksum.checksum_of in
    let size = c.args.page_size in
    let room = content_size size in
    let rest = c.loop-rest.rest.now in
    let stays = c.loop-rest.stays in
    let pages = c.loop-rest.pages.items in
    let page = c.split_at.result.0.now in
    let behind = c.split_at.result.1.now in
    let i = c.loop-rest.invariant in
    let some_room : 12 < size = search rules in
    let some : 0 < length rest = search rules in
    let mid : c.min.result ≡ min room (length rest) = omega (arith, c.min.ensures) in
    let front : page ≡ take room rest = c.split_at.ensures.front ∙ ap (λ n. take n rest) mid ∙ take_min room rest in
    let back : behind ≡ drop room rest = c.split_at.ensures.back ∙ ap (λ n. drop n rest) mid ∙ drop_min room rest in
    let left : length behind ≡ length rest - room = ap length back ∙ length-drop room rest in
    let next : page_count size (length rest - room) ≡ page_count size (length behind) = ap (page_count size) (sym left) in
    let count : page_count size (length rest) ≡ suc (page_count size (length behind)) = count_more size (length rest) some_room some ∙ ap suc next in
    let within : length page ≤ room = omega (arith, c.split_at.ensures.front_len, mid) in
    let pushed : c.push_page.new.pages.items ≡ pages ++ page_bytes sum size stays page = c.in_ok-push_page.ensures.page in
    let long = length-page_bytes sum size stays page (omega (arith, some_room)) within in
    let more = pages_more sum size (page_count size (length rest)) (page_count size (length behind)) stays rest count in
    record {
      bytes = ap (λ l. l ++ flushed_bytes sum size None behind) pushed
          ∙ append_assoc pages (page_bytes sum size stays page) (flushed_bytes sum size None behind)
          ∙ ap (λ l. pages ++ (page_bytes sum size stays l ++ flushed_bytes sum size None behind)) front
          ∙ ap (λ l. pages ++ (page_bytes sum size stays (take room rest) ++ pages_bytes sum size (page_count size (length behind)) None l)) back
          ∙ ap (λ l. pages ++ l) (sym more) ∙ i.bytes;
      long = omega (
        arith,
        ap length pushed,
        length-append pages (page_bytes sum size stays page),
        long,
        i.long,
        ap (λ n. n * size) count,
      );
      fits = λ after. i.fits (fit_more sum size (page_count size (length rest)) (page_count size (length behind)) rest count
          (rw (← front) c.in_ok-push_page.ensures.fits) (rw (← back) after));
    }

pub returns-clause-bytes : goal.returns-clause-bytes
returns-clause-bytes g c =
    let sum = g.C.Checksum.checksum_of in
    let size = c.args.page_size in
    let rest = c.loop-rest.rest.now in
    let pages = c.loop-rest.pages.items in
    let some_room : 12 < size = search rules in
    let none : length rest ≡ 0 = search rules in
    let nothing = pages_none sum size (page_count size (length rest)) c.loop-rest.stays rest (count_none size (length rest) some_room none) in
    sym (append-nil pages) ∙ ap (λ l. pages ++ l) (sym nothing) ∙ c.loop-rest.invariant.bytes
