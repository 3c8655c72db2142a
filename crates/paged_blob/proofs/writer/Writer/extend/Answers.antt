use Rattle.std.proofs.Common.{rules, arith, ◌≡◌, ◌≤◌, ◌+◌, ◌<◌, ◌^◌}
use Rattle.std.proofs.Common.{◌++◌, ℕ, List, length, take, drop, subst, sym, ap, ◌∙◌, refl}
use Rattle.std.proofs.lemmas.List.{append-nil, append_assoc, length-append, length-take-le, length-drop, take_all, drop-drop, take-append-drop}
use Rattle.std.proofs.Math.Seq.{take-add}
use Rattle.paged_format.specs.Tips.{Tip}
use Rattle.paged_blob_parts.specs.Moments.{Through}
use Rattle.paged_blob_parts.specs.Laws.Moments.{joined}
use Rattle.paged_blob_parts.specs.Flushes.{physical_size}
use Rattle.paged_blob_parts.specs.Calls.{Call}
use Rattle.paged_blob_parts.specs.Caches.{Cache}
use Rattle.paged_blob_parts.specs.CachedContent.{HoldsPagesOf, KeepsOthers}
use Rattle.paged_blob_parts.proofs.CachedLaws.{holds_pages_more, others_same, others_joined}
use Rattle.paged_blob_parts.specs.Writers.{WriterState, IsWriter, Keeps, written}
use Rattle.paged_blob_parts.proofs.WriterLaws.{physical_above, size_is, more_written, more_writer, moments_before}
use Rattle.paged_blob.proofs.writer.Writer.extend.Goals as goal

pub loop-rest-init : goal.loop-rest-init
loop-rest-init g c =
    let sum = g.C.Checksum.checksum_of in
    let old = g.B.Blob.calls c.args.blob.now in
    let w = c.args.self.now in
    let size_is = c.requires.size in
    let some_room : 12 < w.page_size = search (rules, size_is) in
    record {
      done = 0;
      within = omega arith;
      rest = refl;
      writer = c.requires.writer;
      content = sym (append-nil (written sum old w));
      moments = moments_before sum old w some_room c.requires.writer c.args.bytes.now;
      synced = refl;
      page_size = refl;
      blob_id = refl;
      capacity = refl;
      failures = refl;
      left = omega arith;
      syncs = refl;
      cache = refl;
      cached = λ holds. holds;
      others = others_same c.args.cache.now w.blob_id;
    }

-- what is left fits
fits_left : (sum : List ℕ → ℕ) (old mid : List Call) (w v : WriterState) (bytes rest : List ℕ) (done : ℕ) → 12 < w.page_size
    → v.page_size ≡ w.page_size
    → IsWriter sum old w → IsWriter sum mid v → written sum mid v ≡ written sum old w ++ take done bytes → done ≤ length bytes
    → rest ≡ drop done bytes
    → physical_size w.page_size (w.tip.offset + length w.tip.bytes + length bytes) + 4096 < 2 ^ 64
    → physical_size v.page_size (v.tip.offset + length v.tip.bytes + length rest) + 4096 < 2 ^ 64
fits_left sum old mid w v bytes rest done some same is_old is_mid so_far within left fits =
    let total : v.tip.offset + length v.tip.bytes + length rest ≡ w.tip.offset + length w.tip.bytes + length bytes =
    omega (
      arith,
      size_is sum mid v (omega (arith, some, same)) is_mid,
      size_is sum old w some is_old,
      ap length so_far,
      length-append (written sum old w) (take done bytes),
      length-take-le done bytes within,
      ap length left,
      length-drop done bytes,
      within,
    ) in
    subst (λ n. physical_size n (v.tip.offset + length v.tip.bytes + length rest) + 4096 < 2 ^ 64) (sym same)
    (subst (λ n. physical_size w.page_size n + 4096 < 2 ^ 64) (sym total) fits)

-- the pages that are kept are those of all that is to come
cached_all : (old mid bytes : List ℕ) (done : ℕ) (cache : Cache) (id : ℕ) → mid ≡ old ++ take done bytes → HoldsPagesOf mid cache id
    → HoldsPagesOf (old ++ bytes) cache id
cached_all old mid bytes done cache id is holds =
    let all : mid ++ drop done bytes ≡ old ++ bytes = ap (λ l. l ++ drop done bytes) is ∙ append_assoc old (take done bytes) (drop done bytes)
    ∙ ap (λ l. old ++ l) (take-append-drop done bytes) in
    subst (λ l. HoldsPagesOf l cache id) all (holds_pages_more mid (drop done bytes) cache id holds)

pub fill-requires-clause-fits : goal.fill-requires-clause-fits
fill-requires-clause-fits g c =
    let i = c.loop-rest.invariant in
    let size_ok = c.requires.size in
    let some_before : 12 < c.args.self.now.page_size = search (rules, size_ok) in
    fits_left g.C.Checksum.checksum_of (g.B.Blob.calls c.args.blob.now) (g.B.Blob.calls c.loop-rest.blob) c.args.self.now c.loop-rest.self c.args.bytes.now
    c.loop-rest.rest.now i.done some_before i.page_size c.requires.writer i.writer i.content i.within i.rest c.requires.fits

pub append-requires : goal.append-requires
append-requires g c =
    let i = c.loop-rest.invariant in
    let size_ok = c.requires.size in
    let some_before : 12 < c.args.self.now.page_size = search (rules, size_ok) in
    let v = c.loop-rest.self in
    let fits = fits_left g.C.Checksum.checksum_of (g.B.Blob.calls c.args.blob.now) (g.B.Blob.calls c.loop-rest.blob) c.args.self.now v c.args.bytes.now
    c.loop-rest.rest.now i.done some_before i.page_size c.requires.writer i.writer i.content i.within i.rest c.requires.fits in
    let above = physical_above v.page_size (v.tip.offset + length v.tip.bytes + length c.loop-rest.rest.now) (omega (arith, some_before, i.page_size)) in
    omega (arith, fits, above, ap (λ (s : WriterState). s.tip.offset) c.self-2.view_is, ap (λ (s : WriterState). length s.tip.bytes) c.self-2.view_is)

pub returns-in_err-count-clause-cached : goal.returns-in_err-count-clause-cached
returns-in_err-count-clause-cached g c =
    let sum = g.C.Checksum.checksum_of in
    let i = c.loop-rest.invariant in
    let w = c.args.self.now in
    let old = written sum (g.B.Blob.calls c.args.blob.now) w in
    let mid = written sum (g.B.Blob.calls c.loop-rest.blob) c.loop-rest.self in
    λ holds. subst (λ k. HoldsPagesOf (old ++ c.args.bytes.now) k w.blob_id) (sym c.in_err-count.ensures.uncached)
    (cached_all old mid c.args.bytes.now i.done c.loop-rest.cache w.blob_id i.content (i.cached holds))

pub returns-in_err-append-clause-cached : goal.returns-in_err-append-clause-cached
returns-in_err-append-clause-cached g c =
    let sum = g.C.Checksum.checksum_of in
    let i = c.loop-rest.invariant in
    let w = c.args.self.now in
    let old = written sum (g.B.Blob.calls c.args.blob.now) w in
    let mid = written sum (g.B.Blob.calls c.loop-rest.blob) c.loop-rest.self in
    λ holds. cached_all old mid c.args.bytes.now i.done c.loop-rest.cache w.blob_id i.content (i.cached holds)

pub returns-clause-cached : goal.returns-clause-cached
returns-clause-cached g c =
    let sum = g.C.Checksum.checksum_of in
    let i = c.loop-rest.invariant in
    let w = c.args.self.now in
    let old = written sum (g.B.Blob.calls c.args.blob.now) w in
    let mid = written sum (g.B.Blob.calls c.loop-rest.blob) c.loop-rest.self in
    λ holds. cached_all old mid c.args.bytes.now i.done c.loop-rest.cache w.blob_id i.content (i.cached holds)

-- the moments of one round more
round : (old written_old part rest bytes : List ℕ) → written_old ≡ old ++ part → part ++ rest ≡ bytes → written_old ++ rest ≡ old ++ bytes
round old written_old part rest bytes is all = ap (λ l. l ++ rest) is ∙ append_assoc old part rest ∙ ap (λ l. old ++ l) all

pub returns-in_err-count-clause-any_moment : goal.returns-in_err-count-clause-any_moment
returns-in_err-count-clause-any_moment g c =
    let sum = g.C.Checksum.checksum_of in
    let i = c.loop-rest.invariant in
    let bytes = c.args.bytes.now in
    let w = c.args.self.now in
    let old = g.B.Blob.calls c.args.blob.now in
    let mid = g.B.Blob.calls c.loop-rest.blob in
    let new = g.B.Blob.calls c.fill.new.blob in
    let all : take i.done bytes ++ c.loop-rest.rest.now ≡ bytes = ap (λ l. take i.done bytes ++ l) i.rest ∙ take-append-drop i.done bytes in
    let same = round (written sum old w) (written sum mid c.loop-rest.self) (take i.done bytes) c.loop-rest.rest.now bytes i.content all in
    let more : Through (Keeps sum w.page_size (written sum old w ++ bytes) w.synced) mid new =
    subst (λ l. Through (Keeps sum w.page_size l w.synced) mid new) same
    (subst (λ n. Through (Keeps sum n (written sum mid c.loop-rest.self ++ c.loop-rest.rest.now) w.synced) mid new) i.page_size
    (subst (λ n. Through (Keeps sum c.loop-rest.self.page_size
    (written sum mid c.loop-rest.self ++ c.loop-rest.rest.now) n) mid new) i.synced c.fill.ensures.any_moment)) in
    joined i.moments more

pub loop-rest-preserved : goal.loop-rest-preserved
loop-rest-preserved g c =
    let sum = g.C.Checksum.checksum_of in
    let i = c.loop-rest.invariant in
    let bytes = c.args.bytes.now in
    let w = c.args.self.now in
    let old = g.B.Blob.calls c.args.blob.now in
    let mid = g.B.Blob.calls c.loop-rest.blob in
    let new = g.B.Blob.calls c.fill.new.blob in
    let n = c.in_ok-count.count in
    let all : take i.done bytes ++ c.loop-rest.rest.now ≡ bytes = ap (λ l. take i.done bytes ++ l) i.rest ∙ take-append-drop i.done bytes in
    let same = round (written sum old w) (written sum mid c.loop-rest.self) (take i.done bytes) c.loop-rest.rest.now bytes i.content all in
    let more : Through (Keeps sum w.page_size (written sum old w ++ bytes) w.synced) mid new =
    subst (λ l. Through (Keeps sum w.page_size l w.synced) mid new) same
    (subst (λ n. Through (Keeps sum n (written sum mid c.loop-rest.self ++ c.loop-rest.rest.now) w.synced) mid new) i.page_size
    (subst (λ n. Through (Keeps sum c.loop-rest.self.page_size
    (written sum mid c.loop-rest.self ++ c.loop-rest.rest.now) n) mid new) i.synced c.fill.ensures.any_moment)) in
    let taken : take n c.loop-rest.rest.now ≡ take n (drop i.done bytes) = ap (take n) i.rest in
    let joined_part : take i.done bytes ++ take n c.loop-rest.rest.now ≡ take (i.done + n) bytes =
    ap (λ l. take i.done bytes ++ l) taken ∙ sym (take-add i.done n bytes) in
    let s = c.fill.ensures.same in
    record {
      done = i.done + n;
      within = omega (arith, c.in_ok-count.ensures.within, ap length i.rest, length-drop i.done bytes, i.within);
      rest = c.split_at.ensures.back ∙ ap (drop n) i.rest ∙ drop-drop n i.done bytes;
      writer = c.in_ok-count.ensures.writer;
      content = c.in_ok-count.ensures.content
          ∙ round (written sum old w) (written sum mid c.loop-rest.self) (take i.done bytes) (take n c.loop-rest.rest.now) (take
          (i.done + n) bytes) i.content joined_part;
      moments = joined i.moments more;
      synced = c.fill.ensures.synced ∙ i.synced;
      page_size = s.0 ∙ i.page_size;
      blob_id = s.1 ∙ i.blob_id;
      capacity = s.2 ∙ i.capacity;
      failures = c.in_ok-count.ensures.failures ∙ i.failures;
      left = omega (arith, c.fill.ensures.left, i.left);
      syncs = c.fill.ensures.syncs ∙ i.syncs;
      cache = c.fill.ensures.cache ∙ ap (λ (k : Cache). record k { pages = c.fill.new.cache.pages }) i.cache;
      cached = λ holds.
          let P : ℕ → Type 0 = λ id. HoldsPagesOf (written sum mid c.loop-rest.self) c.loop-rest.cache id
          → HoldsPagesOf (written sum new c.fill.new.self) c.fill.new.cache id in
          subst P i.blob_id c.in_ok-count.ensures.cached (i.cached holds);
      others = others_joined c.args.cache.now c.loop-rest.cache c.fill.new.cache w.blob_id i.others
          (subst (λ id. KeepsOthers c.loop-rest.cache c.fill.new.cache id) i.blob_id c.fill.ensures.others);
    }

pub returns-clause-writer : goal.returns-clause-writer
returns-clause-writer g c =
    let sum = g.C.Checksum.checksum_of in
    let i = c.loop-rest.invariant in
    let bytes = c.args.bytes.now in
    let rest = c.loop-rest.rest.now in
    let w = c.args.self.now in
    let old = g.B.Blob.calls c.args.blob.now in
    let mid = g.B.Blob.calls c.loop-rest.blob in
    let k = c.self-2.inside in
    let v : WriterState = record { page_size = k.page_size; blob_id = k.blob_id; synced = k.synced; slot = k.slot; tip = k.tip } in
    let seen : v ≡ c.loop-rest.self = c.self-2.view_is in
    let is : IsWriter sum mid v = subst (λ s. IsWriter sum mid s) (sym seen) i.writer in
    let size_ok = c.requires.size in
    let some_before : 12 < w.page_size = search (rules, size_ok) in
    let some_room : 12 < v.page_size = omega (arith, some_before, i.page_size, ap (λ (s : WriterState). s.page_size) seen) in
    let so_far : written sum mid v ≡ written sum old w ++ take i.done bytes = ap (written sum mid) seen ∙ i.content in
    let total : v.tip.offset + length v.tip.bytes + length rest ≡ w.tip.offset + length w.tip.bytes + length bytes =
    omega (
      arith,
      size_is sum mid v some_room is,
      size_is sum old w some_before c.requires.writer,
      ap length so_far,
      length-append (written sum old w) (take i.done bytes),
      length-take-le i.done bytes i.within,
      ap length i.rest,
      length-drop i.done bytes,
      i.within,
    ) in
    let size_same : w.page_size ≡ v.page_size = sym (ap (λ (s : WriterState). s.page_size) seen ∙ i.page_size) in
    let fits : physical_size v.page_size (v.tip.offset + length v.tip.bytes + length rest) + 4096 < 2 ^ 64 =
    subst (λ n. physical_size n (v.tip.offset + length v.tip.bytes + length rest) + 4096 < 2 ^ 64) size_same
    (subst (λ n. physical_size w.page_size n + 4096 < 2 ^ 64) (sym total) c.requires.fits) in
    let all : take c.in_ok-append.field-0 rest ≡ rest = take_all c.in_ok-append.field-0 rest
    (omega (
      arith,
      c.in_ok-append.ensures.count,
      c.loop-rest-test.false,
      c.room.ensures,
      ap (λ (s : WriterState). s.tip.capacity) c.self-2.view_is,
      ap (λ (s : WriterState). length s.tip.bytes) c.self-2.view_is,
      ap (λ (s : WriterState). s.tip.capacity) c.self.view_is,
      ap (λ (s : WriterState). length s.tip.bytes) c.self.view_is,
    )) in
    let tip = c.append.new.self in
    let tip_is : tip ≡ record v.tip { bytes = v.tip.bytes ++ rest } =
    c.in_ok-append.ensures.ok ∙ ap (λ l. record v.tip { bytes = v.tip.bytes ++ l }) all in
    subst (λ (t : Tip). IsWriter sum mid (record v { tip = t })) (sym tip_is) (more_writer sum mid v some_room is rest fits)

pub returns-clause-content : goal.returns-clause-content
returns-clause-content g c =
    let sum = g.C.Checksum.checksum_of in
    let i = c.loop-rest.invariant in
    let bytes = c.args.bytes.now in
    let rest = c.loop-rest.rest.now in
    let w = c.args.self.now in
    let old = g.B.Blob.calls c.args.blob.now in
    let mid = g.B.Blob.calls c.loop-rest.blob in
    let k = c.self-2.inside in
    let v : WriterState = record { page_size = k.page_size; blob_id = k.blob_id; synced = k.synced; slot = k.slot; tip = k.tip } in
    let seen : v ≡ c.loop-rest.self = c.self-2.view_is in
    let is : IsWriter sum mid v = subst (λ s. IsWriter sum mid s) (sym seen) i.writer in
    let size_ok = c.requires.size in
    let some_before : 12 < w.page_size = search (rules, size_ok) in
    let some_room : 12 < v.page_size = omega (arith, some_before, i.page_size, ap (λ (s : WriterState). s.page_size) seen) in
    let so_far : written sum mid v ≡ written sum old w ++ take i.done bytes = ap (written sum mid) seen ∙ i.content in
    let total : v.tip.offset + length v.tip.bytes + length rest ≡ w.tip.offset + length w.tip.bytes + length bytes =
    omega (
      arith,
      size_is sum mid v some_room is,
      size_is sum old w some_before c.requires.writer,
      ap length so_far,
      length-append (written sum old w) (take i.done bytes),
      length-take-le i.done bytes i.within,
      ap length i.rest,
      length-drop i.done bytes,
      i.within,
    ) in
    let size_same : w.page_size ≡ v.page_size = sym (ap (λ (s : WriterState). s.page_size) seen ∙ i.page_size) in
    let fits : physical_size v.page_size (v.tip.offset + length v.tip.bytes + length rest) + 4096 < 2 ^ 64 =
    subst (λ n. physical_size n (v.tip.offset + length v.tip.bytes + length rest) + 4096 < 2 ^ 64) size_same
    (subst (λ n. physical_size w.page_size n + 4096 < 2 ^ 64) (sym total) c.requires.fits) in
    let all : take c.in_ok-append.field-0 rest ≡ rest = take_all c.in_ok-append.field-0 rest
    (omega (
      arith,
      c.in_ok-append.ensures.count,
      c.loop-rest-test.false,
      c.room.ensures,
      ap (λ (s : WriterState). s.tip.capacity) c.self-2.view_is,
      ap (λ (s : WriterState). length s.tip.bytes) c.self-2.view_is,
      ap (λ (s : WriterState). s.tip.capacity) c.self.view_is,
      ap (λ (s : WriterState). length s.tip.bytes) c.self.view_is,
    )) in
    let tip = c.append.new.self in
    let tip_is : tip ≡ record v.tip { bytes = v.tip.bytes ++ rest } =
    c.in_ok-append.ensures.ok ∙ ap (λ l. record v.tip { bytes = v.tip.bytes ++ l }) all in
    ap (λ (t : Tip). written sum mid (record v { tip = t })) tip_is ∙ more_written sum mid v some_room is rest fits
    ∙ round (written sum old w) (written sum mid v) (take i.done bytes) rest bytes so_far
    (ap (λ l. take i.done bytes ++ l) i.rest ∙ take-append-drop i.done bytes)
