use Rattle.std.proofs.Common.{rules, ◌≡◌, ◌≤◌, ◌+◌, ◌*◌, ℕ, List, length, drop, ap, sym, subst, ◌∙◌, ⊎_elim, arith}
use Rattle.std.proofs.lemmas.Bool.{cases_lt, leb-true, le-leb}
use Rattle.std.proofs.lemmas.List.{length-append}
use Rattle.paged_format.specs.Footers.{content_size}
use Rattle.paged_blob_parts.specs.Calls.{Call}
use Rattle.paged_blob_parts.specs.Stands.{Stand, on_blob, listed}
use Rattle.paged_blob_parts.specs.Replays.{ReadsOn}
use Rattle.paged_blob_parts.specs.declared.read.FlushedPages.{FlushedPages}
use Rattle.paged_blob_parts.proofs.StandLaws.{long}
use Rattle.paged_blob_parts.proofs.ReplayLaws.{reads_none, reads_twice, reads_long}
use Rattle.paged_blob_parts.proofs.replay.Replay.ensure.Goals as goal

pub fetch-requires-clause-stand : goal.fetch-requires-clause-stand
fetch-requires-clause-stand g c =
    let sum = g.C.Checksum.checksum_of in
    let old = g.B.Blob.calls c.args.blob.now in
    let i = c.loop-self.invariant in
    subst (λ (l : List Call). Stand sum l c.loop-self.self.sealed.pages) (sym i.calls)
    (subst (λ (p : FlushedPages). Stand sum old p) (sym i.pages) c.requires.stand)

pub loop-self-init : goal.loop-self-init
loop-self-init g c =
    let sum = g.C.Checksum.checksum_of in
    let before = c.args.self.now in
    let list = listed sum (g.B.Blob.calls c.args.blob.now) before.sealed.pages before.sealed.tail.items in
    let queue = drop before.taken before.held.items in
    let s = c.settle.ensures in
    let next : c.settle.new.self.next ≡ before.next = search rules in
    let P : List ℕ → Type 0 = λ q. ReadsOn list before.next queue before.next q in
    let here : P c.settle.new.self.held.items = subst P (sym s.held) (reads_none list before.next queue) in
    record {
      reads = subst (λ (n : ℕ). ReadsOn list before.next queue n c.settle.new.self.held.items) (sym next) here;
      taken = s.taken;
      pages = search rules;
      tail = search rules;
      batch = search rules;
      most = omega (arith, ap length s.held);
      calls = search rules;
      failures = search rules;
      left = omega arith;
    }

pub loop-self-preserved : goal.loop-self-preserved
loop-self-preserved g c =
    let sum = g.C.Checksum.checksum_of in
    let old = g.B.Blob.calls c.args.blob.now in
    let before = c.args.self.now in
    let pages = before.sealed.pages in
    let tail = before.sealed.tail.items in
    let list = listed sum old pages tail in
    let queue = drop before.taken before.held.items in
    let room = content_size pages.physical_page_size in
    let i = c.loop-self.invariant in
    let s = c.loop-self.self in
    let n = c.fetch.new.self in
    let e = c.in_ok-fetch.ensures in
    let again : n.taken ≡ 0 = search rules in
    let P : List Call → Type 0 = λ l. ReadsOn (listed sum l s.sealed.pages s.sealed.tail.items) s.next
    (drop s.taken s.held.items) n.next (drop n.taken n.held.items) in
    let over : P old = subst P i.calls e.reads in
    let Q : FlushedPages → List ℕ → ℕ → ℕ
    → Type 0 = λ p t a b. ReadsOn (listed sum old p t) s.next (drop a s.held.items) n.next (drop b n.held.items) in
    let one : Q pages s.sealed.tail.items s.taken n.taken = subst (λ (p : FlushedPages). Q p s.sealed.tail.items s.taken n.taken) i.pages over in
    let two : Q pages tail s.taken n.taken = subst (λ (t : List ℕ). Q pages t s.taken n.taken) i.tail one in
    let three : Q pages tail 0 n.taken = subst (λ (a : ℕ). Q pages tail a n.taken) i.taken two in
    let four : Q pages tail 0 0 = subst (λ (b : ℕ). Q pages tail 0 b) again three in
    let size : length list ≡ pages.len + length tail =
    length-append (on_blob sum old pages) tail ∙ ap (λ m. m + length tail) (long sum old pages c.requires.stand) in
    let lens : s.sealed.pages.len ≡ pages.len = ap (λ (p : FlushedPages). p.len) i.pages in
    let tails : length s.sealed.tail.items ≡ length tail = ap length i.tail in
    let within : s.next ≤ length list = omega (arith, s.ends, size, lens, tails) in
    let new_lens : n.sealed.pages.len ≡ pages.len = search rules in
    let new_tails : length n.sealed.tail.items ≡ length tail = search rules in
    let there : n.next ≤ length list = omega (arith, n.ends, size, new_lens, new_tails) in
    let added = reads_long list s.next s.held.items n.next n.held.items there four in
    let rooms : s.batch * content_size s.sealed.pages.physical_page_size ≡ before.batch * room =
    ap (λ m. m * content_size s.sealed.pages.physical_page_size) i.batch
    ∙ ap (λ (p : FlushedPages). before.batch * content_size p.physical_page_size) i.pages in
    let wanted = c.wants.ensures.0 c.loop-self-test.true in
    record {
      reads = reads_twice list before.next queue s.next s.held.items n.next n.held.items within i.reads four;
      taken = again;
      pages = search rules;
      tail = search rules;
      batch = search rules;
      most = omega (arith, added, e.most, rooms, wanted.0);
      calls = e.calls ∙ i.calls;
      failures = e.failures ∙ i.failures;
      left = omega (arith, e.left, i.left);
    }

pub returns-clause-enough : goal.returns-clause-enough
returns-clause-enough g c =
    let sum = g.C.Checksum.checksum_of in
    let old = g.B.Blob.calls c.args.blob.now in
    let before = c.args.self.now in
    let pages = before.sealed.pages in
    let tail = before.sealed.tail.items in
    let list = listed sum old pages tail in
    let queue = drop before.taken before.held.items in
    let i = c.loop-self.invariant in
    let s = c.loop-self.self in
    let size : length list ≡ pages.len + length tail =
    length-append (on_blob sum old pages) tail ∙ ap (λ m. m + length tail) (long sum old pages c.requires.stand) in
    let lens : s.sealed.pages.len ≡ pages.len = ap (λ (p : FlushedPages). p.len) i.pages in
    let tails : length s.sealed.tail.items ≡ length tail = ap length i.tail in
    let within : s.next ≤ length list = omega (arith, s.ends, size, lens, tails) in
    let added = reads_long list before.next queue s.next s.held.items within i.reads in
    let unwanted = c.loop-self-test.false in (
      λ yes. omega (arith, leb-true _ _ yes, c.len.ensures, added, within, size, i.reads.on),
      λ fits. le-leb _ _
          (⊎_elim
          (λ less. ⊎_elim
          (λ more. let wanted = c.wants.ensures.1 (less, more) in cc)
          (λ all. absurd (omega (arith, fits, added, within, size, lens, tails, all, less, i.reads.on)))
          (cases_lt s.next (s.sealed.pages.len + length s.sealed.tail.items)))
          (λ there. omega (arith, there, c.len.ensures))
          (cases_lt (length s.held.items) c.args.count)),
    )
