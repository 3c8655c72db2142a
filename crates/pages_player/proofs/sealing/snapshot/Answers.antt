use Rattle.std.proofs.Common.{◌≡◌, ◌≤◌, ℕ, List, ◌++◌, sym, ◌∙◌, ap, subst}
use Rattle.std.proofs.lemmas.List.{append_assoc}
use Rattle.paged_blob_parts.specs.CachedContent.{HoldsPagesOf}
use Rattle.paged_blob_parts.specs.Moments.{Through}
use Rattle.paged_blob_parts.specs.Stands.{on_blob}
use Rattle.paged_blob_parts.specs.Writers.{Keeps, written}
use Rattle.pages_player.proofs.sealing.snapshot.Goals as goal

pub returns-clause-stand : goal.returns-clause-stand
returns-clause-stand g c =
    let sum = g.C.Checksum.checksum_of in
    let b0 = g.B.Blob.calls c.args.blob.now in
    let b1 = g.B.Blob.calls c.append.new.blob in
    let b2 = g.B.Blob.calls c.snapshot.new.blob in
    let b3 = g.B.Blob.calls c.append-2.new.blob in
    let b4 = g.B.Blob.calls c.sync-synced.new.blob in
    let begun = c.in_ok-begun.begun in
    let going = c.in_ok-going.going in
    let longer = c.in_ok-longer.longer in
    let first = c.in_ok-begun.ensures in
    let kept = c.in_ok-going.ensures in
    let grown = c.in_ok-longer.ensures in
    let more = c.args.more.now in
    let list = written sum b1 begun in
    let pages = c.in_ok-going.sealed.pages in
    let tail = c.in_ok-going.sealed.tail.items in
    let size_two : going.page_size ≡ pages.physical_page_size = kept.same.0 ∙ sym kept.named.0 in
    let M : ℕ → List ℕ → Type 0 = λ size l. Through (Keeps sum size (l ++ more) going.synced) b2 b3 in
    let appended : M going.page_size list = subst (λ (l : List ℕ). M going.page_size l) kept.content c.append-2.ensures.any_moment in
    let two = c.a_sealed_list_stays.ensures sum b2 b3 list more going.synced pages tail kept.sealed kept.durable
    (subst (λ (n : ℕ). M n list) size_two appended) in
    let content : written sum b3 longer ≡ list ++ more = grown.content ∙ ap (λ l. l ++ more) kept.content in
    let S : ℕ → List ℕ → Type 0 = λ size l. Through (Keeps sum size l longer.synced) b3 b4 in
    let synced : S longer.page_size (list ++ more) = subst (λ (l : List ℕ). S longer.page_size l) content c.sync-synced.ensures.any_moment in
    let durable : pages.len ≤ longer.synced = subst (λ (n : ℕ). pages.len ≤ n) (sym grown.synced) kept.durable in
    let three = c.a_sealed_list_stays.ensures sum b3 b4 list more longer.synced pages tail two durable
    (subst (λ (n : ℕ). S n (list ++ more)) (grown.same.0 ∙ size_two) synced) in
    three.stand

pub returns-clause-serves : goal.returns-clause-serves
returns-clause-serves g c =
    let sum = g.C.Checksum.checksum_of in
    let b0 = g.B.Blob.calls c.args.blob.now in
    let b1 = g.B.Blob.calls c.append.new.blob in
    let b2 = g.B.Blob.calls c.snapshot.new.blob in
    let b3 = g.B.Blob.calls c.append-2.new.blob in
    let b4 = g.B.Blob.calls c.sync-synced.new.blob in
    let begun = c.in_ok-begun.begun in
    let going = c.in_ok-going.going in
    let longer = c.in_ok-longer.longer in
    let first = c.in_ok-begun.ensures in
    let kept = c.in_ok-going.ensures in
    let grown = c.in_ok-longer.ensures in
    let more = c.args.more.now in
    let list = written sum b1 begun in
    let pages = c.in_ok-going.sealed.pages in
    let tail = c.in_ok-going.sealed.tail.items in
    let size_two : going.page_size ≡ pages.physical_page_size = kept.same.0 ∙ sym kept.named.0 in
    let M : ℕ → List ℕ → Type 0 = λ size l. Through (Keeps sum size (l ++ more) going.synced) b2 b3 in
    let appended : M going.page_size list = subst (λ (l : List ℕ). M going.page_size l) kept.content c.append-2.ensures.any_moment in
    let two = c.a_sealed_list_stays.ensures sum b2 b3 list more going.synced pages tail kept.sealed kept.durable
    (subst (λ (n : ℕ). M n list) size_two appended) in
    let content : written sum b3 longer ≡ list ++ more = grown.content ∙ ap (λ l. l ++ more) kept.content in
    let S : ℕ → List ℕ → Type 0 = λ size l. Through (Keeps sum size l longer.synced) b3 b4 in
    let synced : S longer.page_size (list ++ more) = subst (λ (l : List ℕ). S longer.page_size l) content c.sync-synced.ensures.any_moment in
    let durable : pages.len ≤ longer.synced = subst (λ (n : ℕ). pages.len ≤ n) (sym grown.synced) kept.durable in
    let three = c.a_sealed_list_stays.ensures sum b3 b4 list more longer.synced pages tail two durable
    (subst (λ (n : ℕ). S n (list ++ more)) (grown.same.0 ∙ size_two) synced) in
    let front = on_blob sum b4 pages in
    let H : List ℕ → ℕ → Type 0 = λ l id. HoldsPagesOf l c.append.new.cache id in
    let h1 : H list begun.blob_id =
    subst (λ (id : ℕ). H list id) (sym first.same.1)
    (subst (λ (l : List ℕ). H l c.args.writer.blob_id) (sym first.content) (c.append.ensures.cached c.requires.cached)) in
    let h2 : HoldsPagesOf list c.snapshot.new.cache begun.blob_id = c.snapshot.ensures.cached h1 in
    let K : List ℕ → ℕ → Type 0 = λ l id. HoldsPagesOf l c.snapshot.new.cache id in
    let k2 : K (written sum b2 going) going.blob_id =
    subst (λ (id : ℕ). K (written sum b2 going) id) (sym kept.same.1) (subst (λ (l : List ℕ). K l begun.blob_id) (sym kept.content) h2) in
    let h3 : HoldsPagesOf (written sum b2 going ++ more) c.append-2.new.cache going.blob_id = c.append-2.ensures.cached k2 in
    let L : List ℕ → ℕ → Type 0 = λ l id. HoldsPagesOf l c.append-2.new.cache id in
    let k3 : L (written sum b3 longer) longer.blob_id =
    subst (λ (id : ℕ). L (written sum b3 longer) id) (sym grown.same.1) (subst (λ (l : List ℕ). L l going.blob_id) (sym grown.content) h3) in
    let h4 : HoldsPagesOf (written sum b3 longer) c.sync-synced.new.cache longer.blob_id = c.sync-synced.ensures.cached k3 in
    let Z : List ℕ → ℕ → Type 0 = λ l id. HoldsPagesOf l c.sync-synced.new.cache id in
    let names : longer.blob_id ≡ pages.blob_id = grown.same.1 ∙ kept.same.1 ∙ sym kept.named.1 in
    let whole : written sum b3 longer ≡ front ++ (tail ++ more) =
    content ∙ ap (λ l. l ++ more) (sym three.is) ∙ append_assoc front tail more in
    (tail ++ more, subst (λ (id : ℕ). Z (front ++ (tail ++ more)) id) names (subst (λ (l : List ℕ). Z l longer.blob_id) whole h4))
