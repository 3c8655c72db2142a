use Rattle.std.proofs.Common.{rules, ◌≡◌, ℕ, List, subst, sym}
use Rattle.paged_blob_parts.specs.Caches.{Page, Adds, IsGivenOne}
use Rattle.paged_blob_parts.specs.CachesCode.{pages_of}
use Rattle.paged_blob_parts.proofs.Kept.{forgets-filter, forgotten, kept}
use Rattle.paged_blob_parts.proofs.cache.CacheRef.keep.Goals as goal

pub returns-in_default-clause-pages : goal.returns-in_default-clause-pages
returns-in_default-clause-pages c =
    let old = c.self.inside.pages.items in
    let less = c.forget.new.pages.items in
    let given : Page = record { blob_id = c.args.blob_id; number = c.args.number; bytes = c.args.bytes.now } in
    let is : c.args.self.now.pages ≡ pages_of old = search rules in
    let P : List Page → Type 0 = λ pages. IsGivenOne pages (pages_of c.make_room.new.pages.items) given in
    subst P (sym is)
    (forgotten (pages_of old) (pages_of less) (pages_of c.make_room.new.pages.items) given
    (forgets-filter c.args.blob_id c.args.number old less c.forget.ensures.elsewhere) c.make_room.ensures.fewer)

pub returns-clause-pages : goal.returns-clause-pages
returns-clause-pages c =
    let old = c.self.inside.pages.items in
    let less = c.forget.new.pages.items in
    let few = pages_of c.make_room.new.pages.items in
    let new = pages_of c.add.new.pages.items in
    let given : Page = record { blob_id = c.args.blob_id; number = c.args.number; bytes = c.args.bytes.now } in
    let is : c.args.self.now.pages ≡ pages_of old = search rules in
    let copied : c.in-Ok.copy.items ≡ c.args.bytes.now = search rules in
    let P : List Page → Type 0 = λ pages. IsGivenOne pages new given in
    let A : List ℕ → Type 0 = λ bytes. Adds few new (record { blob_id = c.args.blob_id; number = c.args.number; bytes = bytes }) in
    let added : A c.args.bytes.now = subst A copied c.add.ensures.added in
    subst P (sym is)
    (kept (pages_of old) (pages_of less) few new given
    (forgets-filter c.args.blob_id c.args.number old less c.forget.ensures.elsewhere) c.make_room.ensures.fewer added)
