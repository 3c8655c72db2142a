use Rattle.std.proofs.Common.{rules, arith, ◌≡◌, ◌+◌, ◌-◌, ◌*◌, ◌/◌, ◌%◌, ℕ, length, take, drop, subst, sym, ap, ◌∙◌}
use Rattle.std.proofs.lemmas.List.{length-drop, drop-drop}
use Rattle.std.proofs.lemmas.Nat.{mod-mul-add, div-mul-add}
use Rattle.paged_blob_parts.specs.Caches.{Cache, AreGiven}
use Rattle.paged_blob_parts.specs.Chance.{page_at}
use Rattle.paged_blob_parts.proofs.Kept.{given_more}
use Rattle.paged_blob_parts.proofs.cache.CacheRef.cache.Goals as goal

pub loop-rest-preserved : goal.loop-rest-preserved
loop-rest-preserved c =
    let size = c.self.inside.page_size in
    let bytes = c.args.bytes.now in
    let rest = c.loop-rest.rest.now in
    let i = c.loop-rest.invariant in
    let page : c.split_at.result.0.now ≡ page_at size i.count bytes = c.split_at.ensures.front ∙ ap (take size) i.rest in
    let pages_put : Cache → Cache = λ s. record s { pages = c.keep.new.self.pages } in
    let cut : length c.split_at.result.1.now ≡ length rest - size = ap length c.split_at.ensures.back ∙ length-drop size rest in
    record {
      count = i.count + 1;
      number = omega (arith, i.number);
      rest = c.split_at.ensures.back ∙ ap (drop size) i.rest ∙ drop-drop size (i.count * size) bytes ∙ ap (λ n. drop n bytes) (omega arith);
      reached = omega (arith, cut, i.reached, c.loop-rest-test.true);
      pages = given_more c.args.self.now.pages c.loop-rest.self.pages c.keep.new.self.pages c.args.blob_id c.offset_to_page-first.result.0 size bytes i.count
          c.loop-rest.number c.split_at.result.0.now i.pages i.number page c.keep.ensures.pages;
      few = c.keep.ensures.few;
      same = c.keep.ensures.same ∙ ap pages_put i.same;
    }

pub returns-clause-left : goal.returns-clause-left
returns-clause-left c =
    let size = c.self.inside.page_size in
    let i = c.loop-rest.invariant in
    let same : c.args.self.now.page_size ≡ size = search rules in
    let left = length c.loop-rest.rest.now in
    sym (mod-mul-add i.count size left c.loop-rest-test.false) ∙ ap (λ n. n % size) i.reached ∙ ap (λ n. length c.args.bytes.now % n) (sym same)

pub returns-clause-pages : goal.returns-clause-pages
returns-clause-pages c =
    let size = c.self.inside.page_size in
    let i = c.loop-rest.invariant in
    let same : c.args.self.now.page_size ≡ size = search rules in
    let first : c.offset_to_page-first.result.0 ≡ c.args.offset / size = search rules in
    let left = length c.loop-rest.rest.now in
    let count : i.count ≡ length c.args.bytes.now / size = sym (div-mul-add i.count size left c.loop-rest-test.false) ∙ ap (λ n. n / size) i.reached in
    let P : ℕ → ℕ → Type 0 = λ f n. AreGiven c.args.self.now.pages c.loop-rest.self.pages c.args.blob_id f size c.args.bytes.now n in
    let Q : ℕ → Type 0 = λ s.
    AreGiven c.args.self.now.pages c.loop-rest.self.pages c.args.blob_id (c.args.offset / s) s c.args.bytes.now (length c.args.bytes.now / s) in
    let given : Q size = subst (P (c.args.offset / size)) count (subst (λ f. P f i.count) first i.pages) in
    subst Q (sym same) given
