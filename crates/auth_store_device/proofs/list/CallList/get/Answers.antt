use Rattle.std.proofs.Common.{rules, ◌≡◌, ◌<◌, ◌%◌, length, get_or, ap, sym, subst, ◌∙◌}
use Rattle.std.proofs.lemmas.List.{get_or_read}
use Rattle.std.specs.declared.alloc.Global.{Global}
use Rattle.std.specs.declared.vec.Vec.{Vec}
use Rattle.auth_store_device.specs.declared.kept.Kept.{Kept}
use Rattle.auth_store_device.specs.Listings.{Listing, block_calls, calls_in}
use Rattle.auth_store_device.proofs.Listed.{below-last, in-full, in-last}
use Rattle.auth_store_device.proofs.list.CallList.get.Goals as goal

pub index-requires-else-block-len : goal.index-requires-else-block-len
index-requires-else-block-len c =
    let at = c.self.inside in
    let there = subst (λ (l : Listing). c.args.place < length l.items) (sym c.self.view_is) c.requires in
    let below = below-last at.full.items at.last.items c.args.place c.self.invariant.0 c.self.invariant.1 there (search rules) in
    search (rules, below)

pub returns-then-block-len : goal.returns-then-block-len
returns-then-block-len c = λ d.
    let at = c.self.inside in
    let place = c.args.place in
    let kept = c.index-then-block-len.result.now in
    let all = calls_in at.full.items at.last.items in
    let there = subst (λ (l : Listing). place < length l.items) (sym c.self.view_is) c.requires in
    let is : kept ≡ get_or all place kept =
    c.index-then-block-len.ensures ∙ ap (λ (b : Vec Kept Global). get_or b.items (place % block_calls) kept) c.index.ensures
    ∙ sym (in-full at.full.items at.last.items place c.index.result.now kept c.self.invariant.0 (search rules)) in
    get_or_read all place kept there is d ∙ ap (λ (l : Listing). get_or l.items place d) c.self.view_is

pub returns-else-block-len : goal.returns-else-block-len
returns-else-block-len c = λ d.
    let at = c.self.inside in
    let place = c.args.place in
    let kept = c.index-else-block-len.result.now in
    let all = calls_in at.full.items at.last.items in
    let there = subst (λ (l : Listing). place < length l.items) (sym c.self.view_is) c.requires in
    let is : kept ≡ get_or all place kept =
    c.index-else-block-len.ensures
    ∙ sym (in-last at.full.items at.last.items place kept c.self.invariant.0 c.self.invariant.1 there (search rules)) in
    get_or_read all place kept there is d ∙ ap (λ (l : Listing). get_or l.items place d) c.self.view_is
