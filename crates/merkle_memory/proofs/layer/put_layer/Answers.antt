use Rattle.std.proofs.Common.{◌≡◌, ◌++◌, ℕ, List, map, ◌∙◌, ap, ap₂}
use Rattle.std.proofs.lemmas.List.{map-append}
use Rattle.merkle_core_parts.specs.Mem.{encoded, replaced_from}
use Rattle.merkle_core_parts.specs.Laws.Merkleized.{put-all}
use Rattle.merkle_memory.proofs.layer.put_layer.Goals as goal

pub returns-clause-digests : goal.returns-clause-digests
returns-clause-digests g c =
    let encoding = g.D.Write.encoding in
    let before = c.args.digests.now.items in
    let grown = c.extend_from_slice.new.self.items in
    let longer : map encoding grown ≡ map encoding before ++ c.args.layer.now.digests =
    ap (map encoding) c.in-Ok.ensures.items ∙ map-append encoding before c.digests.result.now
    ∙ ap (λ (back : List (List ℕ)). map encoding before ++ back) c.digests.ensures.digests in
    put-all c.args.start (map encoding grown) (map encoding c.put_all.new.digests.items) (encoded encoding c.changed.result.now)
    c.put_all.ensures.each
    ∙ ap₂ (replaced_from c.args.start) longer c.changed.ensures
