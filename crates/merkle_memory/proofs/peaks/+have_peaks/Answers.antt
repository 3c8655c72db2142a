use Rattle.std.proofs.Common.{◌≡◌, ◌∷◌, ◌-◌, length, map, take, drop, refl, sym, ◌∙◌, ap, ap₂, arith, rules}
use Rattle.std.proofs.lemmas.List.{length-map}
use Rattle.merkle_core_parts.specs.Mem.{digests_from, node_at}
use Rattle.merkle_core_parts.specs.Laws.Peaks.{digests-end, digests-some, nothing, first-of, tails}
use Rattle.merkle_memory.proofs.peaks.+have_peaks.Goals as goal

pub returns-then-first-leaves : goal.returns-then-first-leaves
returns-then-first-leaves g t c =
    let encoding = g.D.Write.encoding in
    let some = digests-some g.F.Family.merge_rule g.met.F.Family.merges_equals c.args.leaves c.args.first
    (node_at g.F.Family.merge_rule c.args.tree.now) c.requires.cut c.if-first-leaves.true in
    let none = ap (λ xs. length (map encoding xs)) (nothing c.args.peaks.now c.in-empty.len_below) in
    (λ bad. absurd cc, λ same. absurd (omega (arith, some, ap length same, none)))

pub returns-then-first-leaves-2 : goal.returns-then-first-leaves-2
returns-then-first-leaves-2 g t c =
    let encoding = g.D.Write.encoding in
    let none = digests-end g.F.Family.merge_rule g.met.F.Family.merges_equals c.args.leaves c.args.first
    (node_at g.F.Family.merge_rule c.args.tree.now) c.if-first-leaves-2.true in (
      λ bad. absurd cc,
      λ same. absurd (omega (
        arith,
        ap length none,
        ap length same,
        length-map c.args.peaks.now encoding,
        c.in-len1-up.len_at_least,
      )),
    )

pub returns-else-first-leaves : goal.returns-else-first-leaves
returns-else-first-leaves g t c =
    let encoding = g.D.Write.encoding in
    let none = digests-end g.F.Family.merge_rule g.met.F.Family.merges_equals c.args.leaves c.args.first
    (node_at g.F.Family.merge_rule c.args.tree.now) c.if-first-leaves.false in
    (λ yes. ap (map encoding) (nothing c.args.peaks.now c.in-empty.len_below) ∙ sym none, λ same. refl)

pub returns-else-ne : goal.returns-else-ne
returns-else-ne g t c =
    let encoding = g.D.Write.encoding in
    let next = digests_from g.F.Family.merge_rule c.args.leaves (node_at g.F.Family.merge_rule c.args.tree.now)
    c.peak_at-digest.result.1 in
    let rest = map encoding (take (length c.args.peaks.now - 1) (drop 1 c.args.peaks.now)) in
    let own : encoding c.own-item.result ≡ encoding c.peak_at-digest.result.0 = search rules in
    let all : map encoding c.args.peaks.now ≡ encoding c.own-item.result ∷ rest =
    ap (map encoding) (first-of c.own-item.result c.args.peaks.now c.in-len1-up.len_at_least c.own-item.is) in (
      λ yes. all ∙ ap₂ (λ d ds. d ∷ ds) own (c.have_peaks.ensures.0 yes) ∙ sym c.peak_at-digest.ensures.digest,
      λ same. c.have_peaks.ensures.1 (tails (encoding c.own-item.result) (encoding c.peak_at-digest.result.0) rest next
          (sym all ∙ same ∙ c.peak_at-digest.ensures.digest)),
    )
