use Rattle.std.proofs.Common.{◌≡◌, ◌+◌, true, false, ◌++◌, map, filter, replicate, sym, ◌∙◌, ap, subst, arith}
use Rattle.merkle_forest.specs.Forest.{leaf, branch, leaf_count}
use Rattle.merkle_theory.specs.MadeRoots.{peaks_of}
use Rattle.merkle_theory.specs.Pinned.{at_peak, pinned_digest}
use Rattle.merkle_theory.specs.Plans.{Lookup, sibling_nodes}
use Rattle.merkle_theory.specs.Ranges.{Digests, is_before, meets, singly}
use Rattle.merkle_proofs.proofs.Extractions.{none_more}
use Rattle.merkle_theory.proofs.Pins.{none_before, one_before, low_before, two_before, more_singly, pushed_digest}
use Rattle.merkle_theory.proofs.PlanNodes.{on_ok}
use Rattle.merkle_proofs.proofs.pinned.+append_nodes_before.Goals as goal

pub returns-then-pins-subtree : goal.returns-then-pins-subtree
returns-then-pins-subtree g t c node tree =
    let rule = g.F.Family.merge_rule in
    let enc = g.H.Digest.Write.encoding in
    let known : Lookup = at_peak (peaks_of rule c.args.pins.now.start) (map enc c.args.pins.now.digests.now) in
    let digest : Digests = pinned_digest (g.H.Hasher.node_of c.args.pins.now.hasher.now) (replicate g.H.Digest.FixedSize.SIZE 0) known in
    let start = c.args.pins.now.start in
    let stop = c.args.stop in
    let at = c.args.subtree.first in
    let old = map enc c.args.found.now.items in
    none_more old ∙ ap (λ ns. old ++ singly digest ns) (sym (none_before start stop at node (omega (arith, c.if-pins-subtree.true))))

pub returns-then-not-meets_range : goal.returns-then-not-meets_range
returns-then-not-meets_range g t c node tree =
    let rule = g.F.Family.merge_rule in
    let enc = g.H.Digest.Write.encoding in
    let known : Lookup = at_peak (peaks_of rule c.args.pins.now.start) (map enc c.args.pins.now.digests.now) in
    let digest : Digests = pinned_digest (g.H.Hasher.node_of c.args.pins.now.hasher.now) (replicate g.H.Digest.FixedSize.SIZE 0) known in
    let start = c.args.pins.now.start in
    let stop = c.args.stop in
    let at = c.args.subtree.first in
    let old = map enc c.args.found.now.items in
    let out : meets start stop (at, node) ≡ false = sym (c.meets_range.ensures node tree) ∙ c.if-not-meets_range.true in
    pushed_digest enc c.args.found.now.items c.push.new.self.items c.digest_before.result (digest at node) c.in_ok-push.ensures.items
    (c.digest_before.ensures node tree)
    ∙ ap (λ ns. old ++ singly digest ns)
    (sym (one_before start stop at node (omega (arith, c.if-pins-subtree.false)) (omega (arith, c.requires.within)) out))

pub returns-then-subtree-eq0 : goal.returns-then-subtree-eq0
returns-then-subtree-eq0 g t c node tree =
    let rule = g.F.Family.merge_rule in
    let enc = g.H.Digest.Write.encoding in
    let known : Lookup = at_peak (peaks_of rule c.args.pins.now.start) (map enc c.args.pins.now.digests.now) in
    let digest : Digests = pinned_digest (g.H.Hasher.node_of c.args.pins.now.hasher.now) (replicate g.H.Digest.FixedSize.SIZE 0) known in
    let start = c.args.pins.now.start in
    let stop = c.args.stop in
    let at = c.args.subtree.first in
    let old = map enc c.args.found.now.items in
    let met : meets start stop (at, node) ≡ true = sym (c.meets_range.ensures node tree) ∙ c.if-not-meets_range.false in
    none_more old ∙ ap (λ ns. old ++ singly digest ns) (sym (low_before start stop at c.args.subtree.height node tree.level c.if-subtree-eq0.true met))

pub returns : goal.returns
returns g t c (leaf q) tree = absurd (omega (arith, tree.level, c.if-subtree-eq0.false))
returns g t c (branch q left right) tree =
    let rule = g.F.Family.merge_rule in
    let enc = g.H.Digest.Write.encoding in
    let known : Lookup = at_peak (peaks_of rule c.args.pins.now.start) (map enc c.args.pins.now.digests.now) in
    let digest : Digests = pinned_digest (g.H.Hasher.node_of c.args.pins.now.hasher.now) (replicate g.H.Digest.FixedSize.SIZE 0) known in
    let start = c.args.pins.now.start in
    let stop = c.args.stop in
    let at = c.args.subtree.first in
    let old = map enc c.args.found.now.items in
    let met : meets start stop (at, branch q left right) ≡ true = sym (c.meets_range.ensures (branch q left right) tree) ∙ c.if-not-meets_range.false in
    let both = c.children_of.ensures.children q left right tree in
    let mid = map enc c.append_nodes_before.new.found.items in
    let new = map enc c.append_nodes_before-2.new.found.items in
    let a = filter (is_before start) (sibling_nodes start stop at left) in
    let b = filter (is_before start) (sibling_nodes start stop (at + leaf_count left) right) in
    let first : mid ≡ old ++ singly digest a =
    subst (λ n. mid ≡ old ++ singly digest (filter (is_before start) (sibling_nodes start stop n left))) both.same
    (c.in_ok-append_nodes_before.ensures left both.at_left) in
    on_ok {P = new ≡ mid ++ singly digest (filter (is_before start) (sibling_nodes start stop c.children_of.result.1.first right))}
    c.append_nodes_before-2.result
    (λ grown. more_singly digest old mid new a b first
    (subst (λ n. new ≡ mid ++ singly digest (filter (is_before start) (sibling_nodes start stop n right))) both.middle grown)
    ∙ ap (λ ns. old ++ singly digest ns) (sym (two_before start stop at q left right met)))
    (c.append_nodes_before-2.ensures right both.at_right)
