use Rattle.std.proofs.Common.{◌≡◌, ℕ, ◌+◌, List, map, None, Some, sym, ◌∙◌, ap, ap₂, subst, arith, replicate}
use Rattle.merkle_forest.specs.Forest.{leaf, branch, leaf_count, forest_of}
use Rattle.merkle_forest.specs.Laws.Peaks.{located_from-zero}
use Rattle.merkle_theory.specs.MadeRoots.{peaks_of}
use Rattle.merkle_theory.specs.Pinned.{at_peak, pinned_digest}
use Rattle.merkle_theory.specs.Plans.{Lookup}
use Rattle.merkle_theory.specs.Ranges.{Digests}
use Rattle.merkle_theory.proofs.Pins.{pinned_here, not_pinned, made_of_two}
use Rattle.merkle_theory.proofs.Places.{first_of}
use Rattle.merkle_proofs.proofs.pinned.+digest_before.Goals as goal

pub digest_at_peak-requires-clause-begins : goal.digest_at_peak-requires-clause-begins
digest_at_peak-requires-clause-begins g t c some = first_of g.F.Family.merge_rule g.met.F.Family.merges_equals c.args.pins.now.start some

pub returns-in-Some : goal.returns-in-Some
returns-in-Some g t c node tree =
    let rule = g.F.Family.merge_rule in
    let enc = g.H.Digest.Write.encoding in
    let node_of = g.H.Hasher.node_of c.args.pins.now.hasher.now in
    let none : List ℕ = replicate g.H.Digest.FixedSize.SIZE 0 in
    let forest = forest_of rule c.args.pins.now.start in
    let pinned = map enc c.args.pins.now.digests.now in
    let known : Lookup = at_peak (peaks_of rule c.args.pins.now.start) pinned in
    let at = c.args.subtree.first in
    let p = c.args.subtree.position in
    let is : known p ≡ Some (enc c.in-Some.pinned) = sym (c.in-Some.ensures ∙ ap (λ ps. at_peak ps pinned p) (located_from-zero forest)) in
    sym (pinned_here node_of none known at p node (enc c.in-Some.pinned) tree.subtree is)

pub returns-then-subtree-eq0 : goal.returns-then-subtree-eq0
returns-then-subtree-eq0 g t c node tree =
    let rule = g.F.Family.merge_rule in
    let enc = g.H.Digest.Write.encoding in
    let node_of = g.H.Hasher.node_of c.args.pins.now.hasher.now in
    let none : List ℕ = replicate g.H.Digest.FixedSize.SIZE 0 in
    let forest = forest_of rule c.args.pins.now.start in
    let pinned = map enc c.args.pins.now.digests.now in
    let known : Lookup = at_peak (peaks_of rule c.args.pins.now.start) pinned in
    let at = c.args.subtree.first in
    let p = c.args.subtree.position in
    let is : known p ≡ None = sym (c.in_default.ensures ∙ ap (λ ps. at_peak ps pinned p) (located_from-zero forest)) in
    c.empty.ensures ∙ sym (not_pinned node_of none known at p c.args.subtree.height node tree.subtree tree.level c.if-subtree-eq0.true is)

pub returns : goal.returns
returns g t c (leaf q) tree = absurd (omega (arith, tree.level, c.if-subtree-eq0.false))
returns g t c (branch q left right) tree =
    let rule = g.F.Family.merge_rule in
    let enc = g.H.Digest.Write.encoding in
    let node_of = g.H.Hasher.node_of c.args.pins.now.hasher.now in
    let none : List ℕ = replicate g.H.Digest.FixedSize.SIZE 0 in
    let forest = forest_of rule c.args.pins.now.start in
    let pinned = map enc c.args.pins.now.digests.now in
    let known : Lookup = at_peak (peaks_of rule c.args.pins.now.start) pinned in
    let at = c.args.subtree.first in
    let p = c.args.subtree.position in
    let is : known p ≡ None = sym (c.in_default.ensures ∙ ap (λ ps. at_peak ps pinned p) (located_from-zero forest)) in
    let digest : Digests = pinned_digest node_of none known in
    let both = c.children_of.ensures.children q left right tree in
    let left_is : enc c.digest_before-left_digest.result ≡ digest at left =
    subst (λ n. enc c.digest_before-left_digest.result ≡ digest n left) both.same (c.digest_before-left_digest.ensures left both.at_left) in
    let right_is : enc c.digest_before-right_digest.result ≡ digest (at + leaf_count left) right =
    subst (λ n. enc c.digest_before-right_digest.result ≡ digest n right) both.middle (c.digest_before-right_digest.ensures right both.at_right) in
    c.digest_of_branch.ensures ∙ ap₂ (node_of p) left_is right_is
    ∙ ap (λ n. node_of n (digest at left) (digest (at + leaf_count left) right)) tree.subtree
    ∙ sym (made_of_two node_of none known at p q left right tree.subtree is)
