use Rattle.std.proofs.Common.{◌≡◌, ℕ, ◌+◌, true, false, List, ◌++◌, length, map, drop, sym, ◌∙◌, ap, ap₂, subst, arith, append_assoc}
use Rattle.merkle_forest.specs.Forest.{leaf, branch, leaf_count}
use Rattle.merkle_core_parts.specs.Mem.{encoded}
use Rattle.merkle_proofs.specs.Extracted.{told_nodes, node_digests}
use Rattle.merkle_theory.specs.MadeTrees.{Elements, from}
use Rattle.merkle_theory.specs.Ranges.{meets, siblings}
use Rattle.merkle_proofs.proofs.Extractions.{pushed, told_out, given_out, given_low, given_branch, grown_branch}
use Rattle.merkle_theory.proofs.RangeTrees.{met_leaf, element_at}
use Rattle.merkle_proofs.proofs.extraction.+append_told.Goals as goal

pub returns-then-not-meets_range : goal.returns-then-not-meets_range
returns-then-not-meets_range g t c node digest rest tree made is =
    let enc = g.H.Digest.Write.encoding in
    let start = c.args.reader.now.start in
    let stop = start + length c.args.reader.now.elements.now in
    let at = c.args.subtree.first in
    let old = c.args.found.now.items in
    let out : meets start stop (at, node) ≡ false = sym (c.meets_range.ensures node tree) ∙ c.if-not-meets_range.true in
    let first = c.digest_at-given.ensures (digest at node) rest (is ∙ ap (λ ds. ds ++ rest) (given_out digest start stop at node out)) in (
      record { digest_is = first.0; left_is = first.1 },
      pushed enc old c.push.new.self.items _ _ _ _ c.in_ok-push.ensures.items (c.new.ensures ∙ tree.subtree) first.0
          ∙ ap (λ ns. encoded enc old ++ node_digests digest ns) (sym (told_out digest start stop at node out)),
    )

pub overflow_sub-element : goal.overflow_sub-element
overflow_sub-element g t c =
    let there = c.requires.stands in
    let start = c.args.reader.now.start in
    let stop = start + length c.args.reader.now.elements.now in
    let at = c.args.subtree.first in
    let met : meets start stop (at, there.0) ≡ true = sym (c.meets_range.ensures there.0 there.1) ∙ c.if-not-meets_range.false in
    let by = met_leaf start stop at c.args.subtree.height there.0 c.if-subtree-eq0.true there.1.level met in
    omega (arith, by.0, by.1)

pub bounds-reader-subtree : goal.bounds-reader-subtree
bounds-reader-subtree g t c =
    let there = c.requires.stands in
    let start = c.args.reader.now.start in
    let stop = start + length c.args.reader.now.elements.now in
    let at = c.args.subtree.first in
    let met : meets start stop (at, there.0) ≡ true = sym (c.meets_range.ensures there.0 there.1) ∙ c.if-not-meets_range.false in
    let by = met_leaf start stop at c.args.subtree.height there.0 c.if-subtree-eq0.true there.1.level met in
    omega (arith, by.0, by.1)

pub offset_bounds-reader-subtree : goal.offset_bounds-reader-subtree
offset_bounds-reader-subtree g t c =
    let there = c.requires.stands in
    let start = c.args.reader.now.start in
    let stop = start + length c.args.reader.now.elements.now in
    let at = c.args.subtree.first in
    let met : meets start stop (at, there.0) ≡ true = sym (c.meets_range.ensures there.0 there.1) ∙ c.if-not-meets_range.false in
    let by = met_leaf start stop at c.args.subtree.height there.0 c.if-subtree-eq0.true there.1.level met in
    omega (arith, by.0, by.1)

pub returns-then-subtree-eq0 : goal.returns-then-subtree-eq0
returns-then-subtree-eq0 g t c (branch q left right) digest rest tree made is = absurd (omega (arith, tree.level, c.if-subtree-eq0.true))
returns-then-subtree-eq0 g t c (leaf q) digest rest tree made is =
    let enc = g.H.Digest.Write.encoding in
    let start = c.args.reader.now.start in
    let stop = start + length c.args.reader.now.elements.now in
    let at = c.args.subtree.first in
    let leaf_of = g.H.Hasher.leaf_of c.args.reader.now.hasher.now in
    let elements : Elements = from start (map (λ e. e.now) c.args.reader.now.elements.now) in
    let old = c.args.found.now.items in
    let met : meets start stop (at, leaf q) ≡ true = sym (c.meets_range.ensures (leaf q) tree) ∙ c.if-not-meets_range.false in
    let by_range = met_leaf start stop at c.args.subtree.height (leaf q) c.if-subtree-eq0.true tree.level met in
    let element = element_at (λ e. e.now) c.args.reader.now.elements.now _ start at by_range.0 by_range.1 in
    let own : enc c.digest_of_leaf-digest.result ≡ digest at (leaf q) =
    c.digest_of_leaf-digest.ensures ∙ ap (leaf_of c.args.subtree.position) (sym element) ∙ ap (λ p. leaf_of p (elements at)) tree.subtree
    ∙ sym (made.leaf at q met) in (
      record {
        digest_is = own;
        left_is = is ∙ ap (λ ds. ds ++ rest)
            (given_low digest start stop at c.args.subtree.height (leaf q) c.if-subtree-eq0.true tree.level met);
      },
      pushed enc old c.push-then-subtree-eq0.new.self.items _ _ _ _ c.in_ok-push-2.ensures.items (c.new-then-subtree-eq0.ensures ∙ tree.subtree) own,
    )

pub returns : goal.returns
returns g t c (leaf q) digest rest tree made is = absurd (omega (arith, tree.level, c.if-subtree-eq0.false))
returns g t c (branch q left right) digest rest tree made is =
    let enc = g.H.Digest.Write.encoding in
    let node_of = g.H.Hasher.node_of c.args.reader.now.hasher.now in
    let start = c.args.reader.now.start in
    let stop = start + length c.args.reader.now.elements.now in
    let at = c.args.subtree.first in
    let after = at + leaf_count left in
    let old = c.args.found.now.items in
    let met : meets start stop (at, branch q left right) ≡ true = sym (c.meets_range.ensures (branch q left right) tree) ∙ c.if-not-meets_range.false in
    let both = c.children_of.ensures.children q left right tree in
    let more : List (List ℕ) = siblings digest start stop after right ++ rest in
    let parts : drop c.args.index (map enc c.args.digests.now) ≡ siblings digest start stop at left ++ more =
    is ∙ ap (λ ds. ds ++ rest) (given_branch digest start stop at q left right met)
    ∙ append_assoc (siblings digest start stop at left) (siblings digest start stop after right) rest in
    let one_parts = subst (λ n. drop c.args.index (map enc c.args.digests.now) ≡ siblings digest start stop n left ++ more) (sym both.same) parts in
    let first = c.in_ok-left_digest.ensures left digest more both.at_left made one_parts in
    let two_parts = subst (λ n. drop c.in_ok-left_digest.middle (map enc c.args.digests.now)
    ≡ siblings digest start stop n right ++ rest) (sym both.middle) first.0.left_is in
    let second = c.in_ok-right_digest.ensures right digest rest both.at_right made two_parts in
    let left_is : enc c.in_ok-left_digest.left_digest ≡ digest at left =
    subst (λ n. enc c.in_ok-left_digest.left_digest ≡ digest n left) both.same first.0.digest_is in
    let right_is : enc c.in_ok-right_digest.right_digest ≡ digest after right =
    subst (λ n. enc c.in_ok-right_digest.right_digest ≡ digest n right) both.middle second.0.digest_is in
    let own : enc c.digest_of_branch-own.result ≡ digest at (branch q left right) =
    c.digest_of_branch-own.ensures ∙ ap₂ (node_of c.args.subtree.position) left_is right_is
    ∙ ap (λ p. node_of p (digest at left) (digest after right)) tree.subtree ∙ sym (made.branch at q left right met) in (
      record { digest_is = own; left_is = second.0.left_is },
      grown_branch digest start stop at q left right (encoded enc old) (encoded enc c.append_told.new.found.items)
          (encoded enc c.append_told-2.new.found.items) (encoded enc c.push-2.new.self.items) met
          (subst (λ n. encoded enc c.append_told.new.found.items ≡ encoded enc old ++ node_digests digest (told_nodes start stop n left)) both.same first.1)
          (subst (λ n. encoded enc c.append_told-2.new.found.items ≡ encoded enc c.append_told.new.found.items
          ++ node_digests digest (told_nodes start stop n right)) both.middle second.1)
          (pushed enc c.append_told-2.new.found.items c.push-2.new.self.items _ _ _ _ c.in_ok-push-3.ensures.items (c.new-2.ensures ∙ tree.subtree) own),
    )
