use Rattle.std.proofs.Common.{◌≡◌, ℕ, ◌+◌, true, false, length, map, None, Some, option_map, sym, ◌∙◌, ap, subst, arith}
use Rattle.merkle_forest.specs.Forest.{leaf, branch}
use Rattle.merkle_theory.specs.Ranges.{meets}
use Rattle.merkle_theory.specs.MadeTrees.{Elements, from, given, read_tree}
use Rattle.merkle_theory.specs.Reads.{valued}
use Rattle.merkle_theory.proofs.RangeTrees.{read_given, leaf_value, left_missing, right_missing, both_there, met_leaf, no_digest, element_at}
use Rattle.merkle_proofs.proofs.verifying.tree.+subtree_digest.Goals as goal

pub returns-in_err-given : goal.returns-in_err-given
returns-in_err-given g t c node over tree by =
    let rule = g.F.Family.merge_rule in
    let hash = g.H.Hasher.hash_of in
    let leaf_of = g.H.Hasher.leaf_of c.args.hasher.now in
    let node_of = g.H.Hasher.node_of c.args.hasher.now in
    let enc = g.H.Digest.Write.encoding in
    let start = c.args.start in
    let stop = c.args.start + length c.args.elements.now in
    let at = c.args.subtree.first in
    let elements : Elements = from c.args.start (map (λ e. e.now) c.args.elements.now) in
    let out : meets start stop (at, node) ≡ false = sym (c.meets_range.ensures node tree) ∙ c.if-not-meets_range.true in
    ap (option_map _) c.from_residual.ensures
    ∙ sym (ap (valued hash) (read_given over elements start stop at node (map enc c.args.digests.now) out)
    ∙ ap (λ ds. valued hash (given (map enc ds))) (no_digest c.args.digests.now c.in_err-given.ensures.cases))

pub returns-then-not-meets_range : goal.returns-then-not-meets_range
returns-then-not-meets_range g t c node over tree by =
    let rule = g.F.Family.merge_rule in
    let hash = g.H.Hasher.hash_of in
    let leaf_of = g.H.Hasher.leaf_of c.args.hasher.now in
    let node_of = g.H.Hasher.node_of c.args.hasher.now in
    let enc = g.H.Digest.Write.encoding in
    let start = c.args.start in
    let stop = c.args.start + length c.args.elements.now in
    let at = c.args.subtree.first in
    let elements : Elements = from c.args.start (map (λ e. e.now) c.args.elements.now) in
    let out : meets start stop (at, node) ≡ false = sym (c.meets_range.ensures node tree) ∙ c.if-not-meets_range.true in
    sym (ap (valued hash) (read_given over elements start stop at node (map enc c.args.digests.now) out)
    ∙ ap (λ ds. valued hash (given (map enc ds))) c.in_ok-given.ensures.cases.0)

pub overflow_sub-element : goal.overflow_sub-element
overflow_sub-element g t c =
    let there = c.requires.stands in
    let start = c.args.start in
    let stop = c.args.start + length c.args.elements.now in
    let at = c.args.subtree.first in
    let met : meets start stop (at, there.0) ≡ true = sym (c.meets_range.ensures there.0 there.1) ∙ c.if-not-meets_range.false in
    let by = met_leaf start stop at c.args.subtree.height there.0 c.if-subtree-eq0.true there.1.level met in
    omega (arith, by.0, by.1)

pub bounds-elements-subtree : goal.bounds-elements-subtree
bounds-elements-subtree g t c =
    let there = c.requires.stands in
    let start = c.args.start in
    let stop = c.args.start + length c.args.elements.now in
    let at = c.args.subtree.first in
    let met : meets start stop (at, there.0) ≡ true = sym (c.meets_range.ensures there.0 there.1) ∙ c.if-not-meets_range.false in
    let by = met_leaf start stop at c.args.subtree.height there.0 c.if-subtree-eq0.true there.1.level met in
    omega (arith, by.0, by.1)

pub offset_bounds-elements-subtree : goal.offset_bounds-elements-subtree
offset_bounds-elements-subtree g t c =
    let there = c.requires.stands in
    let start = c.args.start in
    let stop = c.args.start + length c.args.elements.now in
    let at = c.args.subtree.first in
    let met : meets start stop (at, there.0) ≡ true = sym (c.meets_range.ensures there.0 there.1) ∙ c.if-not-meets_range.false in
    let by = met_leaf start stop at c.args.subtree.height there.0 c.if-subtree-eq0.true there.1.level met in
    omega (arith, by.0, by.1)

pub returns-then-subtree-eq0 : goal.returns-then-subtree-eq0
returns-then-subtree-eq0 g t c node over tree by =
    let rule = g.F.Family.merge_rule in
    let hash = g.H.Hasher.hash_of in
    let leaf_of = g.H.Hasher.leaf_of c.args.hasher.now in
    let node_of = g.H.Hasher.node_of c.args.hasher.now in
    let enc = g.H.Digest.Write.encoding in
    let start = c.args.start in
    let stop = c.args.start + length c.args.elements.now in
    let at = c.args.subtree.first in
    let elements : Elements = from c.args.start (map (λ e. e.now) c.args.elements.now) in
    let met : meets start stop (at, node) ≡ true = sym (c.meets_range.ensures node tree) ∙ c.if-not-meets_range.false in
    let by_range = met_leaf start stop at c.args.subtree.height node c.if-subtree-eq0.true tree.level met in
    let element = element_at (λ e. e.now) c.args.elements.now _ start at by_range.0 by_range.1 in
    ap (λ d. Some (d, map enc c.args.digests.now)) (c.digest_of_leaf.ensures ∙ ap (leaf_of c.args.subtree.position) (sym element))
    ∙ sym (leaf_value rule hash leaf_of node_of over elements start stop at c.args.subtree.position c.args.subtree.height node
    (map enc c.args.digests.now) by tree c.if-subtree-eq0.true met)

pub returns-in_err-left_digest : goal.returns-in_err-left_digest
returns-in_err-left_digest g t c (leaf q) over tree by = absurd (omega (arith, tree.level, c.if-subtree-eq0.false))
returns-in_err-left_digest g t c (branch q left right) over tree by =
    let rule = g.F.Family.merge_rule in
    let hash = g.H.Hasher.hash_of in
    let leaf_of = g.H.Hasher.leaf_of c.args.hasher.now in
    let node_of = g.H.Hasher.node_of c.args.hasher.now in
    let enc = g.H.Digest.Write.encoding in
    let start = c.args.start in
    let stop = c.args.start + length c.args.elements.now in
    let at = c.args.subtree.first in
    let elements : Elements = from c.args.start (map (λ e. e.now) c.args.elements.now) in
    let met : meets start stop (at, branch q left right) ≡ true = sym (c.meets_range.ensures (branch q left right) tree) ∙ c.if-not-meets_range.false in
    let both = c.children_of.ensures.children q left right tree in
    let First : ℕ → Type 0 = λ n. None ≡ valued hash (read_tree over elements start stop n left (map enc c.args.digests.now)) in
    ap (option_map _) c.from_residual-in_err-left_digest.ensures
    ∙ sym (left_missing rule hash leaf_of node_of over elements start stop at c.args.subtree.position q
    c.args.subtree.height left right (map enc c.args.digests.now) by tree met
    (sym (subst First both.same (c.in_err-left_digest.ensures left over both.at_left by))))

pub returns-in_err-right_digest : goal.returns-in_err-right_digest
returns-in_err-right_digest g t c (leaf q) over tree by = absurd (omega (arith, tree.level, c.if-subtree-eq0.false))
returns-in_err-right_digest g t c (branch q left right) over tree by =
    let rule = g.F.Family.merge_rule in
    let hash = g.H.Hasher.hash_of in
    let leaf_of = g.H.Hasher.leaf_of c.args.hasher.now in
    let node_of = g.H.Hasher.node_of c.args.hasher.now in
    let enc = g.H.Digest.Write.encoding in
    let start = c.args.start in
    let stop = c.args.start + length c.args.elements.now in
    let at = c.args.subtree.first in
    let elements : Elements = from c.args.start (map (λ e. e.now) c.args.elements.now) in
    let met : meets start stop (at, branch q left right) ≡ true = sym (c.meets_range.ensures (branch q left right) tree) ∙ c.if-not-meets_range.false in
    let both = c.children_of.ensures.children q left right tree in
    let a = enc c.in_ok-left_digest.left_digest in
    let rest = map enc c.in_ok-left_digest.rest.now in
    let First : ℕ → Type 0 = λ n. Some (a, rest) ≡ valued hash (read_tree over elements start stop n left (map enc c.args.digests.now)) in
    let Second : ℕ → Type 0 = λ n. None ≡ valued hash (read_tree over elements start stop n right rest) in
    ap (option_map _) c.from_residual-in_err-right_digest.ensures
    ∙ sym (right_missing rule hash leaf_of node_of over elements start stop at c.args.subtree.position q
    c.args.subtree.height left right (map enc c.args.digests.now) by tree met a rest
    (sym (subst First both.same (c.in_ok-left_digest.ensures left over both.at_left by)))
    (sym (subst Second both.middle (c.in_err-right_digest.ensures right over both.at_right by))))

pub returns : goal.returns
returns g t c (leaf q) over tree by = absurd (omega (arith, tree.level, c.if-subtree-eq0.false))
returns g t c (branch q left right) over tree by =
    let rule = g.F.Family.merge_rule in
    let hash = g.H.Hasher.hash_of in
    let leaf_of = g.H.Hasher.leaf_of c.args.hasher.now in
    let node_of = g.H.Hasher.node_of c.args.hasher.now in
    let enc = g.H.Digest.Write.encoding in
    let start = c.args.start in
    let stop = c.args.start + length c.args.elements.now in
    let at = c.args.subtree.first in
    let elements : Elements = from c.args.start (map (λ e. e.now) c.args.elements.now) in
    let met : meets start stop (at, branch q left right) ≡ true = sym (c.meets_range.ensures (branch q left right) tree) ∙ c.if-not-meets_range.false in
    let both = c.children_of.ensures.children q left right tree in
    let a = enc c.in_ok-left_digest.left_digest in
    let rest = map enc c.in_ok-left_digest.rest.now in
    let b = enc c.in_ok-right_digest.right_digest in
    let more = map enc c.in_ok-right_digest.rest.now in
    let First : ℕ → Type 0 = λ n. Some (a, rest) ≡ valued hash (read_tree over elements start stop n left (map enc c.args.digests.now)) in
    let Second : ℕ → Type 0 = λ n. Some (b, more) ≡ valued hash (read_tree over elements start stop n right rest) in
    ap (λ d. Some (d, more)) c.digest_of_branch-digest.ensures
    ∙ sym (both_there rule hash leaf_of node_of over elements start stop at c.args.subtree.position q
    c.args.subtree.height left right (map enc c.args.digests.now) by tree met a b rest more
    (sym (subst First both.same (c.in_ok-left_digest.ensures left over both.at_left by)))
    (sym (subst Second both.middle (c.in_ok-right_digest.ensures right over both.at_right by))))
