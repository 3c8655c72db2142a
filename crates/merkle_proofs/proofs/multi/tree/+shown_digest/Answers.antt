use Rattle.std.proofs.Common.{◌≡◌, ℕ, [], map, drop, get_or, None, Some, option_map, sym, ◌∙◌, ap, subst, arith}
use Rattle.merkle_forest.specs.Forest.{leaf, branch}
use Rattle.merkle_forest.specs.Made.{value}
use Rattle.merkle_theory.specs.MultiReads.{shown_in, shown_at, locations_of, ranked, read_shown}
use Rattle.merkle_theory.proofs.RangeTrees.{no_digest}
use Rattle.merkle_theory.proofs.ShownWalks.{nothing_shown, leaf_shown, left_absent, right_absent, both_shown, some_shown, first_of, left_of, right_of}
use Rattle.merkle_proofs.proofs.multi.tree.+shown_digest.Goals as goal

pub returns-in_default : goal.returns-in_default
returns-in_default g t c node over shown needed all tree by is =
    let known = ranked needed (map g.H.Digest.Write.encoding c.args.known.now.digests.now) in
    let none : c.args.elements.now ≡ [] = no_digest c.args.elements.now (omega (arith, c.in_default.len_below)) in
    c.known_digest.ensures needed all
    ∙ sym (nothing_shown g.F.Family.merge_rule g.H.Hasher.hash_of over known c.args.subtree.first
    c.args.subtree.position c.args.subtree.height node shown
    tree (sym is ∙ ap (map (λ e. (e.0.now, e.1))) none))

pub returns-then-subtree-eq0 : goal.returns-then-subtree-eq0
returns-then-subtree-eq0 g t c node over shown needed all tree by is =
    let known = ranked needed (map g.H.Digest.Write.encoding c.args.known.now.digests.now) in
    let e = get_or c.args.elements.now 0 c.index-elements-0.result in
    ap (λ d. Some d) c.digest_of_leaf.ensures
    ∙ sym (leaf_shown g.F.Family.merge_rule g.H.Hasher.hash_of over known c.args.subtree.first
    c.args.subtree.position c.args.subtree.height
    (g.H.Hasher.leaf_of c.args.hasher.now) (g.H.Hasher.node_of c.args.hasher.now) by node (e.0.now, e.1) shown
    (map (λ e. (e.0.now, e.1)) (drop 1 c.args.elements.now)) tree c.if-subtree-eq0.true
    (sym is ∙ first_of (λ e. (e.0.now, e.1)) c.args.elements.now c.index-elements-0.result (omega
    (arith, c.in-len1-up.len_at_least))))

pub returns-in_err-left_digest : goal.returns-in_err-left_digest
returns-in_err-left_digest g t c (leaf q) over shown needed all tree by is = absurd (omega
    (arith, tree.level, c.if-subtree-eq0.false))
returns-in_err-left_digest g t c (branch q left right) over shown needed all tree by is =
    let rule = g.F.Family.merge_rule in
    let hash = g.H.Hasher.hash_of in
    let at = c.args.subtree.first in
    let known = ranked needed (map g.H.Digest.Write.encoding c.args.known.now.digests.now) in
    let elements = c.args.elements.now in
    let some = some_shown (λ e. (e.0.now, e.1)) elements (shown_in (at, branch q left right) shown) (omega
    (arith, c.in-len1-up.len_at_least)) is in
    let both = c.children_of.ensures.children q left right tree in
    let own = left_of (λ e. (e.0.now, e.1)) elements c.split_before.result.0.now c.children_of.result.1.first at q
    left right shown
    c.split_before.ensures.before both.middle is in
    let First : ℕ → Type 0 = λ n. map (λ e. (e.0.now, e.1)) c.split_before.result.0.now ≡ shown_in (n, left) shown
    → None ≡ option_map (value hash) (read_shown over (shown_at shown) (locations_of shown) known n left) in
    ap (option_map _) c.from_residual.ensures
    ∙ sym (left_absent rule hash over known at c.args.subtree.position c.args.subtree.height
    (g.H.Hasher.leaf_of c.args.hasher.now) (g.H.Hasher.node_of c.args.hasher.now) by q left right shown tree some
    (sym (subst First both.same (λ there. c.in_err-left_digest.ensures left over shown needed all both.at_left by
    there) own)))

pub returns-in_err-right_digest : goal.returns-in_err-right_digest
returns-in_err-right_digest g t c (leaf q) over shown needed all tree by is = absurd (omega
    (arith, tree.level, c.if-subtree-eq0.false))
returns-in_err-right_digest g t c (branch q left right) over shown needed all tree by is =
    let rule = g.F.Family.merge_rule in
    let hash = g.H.Hasher.hash_of in
    let at = c.args.subtree.first in
    let known = ranked needed (map g.H.Digest.Write.encoding c.args.known.now.digests.now) in
    let elements = c.args.elements.now in
    let some = some_shown (λ e. (e.0.now, e.1)) elements (shown_in (at, branch q left right) shown) (omega
    (arith, c.in-len1-up.len_at_least)) is in
    let both = c.children_of.ensures.children q left right tree in
    let own = right_of (λ e. (e.0.now, e.1)) elements c.split_before.result.1.now c.children_of.result.1.first at q
    left right shown
    c.split_before.ensures.after both.middle is in
    let Second : ℕ → Type 0 = λ n. map (λ e. (e.0.now, e.1)) c.split_before.result.1.now ≡ shown_in (n, right) shown
    → None ≡ option_map (value hash) (read_shown over (shown_at shown) (locations_of shown) known n right) in
    ap (option_map _) c.from_residual-in_err-right_digest.ensures
    ∙ sym (right_absent rule hash over known at c.args.subtree.position c.args.subtree.height
    (g.H.Hasher.leaf_of c.args.hasher.now) (g.H.Hasher.node_of c.args.hasher.now) by q left right shown tree some
    (sym (subst Second both.middle
    (λ there. c.in_err-right_digest.ensures right over shown needed all both.at_right by there) own)))

pub returns : goal.returns
returns g t c (leaf q) over shown needed all tree by is = absurd (omega (arith, tree.level, c.if-subtree-eq0.false))
returns g t c (branch q left right) over shown needed all tree by is =
    let rule = g.F.Family.merge_rule in
    let hash = g.H.Hasher.hash_of in
    let enc = g.H.Digest.Write.encoding in
    let at = c.args.subtree.first in
    let known = ranked needed (map enc c.args.known.now.digests.now) in
    let elements = c.args.elements.now in
    let some = some_shown (λ e. (e.0.now, e.1)) elements (shown_in (at, branch q left right) shown) (omega
    (arith, c.in-len1-up.len_at_least)) is in
    let both = c.children_of.ensures.children q left right tree in
    let before = left_of (λ e. (e.0.now, e.1)) elements c.split_before.result.0.now c.children_of.result.1.first at q
    left right shown
    c.split_before.ensures.before both.middle is in
    let after = right_of (λ e. (e.0.now, e.1)) elements c.split_before.result.1.now c.children_of.result.1.first at q
    left right shown
    c.split_before.ensures.after both.middle is in
    let a = enc c.in_ok-left_digest.left_digest in
    let b = enc c.in_ok-right_digest.right_digest in
    let First : ℕ → Type 0 = λ n. map (λ e. (e.0.now, e.1)) c.split_before.result.0.now ≡ shown_in (n, left) shown
    → Some a ≡ option_map (value hash) (read_shown over (shown_at shown) (locations_of shown) known n left) in
    let Second : ℕ → Type 0 = λ n. map (λ e. (e.0.now, e.1)) c.split_before.result.1.now ≡ shown_in (n, right) shown
    → Some b ≡ option_map (value hash) (read_shown over (shown_at shown) (locations_of shown) known n right) in
    ap (λ d. Some d) c.digest_of_branch.ensures
    ∙ sym (both_shown rule hash over known at c.args.subtree.position c.args.subtree.height
    (g.H.Hasher.leaf_of c.args.hasher.now) (g.H.Hasher.node_of c.args.hasher.now) by q left right shown tree some a b
    (sym (subst First both.same (λ there. c.in_ok-left_digest.ensures left over shown needed all both.at_left by
    there) before))
    (sym (subst Second both.middle
    (λ there. c.in_ok-right_digest.ensures right over shown needed all both.at_right by there) after)))
