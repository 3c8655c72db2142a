use Rattle.std.proofs.Common.{◌≡◌, ◌+◌, ℕ, suc, Some, length, map, sym, ◌∙◌, ap, subst, arith, rules}
use Rattle.std.proofs.lemmas.List.{length-map}
use Rattle.std.specs.Prelude.{IsSome}
use Rattle.merkle_forest.specs.Forest.{position}
use Rattle.merkle_forest.specs.Nodes.{IsBranchOf}
use Rattle.merkle_core_parts.specs.Mem.{encoded, known_over}
use Rattle.merkle_core_parts.specs.Laws.Growth.{parent-branch}
use Rattle.merkle_core_parts.specs.Laws.Made.{AreMade, known-child, left-kept, right-kept, made-branch, mapped-push}
use Rattle.merkle_memory.proofs.growth.push_parent.Goals as goal

pub child_positions-left-requires : goal.child_positions-left-requires
child_positions-left-requires g c =
    let parent = c.requires.parent in
    let at : c.args.base_size + c.len.result ≡ c.args.base_size + length c.args.added.now.items = search rules in (
      parent.left,
      parent.right,
      subst (λ p. IsBranchOf g.F.Family.merge_rule p c.args.height parent.left parent.right) (sym at)
          (parent-branch g.F.Family.merge_rule c.args.leaves _ c.args.height c.requires.few parent),
    )

pub digest_there-left-requires : goal.digest_there-left-requires
digest_there-left-requires g c =
    let encoding = g.H.Digest.Write.encoding in
    let rule = g.F.Family.merge_rule in
    let parent = c.requires.parent in
    let at : c.args.base_size + c.len.result ≡ c.args.base_size + length c.args.added.now.items = search rules in
    let children = c.child_positions-left.ensures parent.left parent.right
    (subst (λ p. IsBranchOf rule p c.args.height parent.left parent.right) (sym at)
    (parent-branch rule c.args.leaves _ c.args.height c.requires.few parent)) in
    subst (λ xs. IsSome (known_over c.args.base_size (encoded encoding c.args.peaks.now) (map encoding xs)
    c.child_positions-left.result.0)) (sym c.deref.ensures.value)
    (subst (λ p. IsSome (known_over c.args.base_size (encoded encoding c.args.peaks.now)
    (map encoding c.args.added.now.items) p)) (sym children.0)
    (known-child rule encoding c.args.base c.args.base_size
    (encoded encoding c.args.peaks.now) c.args.added.now.items (position parent.left) c.requires.sized
    c.requires.peaks
    (left-kept rule g.met.F.Family.merges_equals c.args.base c.args.leaves (c.args.base_size + length c.args.added.now.items) c.args.height c.requires.over
    (omega (arith, c.requires.sized)) parent)
    parent.left_before))

pub digest_there-right-requires : goal.digest_there-right-requires
digest_there-right-requires g c =
    let encoding = g.H.Digest.Write.encoding in
    let rule = g.F.Family.merge_rule in
    let parent = c.requires.parent in
    let at : c.args.base_size + c.len.result ≡ c.args.base_size + length c.args.added.now.items = search rules in
    let children = c.child_positions-left.ensures parent.left parent.right
    (subst (λ p. IsBranchOf rule p c.args.height parent.left parent.right) (sym at)
    (parent-branch rule c.args.leaves _ c.args.height c.requires.few parent)) in
    subst (λ xs. IsSome (known_over c.args.base_size (encoded encoding c.args.peaks.now) (map encoding xs)
    c.child_positions-left.result.1)) (sym c.deref-2.ensures.value)
    (subst (λ p. IsSome (known_over c.args.base_size (encoded encoding c.args.peaks.now)
    (map encoding c.args.added.now.items) p)) (sym children.1)
    (known-child rule encoding c.args.base c.args.base_size
    (encoded encoding c.args.peaks.now) c.args.added.now.items (position parent.right) c.requires.sized
    c.requires.peaks
    (right-kept rule g.met.F.Family.merges_equals c.args.base c.args.leaves (c.args.base_size + length c.args.added.now.items) c.args.height c.requires.over
    (omega (arith, c.requires.sized)) parent)
    parent.right_before))

pub returns-clause-made : goal.returns-clause-made
returns-clause-made g c after hashed made =
    let encoding = g.H.Digest.Write.encoding in
    let rule = g.F.Family.merge_rule in
    let node = g.H.Hasher.node_of c.args.hasher.now in
    let parent = c.requires.parent in
    let items = c.args.added.now.items in
    let peaks = encoded encoding c.args.peaks.now in
    let count : ℕ = c.args.base_size + length items in
    let x = encoding c.digest_there-left.result in
    let y = encoding c.digest_there-right.result in
    let at : c.args.base_size + c.len.result ≡ count = search rules in
    let children = c.child_positions-left.ensures parent.left parent.right
    (subst (λ p. IsBranchOf rule p c.args.height parent.left parent.right) (sym at)
    (parent-branch rule c.args.leaves count c.args.height c.requires.few parent)) in
    let is_x : known_over c.args.base_size peaks (map encoding items) (position parent.left) ≡ Some x =
    subst (λ p. known_over c.args.base_size peaks (map encoding items) p ≡ Some x) children.0
    (subst (λ xs. known_over c.args.base_size peaks (map encoding xs) c.child_positions-left.result.0 ≡ Some x)
    c.deref.ensures.value c.digest_there-left.ensures) in
    let is_y : known_over c.args.base_size peaks (map encoding items) (position parent.right) ≡ Some y =
    subst (λ p. known_over c.args.base_size peaks (map encoding items) p ≡ Some y) children.1
    (subst (λ xs. known_over c.args.base_size peaks (map encoding xs) c.child_positions-left.result.1 ≡ Some y)
    c.deref-2.ensures.value c.digest_there-right.ensures) in
    subst (λ ds. AreMade rule after c.args.base (suc c.args.leaves) (suc count) (known_over c.args.base_size peaks ds))
    (mapped-push encoding items c.push.new.self.items c.digest_of_branch.result c.in_ok-push.ensures.items)
    (made-branch rule g.met.F.Family.merges_equals node after c.args.base c.args.leaves c.args.base_size count
    c.args.height peaks (map encoding items) x y (encoding c.digest_of_branch.result) hashed made
    (omega (arith, length-map items encoding)) c.requires.sized c.requires.over parent is_x is_y
    (c.digest_of_branch.ensures ∙ ap (λ p. node p x y) at))
