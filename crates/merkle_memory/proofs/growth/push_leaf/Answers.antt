use Rattle.std.proofs.Common.{◌≡◌, ◌+◌, ◌∷◌, [], suc, length, map, sym, ◌∙◌, ap, subst, arith, length-append}
use Rattle.std.proofs.lemmas.List.{length-map}
use Rattle.merkle_forest.specs.Forest.{forest_of}
use Rattle.merkle_forest.specs.Laws.ForestGrowth.{size_bound, leaves-forest_of}
use Rattle.merkle_forest.specs.Laws.Parents.{length-range}
use Rattle.merkle_core_parts.specs.Mem.{encoded, node_count, known_over}
use Rattle.merkle_core_parts.specs.Laws.Growth.{IsParent, parent}
use Rattle.merkle_core_parts.specs.Laws.Rebuilt.{Digests}
use Rattle.merkle_core_parts.specs.Laws.Made.{AreMade, made-leaf, mapped-push}
use Rattle.merkle_memory.proofs.growth.push_leaf.Goals as goal

pub loop-index-init : goal.loop-index-init
loop-index-init g c =
    let encoding = g.H.Digest.Write.encoding in
    let rule = g.F.Family.merge_rule in
    let items = c.args.added.now.items in
    let after_items = c.push.new.self.items in
    let peaks = encoded encoding c.args.peaks.now in
    let longer : length after_items ≡ length items + 1 =
    ap length c.in_ok-push.ensures.items ∙ length-append items (c.args.digest ∷ []) in
    record {
      counted = omega (arith, longer, c.requires.counted);
      made = λ (after : Digests) hashed is made.
          (let count : suc (node_count rule c.args.leaves) ≡ c.args.base_size + length after_items =
          omega (arith, longer, c.requires.counted) in
          subst (λ n. AreMade rule after c.args.base (suc c.args.leaves) n
          (known_over c.args.base_size peaks (map encoding after_items))) count
          (subst (λ ds. AreMade rule after c.args.base (suc c.args.leaves) (suc (node_count rule c.args.leaves))
          (known_over c.args.base_size peaks ds))
          (mapped-push encoding items after_items c.args.digest c.in_ok-push.ensures.items)
          (made-leaf rule g.met.F.Family.merges_equals after c.args.base c.args.leaves c.args.base_size peaks
          (map encoding items) (encoding c.args.digest) made
          (omega (arith, c.requires.counted, length-map items encoding)) is)));
    }

pub push_parent-requires-clause-small : goal.push_parent-requires-clause-small
push_parent-requires-clause-small g c =
    let rule = g.F.Family.merge_rule in
    omega (
      arith,
      c.loop-index.invariant.counted,
      c.parent_range-first.ensures.low,
      c.requires.few,
      size_bound (forest_of rule c.args.leaves),
      leaves-forest_of rule g.met.F.Family.merges_equals c.args.leaves,
    )

pub push_parent-requires-clause-parent : goal.push_parent-requires-clause-parent
push_parent-requires-clause-parent g c =
    let rule = g.F.Family.merge_rule in
    subst (λ p. IsParent rule c.args.leaves p (c.parent_range-first.result.0 + c.loop-index.index))
    (sym c.loop-index.invariant.counted)
    (parent rule g.met.F.Family.merges_equals c.args.leaves c.parent_range-first.result.0
    c.parent_range-first.result.1 c.loop-index.index c.parent_range-first.ensures.parents c.loop-index-test.true)

pub loop-index-preserved : goal.loop-index-preserved
loop-index-preserved g c =
    let encoding = g.H.Digest.Write.encoding in
    let rule = g.F.Family.merge_rule in
    let peaks = encoded encoding c.args.peaks.now in
    record {
      counted = omega (arith, c.loop-index.invariant.counted, c.in_ok-push_parent.ensures.counted);
      made = λ (after : Digests) hashed is made.
          (let count : suc (c.args.base_size + length c.loop-index.added.items)
          ≡ c.args.base_size + length c.push_parent.new.added.items =
          omega (arith, c.in_ok-push_parent.ensures.counted) in
          subst (λ n. AreMade rule after c.args.base (suc c.args.leaves) n
          (known_over c.args.base_size peaks (map encoding c.push_parent.new.added.items))) count
          (c.in_ok-push_parent.ensures.made after hashed (c.loop-index.invariant.made after hashed is made)));
    }

pub returns-clause-counted : goal.returns-clause-counted
returns-clause-counted g c =
    omega (
      arith,
      c.loop-index.invariant.counted,
      c.parent_range-first.ensures.parents.0,
      length-range c.parent_range-first.result.0 c.parent_range-first.result.1,
    )

pub returns-clause-made : goal.returns-clause-made
returns-clause-made g c after hashed is made =
    let encoding = g.H.Digest.Write.encoding in
    let rule = g.F.Family.merge_rule in
    let count : c.args.base_size + length c.loop-index.added.items ≡ node_count rule (suc c.args.leaves) =
    omega (
      arith,
      c.loop-index.invariant.counted,
      c.parent_range-first.ensures.parents.0,
      length-range c.parent_range-first.result.0 c.parent_range-first.result.1,
    ) in
    subst (λ n. AreMade rule after c.args.base (suc c.args.leaves) n
    (known_over c.args.base_size (encoded encoding c.args.peaks.now) (map encoding c.loop-index.added.items))) count
    (c.loop-index.invariant.made after hashed is made)
