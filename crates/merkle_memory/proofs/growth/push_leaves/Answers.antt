use Rattle.std.proofs.Common.{◌≡◌, ◌+◌, suc, Some, length, map, sym, ◌∙◌, ap, subst, arith}
use Rattle.std.specs.Prelude.{slice_get}
use Rattle.merkle_forest.specs.Forest.{leaf}
use Rattle.merkle_core_parts.specs.Mem.{encoded, node_count, known_over}
use Rattle.merkle_core_parts.specs.Laws.Rebuilt.{Digests}
use Rattle.merkle_core_parts.specs.Laws.Made.{AreMade, get-item}
use Rattle.merkle_memory.proofs.growth.push_leaves.Goals as goal

pub loop-digest-preserved : goal.loop-digest-preserved
loop-digest-preserved g c =
    let encoding = g.H.Digest.Write.encoding in
    let rule = g.F.Family.merge_rule in
    let known = known_over c.args.base_size (encoded encoding c.args.peaks.now)
    (map encoding c.push_leaf.new.added.items) in
    let next : suc c.loop-digest.leaves ≡ c.loop-digest.leaves + 1 = omega arith in
    record {
      total = omega (arith, c.loop-digest.invariant.total);
      counted = c.in_ok-push_leaf.ensures.counted
          ∙ ap (node_count rule) next;
      made = λ (after : Digests) hashed leaves base.
          (let there : slice_get (map encoding c.args.digests.now) c.loop-digest.digest-index
          ≡ Some (encoding c.digest-item.result) =
          get-item encoding c.args.digests.now c.loop-digest.digest-index c.digest-item.result
          (omega (arith, c.loop-digest-test.true)) c.digest-item.is in
          let is : after c.loop-digest.leaves (leaf (node_count rule c.loop-digest.leaves))
          ≡ encoding c.digest-item.result =
          subst (λ n. after n (leaf (node_count rule n)) ≡ encoding c.digest-item.result)
          (sym c.loop-digest.invariant.total) (leaves c.loop-digest.digest-index _ there) in
          subst (λ n. AreMade rule after c.args.base n (node_count rule n) known) next
          (c.in_ok-push_leaf.ensures.made after hashed is (c.loop-digest.invariant.made after hashed leaves base)));
    }

pub returns-clause-made : goal.returns-clause-made
returns-clause-made g c after hashed leaves base =
    let encoding = g.H.Digest.Write.encoding in
    let rule = g.F.Family.merge_rule in
    let all : c.loop-digest.leaves ≡ c.args.base + length c.args.digests.now =
    omega (arith, c.loop-digest.invariant.total, c.loop-digest-test.false, c.loop-digest.auto.digest-index-end) in
    subst (λ n. AreMade rule after c.args.base n (node_count rule n)
    (known_over c.args.base_size (encoded encoding c.args.peaks.now) (map encoding c.loop-digest.added.items))) all
    (c.loop-digest.invariant.made after hashed leaves base)
