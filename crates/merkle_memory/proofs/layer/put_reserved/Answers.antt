use Rattle.std.proofs.Common.{◌≡◌, ◌-◌, ◌<◌, ◌++◌, ◌∷◌, [], ℕ, suc, List, length, map, drop, sym, ◌∙◌, ap, arith, rules}
use Rattle.merkle_forest.specs.Laws.ForestGrowth.{size-mono}
use Rattle.merkle_core_parts.specs.Layers.{oldest_leaves, with_layers}
use Rattle.merkle_core_parts.specs.Mem.{Layer, Replacement, node_count, encoded, replaced_at, replaced_from}
use Rattle.merkle_core_parts.specs.Laws.Layers.{leaves_with, over-first, stacked-at, drop-at, drop-all, layers-boundary}
use Rattle.merkle_memory.proofs.layer.put_reserved.Goals as goal

pub loop-left-init : goal.loop-left-init
loop-left-init g c =
    let rule = g.F.Family.merge_rule in
    let own = c.args.own.now in
    let all = map (λ layer. layer.value) c.args.following.now in
    let oldest = oldest_leaves own.base.leaves all in
    let none : drop (length c.args.following.now) all ≡ [] = drop-all c.args.following.now (λ layer. layer.value) in
    let top : node_count rule (leaves_with oldest (drop (length c.args.following.now) all)) ≡ node_count rule oldest =
    ap (λ ls. node_count rule (leaves_with oldest ls)) none in
    record {
      within = omega arith;
      counted = omega (arith, top, c.requires.counted);
      room = c.requires.room;
      applied = λ nodes at pinned digests. (
        pinned ∙ sym (ap (λ (ls : List Layer). (with_layers rule nodes ls).pinned) none),
        digests ∙ sym (ap (λ (ls : List Layer). (with_layers rule nodes ls).digests) none),
      );
    }

pub offset_bounds-following-left : goal.offset_bounds-following-left
offset_bounds-following-left g c =
    let here : c.loop-left.left - 1 < length c.args.following.now =
    omega (arith, c.loop-left-test.true, c.loop-left.invariant.within) in
    search rules

pub bounds-following-left : goal.bounds-following-left
bounds-following-left g c = omega (arith, c.loop-left-test.true, c.loop-left.invariant.within)

pub put_layer-requires : goal.put_layer-requires
put_layer-requires g c =
    let rule = g.F.Family.merge_rule in
    let own = c.args.own.now in
    let layer : Layer = c.index-following-left.result.value in
    let all = map (λ layer. layer.value) c.args.following.now in
    let oldest = oldest_leaves own.base.leaves all in
    let it = stacked-at rule c.args.following.now (λ layer. layer.value) own.base.leaves (c.loop-left.left - 1)
    c.index-following-left.result c.index-following-left.result
    (omega (arith, c.loop-left-test.true, c.loop-left.invariant.within)) c.index-following-left.is c.requires.stacked in
    let next : suc (c.loop-left.left - 1) ≡ c.loop-left.left = omega (arith, c.loop-left-test.true) in
    let top : node_count rule layer.base.leaves ≡ node_count rule (leaves_with oldest (drop c.loop-left.left all)) =
    ap (node_count rule) it.over ∙ ap (λ n. node_count rule (leaves_with oldest (drop n all))) next in
    record {
      room = omega (
        arith,
        ap (λ (l : Layer). length l.digests) c.deref.ensures,
        top,
        it.whole.counted,
        c.loop-left.invariant.counted,
        c.loop-left.invariant.room,
        size-mono rule g.met.F.Family.merges_equals layer.leaves own.leaves (omega (arith, it.under, c.requires.whole.grown)),
      );
    }

pub loop-left-preserved : goal.loop-left-preserved
loop-left-preserved g c =
    let encoding = g.D.Write.encoding in
    let rule = g.F.Family.merge_rule in
    let own = c.args.own.now in
    let layer : Layer = c.index-following-left.result.value in
    let all = map (λ layer. layer.value) c.args.following.now in
    let oldest = oldest_leaves own.base.leaves all in
    let lt : c.loop-left.left - 1 < length c.args.following.now =
    omega (arith, c.loop-left-test.true, c.loop-left.invariant.within) in
    let it = stacked-at rule c.args.following.now (λ layer. layer.value) own.base.leaves (c.loop-left.left - 1)
    c.index-following-left.result c.index-following-left.result lt c.index-following-left.is c.requires.stacked in
    let next : suc (c.loop-left.left - 1) ≡ c.loop-left.left = omega (arith, c.loop-left-test.true) in
    let top : node_count rule layer.base.leaves ≡ node_count rule (leaves_with oldest (drop c.loop-left.left all)) =
    ap (node_count rule) it.over ∙ ap (λ n. node_count rule (leaves_with oldest (drop n all))) next in
    let rest = drop c.loop-left.left all in
    let split : drop (c.loop-left.left - 1) all ≡ layer ∷ rest =
    drop-at c.args.following.now (λ layer. layer.value) (c.loop-left.left - 1) c.index-following-left.result
    c.index-following-left.result lt c.index-following-left.is
    ∙ ap (λ n. layer ∷ drop n all) next in
    record {
      within = omega (arith, lt);
      counted = omega (
        arith,
        ap (λ ls. node_count rule (leaves_with oldest ls)) split,
        c.put_layer.ensures.counted,
        ap (λ (l : Layer). length l.digests) c.deref.ensures,
        top,
        it.whole.counted,
        c.loop-left.invariant.counted,
      );
      room = omega (arith, c.loop-left.invariant.room, c.put_layer.ensures.room);
      applied = λ nodes at pinned digests.
          (let before = c.loop-left.invariant.applied nodes at pinned digests in (
            c.put_layer.ensures.pinned
                ∙ ap (λ (l : Layer). replaced_at (encoded encoding c.loop-left.pinned.items) l.changed) c.deref.ensures
                ∙ ap (λ (us : List Replacement). replaced_at us layer.changed) before.0
                ∙ sym (ap (λ (ls : List Layer). (with_layers rule nodes ls).pinned) split),
            c.put_layer.ensures.digests
                ∙ ap (λ (l : Layer). replaced_from c.args.start (map encoding c.loop-left.digests.items ++ l.digests) l.changed)
                c.deref.ensures
                ∙ ap (λ (ds : List (List ℕ)). replaced_from c.args.start (ds ++ layer.digests) layer.changed) before.1
                ∙ ap (λ (s : ℕ). replaced_from s ((with_layers rule nodes rest).digests ++ layer.digests) layer.changed)
                (at ∙ ap (node_count rule) (sym (layers-boundary rule nodes rest)))
                ∙ sym (ap (λ (ls : List Layer). (with_layers rule nodes ls).digests) split),
          ));
    }

pub put_layer-requires-2 : goal.put_layer-requires-2
put_layer-requires-2 g c =
    let rule = g.F.Family.merge_rule in
    let own = c.args.own.now in
    let all = map (λ layer. layer.value) c.args.following.now in
    let oldest = oldest_leaves own.base.leaves all in
    let none : c.loop-left.left ≡ 0 = omega (arith, c.loop-left-test.false) in
    let top : node_count rule own.base.leaves ≡ node_count rule (leaves_with oldest (drop c.loop-left.left all)) =
    ap (node_count rule) (over-first rule own.base.leaves all c.requires.stacked)
    ∙ ap (λ n. node_count rule (leaves_with oldest (drop n all))) (sym none) in
    record {
      room = omega (
        arith,
        top,
        c.requires.whole.counted,
        c.loop-left.invariant.counted,
        c.loop-left.invariant.room,
      );
    }

pub returns : goal.returns
returns g c =
    let encoding = g.D.Write.encoding in
    let rule = g.F.Family.merge_rule in
    let own = c.args.own.now in
    let all = map (λ layer. layer.value) c.args.following.now in
    let none : c.loop-left.left ≡ 0 = omega (arith, c.loop-left-test.false) in
    record {
      applied = λ nodes at pinned digests.
          (let before = c.loop-left.invariant.applied nodes at pinned digests in (
            c.put_layer-2.ensures.pinned
                ∙ ap (λ (us : List Replacement). replaced_at us own.changed)
                (before.0 ∙ ap (λ n. (with_layers rule nodes (drop n all)).pinned) none),
            c.put_layer-2.ensures.digests
                ∙ ap (λ (ds : List (List ℕ)). replaced_from c.args.start (ds ++ own.digests) own.changed)
                (before.1 ∙ ap (λ n. (with_layers rule nodes (drop n all)).digests) none)
                ∙ ap (λ (s : ℕ). replaced_from s ((with_layers rule nodes all).digests ++ own.digests) own.changed)
                (at ∙ ap (node_count rule) (sym (layers-boundary rule nodes all))),
          ));
    }
