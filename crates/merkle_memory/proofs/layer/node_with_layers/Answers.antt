use Rattle.std.proofs.Common.{◌≡◌, ◌-◌, ◌<◌, ◌+◌, ◌∷◌, [], suc, List, length, map, drop, sym, ◌∙◌, ap, refl, subst, arith, rules}
use Rattle.std.specs.Option.{option_map, option_or}
use Rattle.merkle_core_parts.specs.Layers.{oldest_leaves, with_layers, new_at}
use Rattle.merkle_core_parts.specs.Mem.{Layer, AreKeptNodes, node_count, node_at, value_after}
use Rattle.merkle_core_parts.specs.Laws.Batches.{shape-with}
use Rattle.merkle_core_parts.specs.Laws.Layers.{AreGrown, leaves_with, over-first, stacked-at, drop-at, drop-all}
use Rattle.merkle_core_parts.specs.Laws.Waiting.{node-with}
use Rattle.merkle_memory.proofs.layer.node_with_layers.Goals as goal

pub loop-newer-init : goal.loop-newer-init
loop-newer-init g c =
    let rule = g.F.Family.merge_rule in
    let own = c.args.own.now in
    let all = map (λ layer. layer.value) c.args.following.now in
    let oldest = oldest_leaves own.base.leaves all in
    let none : drop (length c.args.following.now) all ≡ [] = drop-all c.args.following.now (λ layer. layer.value) in
    record {
      within = omega arith;
      grown = λ nodes shape is. subst (λ (ls : List Layer). AreGrown rule (leaves_with oldest ls) (with_layers rule nodes ls))
          (sym none) (record { shape = shape; leaves = is });
      found = λ nodes shape is at.
          at ∙ sym (ap (λ (ls : List Layer). node_at rule (with_layers rule nodes ls) c.args.position) none);
    }

pub offset_bounds-following-newer : goal.offset_bounds-following-newer
offset_bounds-following-newer g c =
    let here : c.loop-newer.newer - 1 < length c.args.following.now =
    omega (arith, c.loop-newer-test.true, c.loop-newer.invariant.within) in
    search rules

pub bounds-following-newer : goal.bounds-following-newer
bounds-following-newer g c = omega (arith, c.loop-newer-test.true, c.loop-newer.invariant.within)

pub loop-newer-preserved : goal.loop-newer-preserved
loop-newer-preserved g c =
    let encoding = g.D.Write.encoding in
    let rule = g.F.Family.merge_rule in
    let own = c.args.own.now in
    let p = c.args.position in
    let layer : Layer = c.index-following-newer.result.value in
    let all = map (λ layer. layer.value) c.args.following.now in
    let oldest = oldest_leaves own.base.leaves all in
    let lt : c.loop-newer.newer - 1 < length c.args.following.now =
    omega (arith, c.loop-newer-test.true, c.loop-newer.invariant.within) in
    let it = stacked-at rule c.args.following.now (λ layer. layer.value) own.base.leaves (c.loop-newer.newer - 1)
    c.index-following-newer.result c.index-following-newer.result lt c.index-following-newer.is c.requires.stacked in
    let next : suc (c.loop-newer.newer - 1) ≡ c.loop-newer.newer = omega (arith, c.loop-newer-test.true) in
    let rest = drop c.loop-newer.newer all in
    let over : layer.base.leaves ≡ leaves_with oldest rest = it.over ∙ ap (λ n. leaves_with oldest (drop n all)) next in
    let split : drop (c.loop-newer.newer - 1) all ≡ layer ∷ rest =
    drop-at c.args.following.now (λ layer. layer.value) (c.loop-newer.newer - 1) c.index-following-newer.result
    c.index-following-newer.result lt c.index-following-newer.is
    ∙ ap (λ n. layer ∷ drop n all) next in
    record {
      within = omega (arith, lt);
      grown = λ nodes shape is.
          (let before = c.loop-newer.invariant.grown nodes shape is in
          let same : (with_layers rule nodes rest).leaves ≡ layer.base.leaves = before.leaves ∙ sym over in
          let after : AreGrown rule (leaves_with oldest (layer ∷ rest)) (with_layers rule nodes (layer ∷ rest)) = record {
            shape = shape-with rule (with_layers rule nodes rest) layer before.shape (omega (arith, same, it.whole.grown))
                (ap (λ n. node_count rule n + length layer.digests) same ∙ it.whole.counted);
            leaves = refl;
          } in
          subst (λ (ls : List Layer). AreGrown rule (leaves_with oldest ls) (with_layers rule nodes ls)) (sym split) after);
      found = λ nodes shape is at.
          (let before = c.loop-newer.invariant.grown nodes shape is in
          let same : (with_layers rule nodes rest).leaves ≡ layer.base.leaves = before.leaves ∙ sym over in
          c.node_with-found.ensures
          ∙ ap (λ (l : Layer). option_map (value_after l.changed p)
          (option_or (option_map encoding c.loop-newer.found) (new_at rule l p))) c.deref.ensures
          ∙ ap (λ o. option_map (value_after layer.changed p) (option_or o (new_at rule layer p)))
          (c.loop-newer.invariant.found nodes shape is at)
          ∙ sym (node-with rule (with_layers rule nodes rest) layer p before.shape same)
          ∙ sym (ap (λ (ls : List Layer). node_at rule (with_layers rule nodes ls) p) split));
    }

pub returns : goal.returns
returns g c nodes shape is at =
    let encoding = g.D.Write.encoding in
    let rule = g.F.Family.merge_rule in
    let own = c.args.own.now in
    let p = c.args.position in
    let all = map (λ layer. layer.value) c.args.following.now in
    let oldest = oldest_leaves own.base.leaves all in
    let none : c.loop-newer.newer ≡ 0 = omega (arith, c.loop-newer-test.false) in
    let whole : drop c.loop-newer.newer all ≡ all = ap (λ n. drop n all) none in
    let before = c.loop-newer.invariant.grown nodes shape is in
    let same : (with_layers rule nodes all).leaves ≡ own.base.leaves =
    ap (λ (ls : List Layer). (with_layers rule nodes ls).leaves) (sym whole) ∙ before.leaves
    ∙ ap (leaves_with oldest) whole
    ∙ sym (over-first rule own.base.leaves all c.requires.stacked) in
    c.node_with.ensures
    ∙ ap (λ o. option_map (value_after own.changed p) (option_or o (new_at rule own p)))
    (c.loop-newer.invariant.found nodes shape is at
    ∙ ap (λ (ls : List Layer). node_at rule (with_layers rule nodes ls) p) whole)
    ∙ sym (node-with rule (with_layers rule nodes all) own p
    (subst (λ (ls : List Layer). AreKeptNodes rule (with_layers rule nodes ls)) whole before.shape) same)
