use Rattle.std.proofs.Common.{◌≡◌, ◌+◌, inl, inr, suc, Option, Some, None, map, sym, ◌∙◌, ap, arith}
use Rattle.std.proofs.lemmas.Bool.{cases_lt}
use Rattle.std.specs.Prelude.{slice_get}
use Rattle.merkle_core_parts.specs.Layers.{bases}
use Rattle.merkle_core_parts.specs.Mem.{Layer, Base, base_of}
use Rattle.merkle_core_parts.specs.Laws.Layers.{base-at, base-past}
use Rattle.merkle_memory.proofs.mem.Mem.following.Goals as goal

pub returns-then-is_base_of-2-clause-found : goal.returns-then-is_base_of-2-clause-found
returns-then-is_base_of-2-clause-found g c =
    let own = c.args.own.now.base in
    let next : c.loop-layer.count + 1 ≡ suc c.loop-layer.layer-index = omega (arith, c.loop-layer.invariant.counted) in
    record {
      there = ap (slice_get (bases own (map (λ layer. layer.value) c.args.below.now))) next
          ∙ base-at c.args.below.now (λ layer. layer.value) own c.loop-layer.layer-index c.layer-item.result c.layer-item.result
          (omega (arith, c.loop-layer-test.true)) c.layer-item.is
          ∙ ap (λ (l : Layer). Some l.base) (sym c.deref.ensures)
          ∙ ap (λ (b : Base). Some b) (c.is_base_of-in-loop-layer.ensures.0 c.if-is_base_of-2.true);
      none_before = c.loop-layer.invariant.none_before;
    }

pub loop-layer-preserved : goal.loop-layer-preserved
loop-layer-preserved g c =
    let own = c.args.own.now.base in
    let known = bases own (map (λ layer. layer.value) c.args.below.now) in
    let tree = base_of g.F.Family.merge_rule c.args.self.now in
    record {
      counted = omega (arith, c.loop-layer.invariant.counted);
      none_before = λ i lt same. elim (cases_lt i (c.loop-layer.count + 1)) [
        | inl low ↦ c.loop-layer.invariant.none_before i low same
        | inr high ↦
            (let next : i ≡ suc c.loop-layer.layer-index = omega (arith, lt, high, c.loop-layer.invariant.counted) in
            let here : ◌≡◌ {A = Option Base} (Some c.deref.result.now.base) (Some tree) =
            ap (λ (l : Layer). Some l.base) c.deref.ensures
            ∙ sym (base-at c.args.below.now (λ layer. layer.value) own c.loop-layer.layer-index c.layer-item.result
            c.layer-item.result (omega (arith, c.loop-layer-test.true)) c.layer-item.is)
            ∙ ap (slice_get known) (sym next) ∙ same in
            let is : c.deref.result.now.base ≡ tree = cc here in
            let yes = c.if-is_base_of-2.ensures.1 is in
            cc yes)
      ];
    }

pub returns-clause-none : goal.returns-clause-none
returns-clause-none g c found i same =
    let own = c.args.own.now.base in
    elim (cases_lt i (c.loop-layer.count + 1)) [
      | inl low ↦ c.loop-layer.invariant.none_before i low same
      | inr high ↦
          (let bad : ◌≡◌ {A = Option Base} None (Some (base_of g.F.Family.merge_rule c.args.self.now)) =
          sym (base-past c.args.below.now (λ layer. layer.value) own i
          (omega (arith, high, c.loop-layer-test.false, c.loop-layer.invariant.counted)))
          ∙ same in
          cc bad)
    ]
