use Rattle.std.proofs.Common.{◌≡◌, ◌∙◌, ◌++◌, ◌∷◌, [], List, ℕ, ap, sym, append_assoc, append-nil}
use Rattle.std.proofs.lemmas.Result.{on_ok_weaker}
use Rattle.state_ops.specs.Operation.{Operation}
use Rattle.auth_store_parts.specs.Map.{Map, state_of, first_key, next_key}
use Rattle.auth_store_parts.specs.History as spec
use Rattle.auth_store_parts.specs.Laws.Neighbours.{state_sorted, next_behind, next_of_last}
use Rattle.auth_store_parts.proofs.history.changes.push_updates.Goals as goal

abbrev Entry : Type 0
Entry = List ℕ × List ℕ

-- one entry more is passed, whose next key is that of the one behind it
passes : (old new passed : Map) (e f : Entry) (rest : Map) (before after said : List Operation)
    → passed ++ e ∷ f ∷ rest ≡ new → spec.IsState new → after ≡ before ++ spec.update_to old e.0 e.1 f.0
    → before ++ spec.updates (e ∷ f ∷ rest) old new ≡ said → after ++ spec.updates (f ∷ rest) old new ≡ said
passes old new passed e f rest before after said is sorted does whole =
    let next : next_key new e.0 ≡ f.0 = next_behind new passed e f rest is sorted in
    ap (λ l. l ++ spec.updates (f ∷ rest) old new) does
    ∙ (append_assoc before (spec.update_to old e.0 e.1 f.0) (spec.updates (f ∷ rest) old new)
    ∙ (ap (λ n. before ++ (spec.update_to old e.0 e.1 n ++ spec.updates (f ∷ rest) old new)) (sym next) ∙ whole))

-- the last one is passed, whose next key is the first one
ends : (old new passed : Map) (e : Entry) (first : List ℕ) (before after said : List Operation)
    → passed ++ e ∷ [] ≡ new → spec.IsState new → first ≡ first_key new → after ≡ before ++ spec.update_to old e.0 e.1 first
    → before ++ spec.updates (e ∷ []) old new ≡ said → after ≡ said
ends old new passed e first before after said is sorted least does whole =
    let next : next_key new e.0 ≡ first_key new = next_of_last new passed e is sorted in
    does ∙ (ap (λ n. before ++ spec.update_to old e.0 e.1 n) (least ∙ sym next)
    ∙ (ap (λ l. before ++ l) (sym (append-nil (spec.update_of old new e.0 e.1))) ∙ whole))

pub loop-next-init : goal.loop-next-init
loop-next-init g c =
    let key = g.K.Write.encoding in
    let value = g.V.Write.encoding in
    let old : Map = state_of key value c.args.old.now.entries in
    let new : Map = state_of key value c.args.new.now.entries in
    let left : (key c.in-Some.first.now, value c.in-Some.value.now) ∷ state_of key value c.into_iter-next-iterator.result ≡ new =
    ap (λ l. (key c.in-Some.first.now, value c.in-Some.value.now) ∷ state_of key value l) c.into_iter-next-iterator.ensures.into_iter_gives
    ∙ (ap (state_of key value) (sym c.in-Some.ensures.steps) ∙ ap (state_of key value) c.iter-entries.ensures.rest) in (
      [],
      left,
      state_sorted key value g.K.Ord.cmp g.met.K.FixedKey.in_order c.args.new.now.entries c.iter-entries.ensures.ordered,
      ap first_key left,
      ap (λ l. spec.meanings key value c.args.out.now.items ++ spec.updates l old new) left,
    )

pub loop-next-preserved : goal.loop-next-preserved
loop-next-preserved g c =
    let key = g.K.Write.encoding in
    let value = g.V.Write.encoding in
    let old : Map = state_of key value c.args.old.now.entries in
    let new : Map = state_of key value c.args.new.now.entries in
    let here = c.loop-next.invariant in
    let e : Entry = (key c.loop-next.key.now, value c.loop-next.value.now) in
    let f : Entry = (key c.in-Some-2.next.now, value c.in-Some-2.later.now) in
    let all : List Operation = spec.meanings key value c.args.out.now.items ++ spec.updates new old new in
    let rest : Map = state_of key value c.next-in-loop-next.new.self in
    let behind : state_of key value c.loop-next.next-iterator ≡ f ∷ rest = ap (state_of key value) c.in-Some-2.ensures.steps in
    let is : here.0 ++ e ∷ f ∷ rest ≡ new = ap (λ l. here.0 ++ e ∷ l) (sym behind) ∙ here.1 in
    let said = ap (λ l. spec.meanings key value c.loop-next.out.items ++ spec.updates (e ∷ l) old new) (sym behind) ∙ here.4 in (
      here.0 ++ e ∷ [],
      append_assoc here.0 (e ∷ []) (f ∷ rest) ∙ is,
      here.2,
      here.3,
      passes old new here.0 e f rest (spec.meanings key value c.loop-next.out.items)
          (spec.meanings key value c.push_update.new.out.items) all is here.2 c.in_ok-push_update.ensures said,
    )

pub returns : goal.returns
returns g c =
    let key = g.K.Write.encoding in
    let value = g.V.Write.encoding in
    let old : Map = state_of key value c.args.old.now.entries in
    let new : Map = state_of key value c.args.new.now.entries in
    let here = c.loop-next.invariant in
    let e : Entry = (key c.loop-next.key.now, value c.loop-next.value.now) in
    let none : state_of key value c.loop-next.next-iterator ≡ [] = ap (state_of key value) c.in-None.ensures.steps.0 in
    on_ok_weaker c.push_update-2.result
    (λ does. ends old new here.0 e (key c.in-Some.first.now) (spec.meanings key value c.loop-next.out.items)
    (spec.meanings key value c.push_update-2.new.out.items)
    (spec.meanings key value c.args.out.now.items ++ spec.updates new old new) (ap (λ l. here.0 ++ e ∷ l) (sym none) ∙ here.1) here.2 here.3 does
    (ap (λ l. spec.meanings key value c.loop-next.out.items ++ spec.updates (e ∷ l) old new) (sym none) ∙ here.4))
    c.push_update-2.ensures
