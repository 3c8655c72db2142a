use Rattle.std.proofs.Common.{◌≡◌, ◌∙◌, ◌∷◌, ◌+◌, ◌-◌, true, false, ap, sym, subst, drop, map, option_map, length, arith, List, ℕ}
use Rattle.std.specs.Ordering.{is_lt}
use Rattle.std.proofs.lemmas.List.{drop_all, take_rest, length-drop}
use Rattle.state_ops.specs.Operation.{Operation, meaning_of}
use Rattle.auth_store_parts.specs.Map.{Map, key_order, entry_of}
use Rattle.auth_store_parts.specs.Chains as chains
use Rattle.auth_store_parts.specs.Chains.{Pointer}
use Rattle.auth_store_parts.specs.History as spec
use Rattle.auth_store_parts.proofs.ChainCode.{left_at, below_no_delete, below_delete}
use Rattle.auth_store_parts.proofs.Firsts.{entry_counts}
use Rattle.auth_store_parts.specs.Ranked.{named, AreNamed}
use Rattle.auth_store_parts.proofs.NamedParts.{named_here, named_left}
use Rattle.auth_store_parts.proofs.history.chain.over_deletes_below.Goals as goal

pub returns-in_default-clause-up : goal.returns-in_default-clause-up
returns-in_default-clause-up g c = λ first_new v n go.
    let key = g.K.Write.encoding in
    let meaning = meaning_of key g.V.Write.encoding in
    let all = c.args.all.now in
    let i = c.loop-at.at in
    let old : Map = spec.latest_map (spec.history_of (spec.meanings key g.V.Write.encoding c.args.log.now)) in
    let p : Pointer = option_map (λ k. key k.now) c.loop-at.pointers.0 in
    let q : Pointer = option_map (λ k. key k.now) c.loop-at.pointers.1 in
    sym (c.loop-at.invariant first_new v n go)
    ∙ ap (λ l. chains.up_to_update old first_new (key c.args.key.now) v n go l p q)
    (left_at meaning all i c.index-all-at.result c.loop-at-test.true c.index-all-at.is)
    ∙ below_no_delete key g.V.Write.encoding old first_new first_new p q (map meaning (drop (i + 1) all))
    (key c.args.key.now) v n go c.index-all-at.result c.in_default.not-Delete

pub returns-then-not-is_lt-clause-up : goal.returns-then-not-is_lt-clause-up
returns-then-not-is_lt-clause-up g c = λ first_new v n go.
    let key = g.K.Write.encoding in
    let meaning = meaning_of key g.V.Write.encoding in
    let all = c.args.all.now in
    let i = c.loop-at.at in
    let old : Map = spec.latest_map (spec.history_of (spec.meanings key g.V.Write.encoding c.args.log.now)) in
    let p : Pointer = option_map (λ k. key k.now) c.loop-at.pointers.0 in
    let q : Pointer = option_map (λ k. key k.now) c.loop-at.pointers.1 in
    let k : List ℕ = key c.args.key.now in
    let l : List ℕ = key c.in-Delete.gone in
    let left : List Operation = map meaning (drop (i + 1) all) in
    let split = left_at meaning all i c.index-all-at.result c.loop-at-test.true c.index-all-at.is
    ∙ ap (λ o. meaning o ∷ left) c.in-Delete.is in
    let order : is_lt (key_order l k) ≡ false =
    ap is_lt (sym c.compare.ensures)
    ∙ sym c.is_lt.ensures ∙ c.if-not-is_lt.true in
    sym (c.loop-at.invariant first_new v n go)
    ∙ ap (λ l. chains.up_to_update old first_new k v n go l p q) split
    ∙ below_delete old first_new k v n go l left p q false order
    ∙ ap (λ l. chains.over_update first_new (entry_of old k) k v n (go l) p q)
    (sym split ∙ ap (map meaning) (sym (take_rest all i)))

pub returns-then-not-is_lt-clause-left : goal.returns-then-not-is_lt-clause-left
returns-then-not-is_lt-clause-left g c =
    let meaning = meaning_of g.K.Write.encoding g.V.Write.encoding in
    let names = c.args.ranked.now.names in
    let start = c.args.start in
    let all = c.args.all.now in
    let i = c.loop-at.at in
    let left = take_rest all i in
    let long = length-drop i all in (
      omega (arith, ap length left, long),
      subst (λ l. AreNamed names (start + length all - length l) (map meaning l)) (sym left)
          (named_left meaning names start i (start + length all - length (drop i all)) all c.requires.named
          (omega (arith, long, c.loop-at-test.true))),
    )

pub returns-in_default-over_delete-clause-up : goal.returns-in_default-over_delete-clause-up
returns-in_default-over_delete-clause-up g c = λ first_new v n go.
    let key = g.K.Write.encoding in
    let meaning = meaning_of key g.V.Write.encoding in
    let all = c.args.all.now in
    let i = c.loop-at.at in
    let log : List Operation = spec.meanings key g.V.Write.encoding c.args.log.now in
    let old : Map = spec.latest_map (spec.history_of log) in
    let p : Pointer = option_map (λ k. key k.now) c.loop-at.pointers.0 in
    let q : Pointer = option_map (λ k. key k.now) c.loop-at.pointers.1 in
    let k : List ℕ = key c.args.key.now in
    let l : List ℕ = key c.in-Delete.gone in
    let left : List Operation = map meaning (drop (i + 1) all) in
    let split = left_at meaning all i c.index-all-at.result c.loop-at-test.true c.index-all-at.is
    ∙ ap (λ o. meaning o ∷ left) c.in-Delete.is in
    let order : is_lt (key_order l k) ≡ true =
    ap is_lt (sym c.compare.ensures)
    ∙ sym c.is_lt.ensures ∙ c.if-not-is_lt.false in
    let further = chains.up_to_update old first_new k v n go left in
    let here = named_here meaning c.args.ranked.now.names c.args.start i all c.index-all-at.result l c.requires.named
    c.loop-at-test.true c.index-all-at.is (ap (λ o. named (meaning o)) c.in-Delete.is) in
    sym (c.loop-at.invariant first_new v n go)
    ∙ ap (λ l. chains.up_to_update old first_new k v n go l p q) split
    ∙ below_delete old first_new k v n go l left p q true order
    ∙ ap (λ e. chains.over_delete e l further p q) (sym (c.update_of.ensures l here ∙ entry_counts log c.requires.whole l))
    ∙ c.in_default-over_delete.ensures further

pub loop-at-preserved : goal.loop-at-preserved
loop-at-preserved g c = λ first_new v n go.
    let key = g.K.Write.encoding in
    let meaning = meaning_of key g.V.Write.encoding in
    let all = c.args.all.now in
    let i = c.loop-at.at in
    let log : List Operation = spec.meanings key g.V.Write.encoding c.args.log.now in
    let old : Map = spec.latest_map (spec.history_of log) in
    let p : Pointer = option_map (λ k. key k.now) c.loop-at.pointers.0 in
    let q : Pointer = option_map (λ k. key k.now) c.loop-at.pointers.1 in
    let k : List ℕ = key c.args.key.now in
    let l : List ℕ = key c.in-Delete.gone in
    let left : List Operation = map meaning (drop (i + 1) all) in
    let split = left_at meaning all i c.index-all-at.result c.loop-at-test.true c.index-all-at.is
    ∙ ap (λ o. meaning o ∷ left) c.in-Delete.is in
    let order : is_lt (key_order l k) ≡ true =
    ap is_lt (sym c.compare.ensures)
    ∙ sym c.is_lt.ensures ∙ c.if-not-is_lt.false in
    let further = chains.up_to_update old first_new k v n go left in
    let here = named_here meaning c.args.ranked.now.names c.args.start i all c.index-all-at.result l c.requires.named
    c.loop-at-test.true c.index-all-at.is (ap (λ o. named (meaning o)) c.in-Delete.is) in
    sym (ap (λ l. chains.up_to_update old first_new k v n go l p q) split
    ∙ below_delete old first_new k v n go l left p q true order
    ∙ ap (λ e. chains.over_delete e l further p q) (sym (c.update_of.ensures l here ∙ entry_counts log c.requires.whole l))
    ∙ c.in-Some.ensures further)
    ∙ c.loop-at.invariant first_new v n go

pub returns-clause-up : goal.returns-clause-up
returns-clause-up g c = λ first_new v n go.
    let key = g.K.Write.encoding in
    let meaning = meaning_of key g.V.Write.encoding in
    let all = c.args.all.now in
    let i = c.loop-at.at in
    let old : Map = spec.latest_map (spec.history_of (spec.meanings key g.V.Write.encoding c.args.log.now)) in
    let p : Pointer = option_map (λ k. key k.now) c.loop-at.pointers.0 in
    let q : Pointer = option_map (λ k. key k.now) c.loop-at.pointers.1 in
    let k : List ℕ = key c.args.key.now in
    let none = drop_all i all c.loop-at-test.false in
    let left = take_rest all (length all) ∙ drop_all (length all) all (omega arith) in
    sym (c.loop-at.invariant first_new v n go)
    ∙ ap (λ l. chains.up_to_update old first_new k v n go (map meaning l) p q) none
    ∙ ap (λ l. chains.over_update first_new (entry_of old k) k v n (go (map meaning l)) p q) (sym left)
