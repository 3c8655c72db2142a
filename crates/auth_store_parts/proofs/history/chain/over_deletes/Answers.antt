use Rattle.std.proofs.Common.{◌∙◌, ◌∷◌, ◌+◌, ap, sym, drop, map, option_map, List, ℕ}
use Rattle.std.proofs.lemmas.List.{drop_all}
use Rattle.state_ops.specs.Operation.{Operation, meaning_of}
use Rattle.auth_store_parts.specs.Map.{Map}
use Rattle.auth_store_parts.specs.Chains as chains
use Rattle.auth_store_parts.specs.Chains.{Pointer}
use Rattle.auth_store_parts.specs.History as spec
use Rattle.auth_store_parts.proofs.ChainCode.{left_at, over_no_delete}
use Rattle.auth_store_parts.proofs.Firsts.{entry_counts}
use Rattle.auth_store_parts.specs.Ranked.{named}
use Rattle.auth_store_parts.proofs.NamedParts.{named_here}
use Rattle.auth_store_parts.proofs.history.chain.over_deletes.Goals as goal

pub returns-in_default : goal.returns-in_default
returns-in_default g c = λ first_old first_new.
    let key = g.K.Write.encoding in
    let meaning = meaning_of key g.V.Write.encoding in
    let all = c.args.deletes.now in
    let i = c.loop-at.at in
    let old : Map = spec.latest_map (spec.history_of (spec.meanings key g.V.Write.encoding c.args.log.now)) in
    let p : Pointer = option_map (λ k. key k.now) c.loop-at.pointers.0 in
    let q : Pointer = option_map (λ k. key k.now) c.loop-at.pointers.1 in
    sym (c.loop-at.invariant first_old first_new)
    ∙ ap (λ l. chains.over_deletes old first_old first_new l p q)
    (left_at meaning all i c.index-deletes-at.result c.loop-at-test.true c.index-deletes-at.is)
    ∙ over_no_delete key g.V.Write.encoding old first_old first_new p q (map meaning (drop (i + 1) all))
    c.index-deletes-at.result c.in_default.not-Delete

pub returns-in_default-over_delete : goal.returns-in_default-over_delete
returns-in_default-over_delete g c = λ first_old first_new.
    let key = g.K.Write.encoding in
    let meaning = meaning_of key g.V.Write.encoding in
    let all = c.args.deletes.now in
    let i = c.loop-at.at in
    let log : List Operation = spec.meanings key g.V.Write.encoding c.args.log.now in
    let old : Map = spec.latest_map (spec.history_of log) in
    let p : Pointer = option_map (λ k. key k.now) c.loop-at.pointers.0 in
    let q : Pointer = option_map (λ k. key k.now) c.loop-at.pointers.1 in
    let gone : List ℕ = key c.in-Delete.gone in
    let left : List Operation = map meaning (drop (i + 1) all) in
    let go = chains.over_deletes old first_old first_new left in
    let here = named_here meaning c.args.ranked.now.names c.args.start i all c.index-deletes-at.result gone c.requires.named
    c.loop-at-test.true c.index-deletes-at.is (ap (λ o. named (meaning o)) c.in-Delete.is) in
    sym (c.loop-at.invariant first_old first_new)
    ∙ ap (λ l. chains.over_deletes old first_old first_new l p q)
    (left_at meaning all i c.index-deletes-at.result c.loop-at-test.true c.index-deletes-at.is
    ∙ ap (λ o. meaning o ∷ left) c.in-Delete.is)
    ∙ ap (λ e. chains.over_delete e gone go p q) (sym (c.update_of.ensures gone here ∙ entry_counts log c.requires.whole gone))
    ∙ c.in_default-over_delete.ensures go

pub loop-at-preserved : goal.loop-at-preserved
loop-at-preserved g c = λ first_old first_new.
    let key = g.K.Write.encoding in
    let meaning = meaning_of key g.V.Write.encoding in
    let all = c.args.deletes.now in
    let i = c.loop-at.at in
    let log : List Operation = spec.meanings key g.V.Write.encoding c.args.log.now in
    let old : Map = spec.latest_map (spec.history_of log) in
    let p : Pointer = option_map (λ k. key k.now) c.loop-at.pointers.0 in
    let q : Pointer = option_map (λ k. key k.now) c.loop-at.pointers.1 in
    let gone : List ℕ = key c.in-Delete.gone in
    let left : List Operation = map meaning (drop (i + 1) all) in
    let go = chains.over_deletes old first_old first_new left in
    let here = named_here meaning c.args.ranked.now.names c.args.start i all c.index-deletes-at.result gone c.requires.named
    c.loop-at-test.true c.index-deletes-at.is (ap (λ o. named (meaning o)) c.in-Delete.is) in
    sym (ap (λ l. chains.over_deletes old first_old first_new l p q)
    (left_at meaning all i c.index-deletes-at.result c.loop-at-test.true c.index-deletes-at.is
    ∙ ap (λ o. meaning o ∷ left) c.in-Delete.is)
    ∙ ap (λ e. chains.over_delete e gone go p q) (sym (c.update_of.ensures gone here ∙ entry_counts log c.requires.whole gone))
    ∙ c.in-Some.ensures go)
    ∙ c.loop-at.invariant first_old first_new

pub returns : goal.returns
returns g c = λ first_old first_new.
    let key = g.K.Write.encoding in
    let meaning = meaning_of key g.V.Write.encoding in
    let old : Map = spec.latest_map (spec.history_of (spec.meanings key g.V.Write.encoding c.args.log.now)) in
    let p : Pointer = option_map (λ k. key k.now) c.loop-at.pointers.0 in
    let q : Pointer = option_map (λ k. key k.now) c.loop-at.pointers.1 in
    sym (c.loop-at.invariant first_old first_new)
    ∙ ap (λ l. chains.over_deletes old first_old first_new (map meaning l) p q)
    (drop_all c.loop-at.at c.args.deletes.now c.loop-at-test.false)
