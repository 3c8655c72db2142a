use Rattle.std.proofs.Common.{◌≡◌, ℕ, ◌+◌, ◌-◌, ◌*◌, ◌/◌, ◌<◌, ◌≤◌, List, ◌++◌, append-nil, append_assoc}
use Rattle.std.proofs.Common.{flat_map, length, take, drop, sym, ◌∙◌, ap, ap₂, arith}
use Rattle.std.proofs.lemmas.List.{length-map}
use Rattle.std.proofs.lemmas.Nat.{pow_pos}
use Rattle.state_ops.specs.Operation.{Operation, fixed_encoding}
use Rattle.state_theory.specs.Canonical.{Setting, State, chunk, chunks}
use Rattle.auth_store_states.specs.Laws.Widths.{width_is_whole}
use Rattle.auth_store_ledger.specs.History.{history_of, log_of}
use Rattle.state_current.specs.Kept.{Kept}
use Rattle.auth_store_ledger.specs.Store.{grafting_height, setting_of_width, state_of_history, state_of_log}
use Rattle.auth_store_states.specs.Laws.Widths.{chunk_below}
use Rattle.auth_store_proving.proofs.Answered.{chunk_more, chunk_order, chunk_within, chunks_before}
use Rattle.auth_store_proving.proofs.between.write_chunks.Goals as goal

pub loop-chunk-init : goal.loop-chunk-init
loop-chunk-init g c log of =
    let all : List (List ℕ) = chunks (setting_of_width g.F.Family.merge_rule g.H.HashFunction.hash_of g.row.N)
    (state_of_history g.K.FixedSize.SIZE g.V.FixedSize.SIZE (history_of log)) in
    let first : ℕ = c.index_of-first.result in
    let none : 0 ≡ first - first = omega arith in
    sym (append-nil c.args.out.now.items)
    ∙ ap (λ (n : ℕ). c.args.out.now.items ++ flat_map (λ chunk. chunk) (take n (drop first all))) none

pub chunk-requires : goal.chunk-requires
chunk-requires g c =
    let size : ℕ = 8 * g.row.N in
    let some : c.args.stop - 1 + 1 ≡ c.args.stop = omega (arith, c.requires.some) in
    let last : c.loop-chunk.chunk ≤ (c.args.stop - 1) / size =
    omega (arith, c.loop-chunk-test.true, c.index_of-end.ensures, ap (λ w. (c.args.stop - 1) / (8 * w)) c.chunk_size-size.ensures.width) in
    let below = chunk_below size (c.args.stop - 1) c.loop-chunk.chunk last in
    let whole = width_is_whole g.row.N c.holds_a_history.ensures.width in
    let pruned = ap (λ (k : Kept). size * k.bits.pruned) c.parts.ensures.kept in
    let leaves = ap (λ (k : Kept). k.operations.leaves) c.parts.ensures.kept in
    let before : c.parts.result.1.now.bits.pruned ≤ c.args.start / size =
    chunks_before size c.parts.result.1.now.bits.pruned c.args.start (omega (arith, whole.0, pow_pos (grafting_height g.row.N)))
    (omega (arith, pruned, c.requires.kept)) in
    let first : c.index_of-first.result ≡ c.args.start / size =
    c.index_of-first.ensures ∙ ap (λ w. c.args.start / (8 * w)) c.chunk_size-size.ensures.width in (
      omega arith,
      (
        omega (arith, before, first, c.loop-chunk-test.true),
        omega (arith, below, some, leaves, c.requires.within),
      ),
    )

pub loop-chunk-preserved : goal.loop-chunk-preserved
loop-chunk-preserved g c log of =
    let key : ℕ = g.K.FixedSize.SIZE in
    let value : ℕ = g.V.FixedSize.SIZE in
    let setting : Setting = setting_of_width g.F.Family.merge_rule g.H.HashFunction.hash_of g.row.N in
    let state : State = state_of_history key value (history_of log) in
    let all : List (List ℕ) = chunks setting state in
    let keeps = c.parts.ensures.placed log of in
    let first : ℕ = c.index_of-first.result in
    let index : ℕ = c.loop-chunk.chunk in
    let whole = width_is_whole g.row.N c.holds_a_history.ensures.width in
    let wide : 0 < g.row.N = omega (arith, whole.0, pow_pos (grafting_height g.row.N)) in
    let count : length state.operations ≡ length (log_of (history_of log)) = length-map (log_of (history_of log)) (fixed_encoding key value) in
    let last : index ≤ (c.args.stop - 1) / (8 * g.row.N) =
    omega (arith, c.loop-chunk-test.true, c.index_of-end.ensures, ap (λ w. (c.args.stop - 1) / (8 * w)) c.chunk_size-size.ensures.width) in
    let there : index < length all =
    chunk_within setting state (c.args.stop - 1) index wide
    (omega (arith, count, c.requires.some, c.requires.within, of.keeps.current.leaves, ap length of.keeps.whole))
    last in
    let same : c.chunk.result.now ≡ chunk setting state index =
    c.chunk.ensures (grafting_height g.row.N) (state_of_log key value log) keeps.current.stands
    ∙ ap (λ (l : List Operation). chunk setting (state_of_log key value l) index) keeps.whole in
    c.in_ok-extend_from_slice.ensures.items
    ∙ (ap (λ (l : List ℕ). l ++ c.chunk.result.now) (c.loop-chunk.invariant log of)
    ∙ (ap (λ (l : List ℕ). (c.args.out.now.items ++ flat_map (λ chunk. chunk) (take (index - first) (drop first all))) ++ l) same
    ∙ (append_assoc c.args.out.now.items (flat_map (λ chunk. chunk) (take (index - first) (drop first all))) (chunk setting state index)
    ∙ ap (λ (l : List ℕ). c.args.out.now.items ++ l) (sym (chunk_more all first index (omega arith) there)))))

pub returns : goal.returns
returns g c log of =
    let setting : Setting = setting_of_width g.F.Family.merge_rule g.H.HashFunction.hash_of g.row.N in
    let state : State = state_of_history g.K.FixedSize.SIZE g.V.FixedSize.SIZE (history_of log) in
    let all : List (List ℕ) = chunks setting state in
    let size : ℕ = 8 * g.row.N in
    let first : c.index_of-first.result ≡ c.args.start / size =
    c.index_of-first.ensures ∙ ap (λ w. c.args.start / (8 * w)) c.chunk_size-size.ensures.width in
    let last : c.index_of-end.result ≡ (c.args.stop - 1) / size =
    c.index_of-end.ensures ∙ ap (λ w. (c.args.stop - 1) / (8 * w)) c.chunk_size-size.ensures.width in
    let whole = width_is_whole g.row.N c.holds_a_history.ensures.width in
    let wide : 0 < size = omega (arith, whole.0, pow_pos (grafting_height g.row.N)) in
    let order = chunk_order size c.args.start (c.args.stop - 1) wide (omega (arith, c.requires.some)) in
    let ordered : c.index_of-first.result ≤ c.index_of-end.result + 1 = omega (arith, order, first, last) in
    let end : c.loop-chunk.chunk ≡ (c.args.stop - 1) / size + 1 =
    omega (arith, last, c.loop-chunk.auto.chunk-end ordered, c.loop-chunk-test.false) in
    c.loop-chunk.invariant log of
    ∙ ap₂ (λ (n m : ℕ). c.args.out.now.items ++ flat_map (λ chunk. chunk) (take (n - m) (drop m all))) end first
