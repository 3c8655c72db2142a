use Rattle.std.proofs.Common.{◌≡◌, ◌+◌, ◌-◌, ◌*◌, ◌++◌, ◌∷◌, [], ℕ, Bool, List, drop, ap, sym, ◌∙◌, arith}
use Rattle.std.proofs.lemmas.List.{drop-drop}
use Rattle.state_theory.specs.Bits.{chunk_of, chunks_of}
use Rattle.state_theory.specs.Laws.ChunkSteps.{chunks_go_on, chunks_end}
use Rattle.state_proofs.proofs.proof.request.chunks_from.Goals as goal

pub loop-index-preserved : goal.loop-index-preserved
loop-index-preserved g c =
    let bits : List Bool = g.B.BitmapReadable.bits c.args.status.now in
    let front : List (List ℕ) = c.loop-index.chunks.items in
    let end : ℕ = c.args.first + c.args.count in
    let next : ℕ = c.loop-index.index + 1 in
    let items : c.push.new.self.items ≡ front ++ chunk_of g.row.N (drop (8 * g.row.N * c.loop-index.index) bits) ∷ [] =
    c.in_ok-push.ensures.items ∙ ap (λ chunk. front ++ chunk ∷ []) c.get_chunk.ensures in
    let later : drop (8 * g.row.N) (drop (8 * g.row.N * c.loop-index.index) bits) ≡ drop (8 * g.row.N * next) bits =
    drop-drop (8 * g.row.N) (8 * g.row.N * c.loop-index.index) bits ∙ ap (λ n. drop n bits) (omega arith) in
    ap (λ chunks. chunks ++ chunks_of g.row.N (end - next) (drop (8 * g.row.N * next) bits)) items
    ∙ ap (λ bs. (front ++ chunk_of g.row.N (drop (8 * g.row.N * c.loop-index.index) bits) ∷ []) ++ chunks_of g.row.N (end - next) bs) (sym later)
    ∙ chunks_go_on front (drop (8 * g.row.N * c.loop-index.index) bits) g.row.N end c.loop-index.index
    (chunks_of g.row.N c.args.count (drop (8 * g.row.N * c.args.first) bits)) (omega (arith, c.loop-index-test.true)) c.loop-index.invariant

pub returns : goal.returns
returns g c =
    let bits : List Bool = g.B.BitmapReadable.bits c.args.status.now in
    chunks_end c.loop-index.chunks.items (drop (8 * g.row.N * c.loop-index.index) bits) g.row.N (c.args.first + c.args.count) c.loop-index.index
    (chunks_of g.row.N c.args.count (drop (8 * g.row.N * c.args.first) bits)) (omega (arith, c.loop-index-test.false)) c.loop-index.invariant
