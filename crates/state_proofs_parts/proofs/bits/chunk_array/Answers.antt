use Rattle.std.proofs.Common.{◌≡◌, ◌<◌, ◌+◌, ◌-◌, ◌++◌, ◌∷◌, []}
use Rattle.std.proofs.Common.{ℕ, List, Bool, take, length, slice_set, sym, ◌∙◌, ap, arith}
use Rattle.std.proofs.lemmas.List.{length-set, take_all, take_more_set}
use Rattle.state_theory.specs.Bits.{byte_of, chunk_of}
use Rattle.state_theory.specs.Laws.ChunkSteps.{chunk_goes_on, chunk_ends}
use Rattle.state_proofs_parts.proofs.bits.chunk_array.Goals as goal

pub loop-index-preserved : goal.loop-index-preserved
loop-index-preserved g c =
    let i : ℕ = c.loop-index.index in
    let chunk : List ℕ = c.loop-index.chunk in
    let rest : List Bool = c.loop-index.rest.now in
    let next : ℕ = i + 1 in
    let within : i < length chunk = omega (arith, c.loop-index.invariant.0, c.loop-index-test.true) in
    let front : take next (slice_set chunk i c.byte_from.result) ≡ take i chunk ++ byte_of (take 8 rest) ∷ [] =
    take_more_set chunk i c.byte_from.result within
    ∙ ap (λ byte. take i chunk ++ byte ∷ []) (c.byte_from.ensures ∙ ap byte_of c.split_front.ensures.front) in (
      length-set chunk i c.byte_from.result ∙ c.loop-index.invariant.0,
      ap (λ bytes. bytes ++ chunk_of (g.row.N - next) c.split_front.result.1.now) front
          ∙ ap (λ bits. (take i chunk ++ byte_of (take 8 rest) ∷ []) ++ chunk_of (g.row.N - next) bits) c.split_front.ensures.back
          ∙ chunk_goes_on (take i chunk) rest g.row.N i (chunk_of g.row.N c.args.bits.now) (omega (arith, c.loop-index-test.true))
          c.loop-index.invariant.1,
    )

pub returns : goal.returns
returns g c =
    let i : ℕ = c.loop-index.index in
    sym (take_all i c.loop-index.chunk (omega (arith, c.loop-index.invariant.0, c.loop-index-test.false)))
    ∙ chunk_ends (take i c.loop-index.chunk) c.loop-index.rest.now g.row.N i (chunk_of g.row.N c.args.bits.now)
    (omega (arith, c.loop-index-test.false)) c.loop-index.invariant.1
