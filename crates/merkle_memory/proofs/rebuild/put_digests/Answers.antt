use Rattle.std.proofs.Common.{◌≡◌, ◌+◌, ◌++◌, ◌∷◌, [], ℕ, cond, eqb, map, take, sym, ◌∙◌, ap, arith, add-one}
use Rattle.std.proofs.lemmas.List.{length-map}
use Rattle.std.specs.Prelude.{slice_get, option_map}
use Rattle.merkle_core_parts.specs.Mem.{encoded, value_after}
use Rattle.merkle_core_parts.specs.Laws.Encoded.{take-encoded, put-none, put-there, more-after}
use Rattle.merkle_memory.proofs.rebuild.put_digests.Goals as goal
use Rattle.merkle_memory.proofs.rebuild.put_digests.Goals.{then-index-first+then-place-digests}
use Rattle.merkle_memory.proofs.rebuild.put_digests.Goals.{then-index-first+else-place-digests, else-index-first}

pub loop-index-preserved : goal.loop-index-preserved
loop-index-preserved g c k =
    let encoding = g.D.Write.encoding in
    let u = c.loop-index-item.result in
    let us = encoded encoding (take c.loop-index.index-index c.args.changes.now) in
    let n : ℕ = c.args.first + k in
    let old = slice_get (map encoding c.args.digests.now) k in
    let grown : encoded encoding (take (c.loop-index.index-index + 1) c.args.changes.now)
    ≡ us ++ (u.0, encoding u.1) ∷ [] =
    ap (λ i. encoded encoding (take i c.args.changes.now)) (add-one c.loop-index.index-index)
    ∙ take-encoded encoding c.args.changes.now c.loop-index.index-index u u (omega (arith, c.loop-index-test.true))
    c.loop-index-item.is in
    let step : slice_get (map encoding c.if-index-first.digests) k
    ≡ option_map (λ x. cond (eqb u.0 n) (encoding u.1) x) (slice_get (map encoding c.loop-index.digests) k) =
    elim c.if-index-first.branch [
      | then-index-first+then-place-digests w ↦
          ap (λ ds. slice_get (map encoding ds) k) w.digests-is
          ∙ put-there encoding c.loop-index.digests c.args.first u.0 k u.1 (omega (arith, w.if-index-first.true))
      | then-index-first+else-place-digests w ↦
          ap (λ ds. slice_get (map encoding ds) k) w.digests-is
          ∙ put-none (map encoding c.loop-index.digests) k u.0 n (encoding u.1) (λ lt same. absurd (omega (
            arith,
            lt,
            same,
            length-map c.loop-index.digests encoding,
            w.if-index-first.true,
            w.if-place-digests.false,
          )))
      | else-index-first w ↦
          ap (λ ds. slice_get (map encoding ds) k) w.digests-is
          ∙ put-none (map encoding c.loop-index.digests) k u.0 n (encoding u.1)
          (λ lt same. absurd (omega (arith, same, w.if-index-first.false)))
    ] in
    step
    ∙ ap (option_map (λ x. cond (eqb u.0 n) (encoding u.1) x)) (c.loop-index.invariant k)
    ∙ more-after us (u.0, encoding u.1) n old
    ∙ ap (λ vs. option_map (value_after vs n) old) (sym grown)
