use Rattle.std.proofs.Common.{◌≡◌, ◌+◌, ◌++◌, ◌∷◌, [], take, cond, eqb, sym, ◌∙◌, ap, arith, add-one, eq-eqb}
use Rattle.std.proofs.lemmas.Bool.{cond-true, cond-false, ne_eqb}
use Rattle.merkle_core_parts.specs.Mem.{encoded, value_after}
use Rattle.merkle_core_parts.specs.Laws.Encoded.{take-encoded}
use Rattle.merkle_core_parts.specs.Laws.Replaced.{after-more}
use Rattle.merkle_memory.proofs.rebuild.last_digest.Goals as goal
use Rattle.merkle_memory.proofs.rebuild.last_digest.Goals.{then-at-position, else-at-position}

pub loop-at-preserved : goal.loop-at-preserved
loop-at-preserved g c =
    let encoding = g.D.Write.encoding in
    let u = c.loop-at-item.result in
    let p = c.args.position in
    let old = encoding c.args.digest in
    let us = encoded encoding (take c.loop-at.at-index c.args.changes.now) in
    let grown : encoded encoding (take (c.loop-at.at-index + 1) c.args.changes.now) ≡ us ++ (u.0, encoding u.1) ∷ [] =
    ap (λ i. encoded encoding (take i c.args.changes.now)) (add-one c.loop-at.at-index)
    ∙ take-encoded encoding c.args.changes.now c.loop-at.at-index u u (omega (arith, c.loop-at-test.true))
    c.loop-at-item.is in
    let step : encoding c.if-at-position.last ≡ cond (eqb u.0 p) (encoding u.1) (value_after us p old) =
    elim c.if-at-position.branch [
      | then-at-position w ↦
          ap encoding w.last-is
          ∙ sym (cond-true (eqb u.0 p) (encoding u.1) (value_after us p old) (eq-eqb u.0 p w.if-at-position.true))
      | else-at-position w ↦
          ap encoding w.last-is ∙ c.loop-at.invariant
          ∙ sym (cond-false (eqb u.0 p) (encoding u.1) (value_after us p old) (ne_eqb u.0 p w.if-at-position.false))
    ] in
    step ∙ sym (after-more us (u.0, encoding u.1) p old) ∙ ap (λ vs. value_after vs p old) (sym grown)
