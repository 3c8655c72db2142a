use Rattle.std.proofs.Common.{◌≡◌, ◌+◌, ◌∷◌, suc, drop, get_or, refl, sym, ◌∙◌, ap, subst, arith, add-one}
use Rattle.merkle_core_parts.specs.Mem.{Replacement, encoded}
use Rattle.merkle_core_parts.specs.Laws.Rebuilt.{IsDue}
use Rattle.merkle_core_parts.specs.Laws.Encoded.{drop-encoded}
use Rattle.merkle_core_parts.specs.Laws.Due.{taken-first, taken-next, taken-all}
use Rattle.merkle_memory.proofs.rebuild.taken.Goals as goal

pub loop-digest-init : goal.loop-digest-init
loop-digest-init g c =
    let encoding = g.D.Write.encoding in
    let us = encoded encoding c.args.updates.now in
    let u = get_or c.args.updates.now c.args.next c.index-updates-next.result in
    let one : Replacement = (u.0, encoding u.1) in
    let is : drop c.args.next us ≡ one ∷ drop (c.args.next + 1) us =
    drop-encoded encoding c.args.updates.now c.args.next u c.index-updates-next.result c.requires.within refl
    ∙ ap (λ i. one ∷ drop i us) (sym (add-one c.args.next)) in
    record {
      within = omega (arith, c.requires.within);
      taken = λ boundary from bound due. taken-first c.args.location boundary one (drop c.args.next us)
          (drop (c.args.next + 1) us) is from bound due;
    }

pub loop-digest-preserved : goal.loop-digest-preserved
loop-digest-preserved g c =
    let encoding = g.D.Write.encoding in
    let us = encoded encoding c.args.updates.now in
    let after = c.loop-digest.after in
    let u = get_or c.args.updates.now after c.index-updates-after.result in
    let one : Replacement = (u.0, encoding u.1) in
    let is : drop after us ≡ one ∷ drop (after + 1) us =
    drop-encoded encoding c.args.updates.now after u c.index-updates-after.result
    (c.loop-digest-test.ensures.within refl) refl
    ∙ ap (λ i. one ∷ drop i us) (sym (add-one after)) in
    let due : IsDue (suc c.args.location) (drop after us) =
    subst (λ n. IsDue n (drop after us)) (add-one c.args.location) (c.loop-digest-test.ensures.due.0 refl) in
    record {
      within = omega (arith, c.loop-digest-test.ensures.within refl);
      taken = λ boundary from bound first. taken-next c.args.location boundary (drop c.args.next us) (drop after us)
          (drop (after + 1) us) one (encoding c.loop-digest.digest) (c.loop-digest.invariant.taken boundary from bound first)
          is due;
    }

pub returns : goal.returns
returns g c boundary from bound first =
    let encoding = g.D.Write.encoding in
    let us = encoded encoding c.args.updates.now in
    let after = c.loop-digest.after in
    taken-all c.args.location boundary (drop c.args.next us) (drop after us) (encoding c.loop-digest.digest)
    (c.loop-digest.invariant.taken boundary from bound first)
    (λ due. absurd (let yes = c.loop-digest-test.ensures.due.1
    (subst (λ n. IsDue n (drop after us)) (sym (add-one c.args.location)) due) in cc yes))
