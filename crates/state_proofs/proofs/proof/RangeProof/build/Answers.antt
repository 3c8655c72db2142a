use Rattle.std.proofs.Common.{◌≡◌, ◌^◌, ◌*◌, ℕ, List, Bool, length, sym, ◌∙◌, ap, subst, None}
use Rattle.state_proofs.specs.Built.{AreApart}
use Rattle.state_theory.specs.Sources.{Source}
use Rattle.state_proofs.specs.BuiltCode.{measures_with, source_of}
use Rattle.state_theory.specs.Canonical.{Setting, pending_digest, partial_digest, setting_with}
use Rattle.state_proofs.specs.Required.{Measures}
use Rattle.state_proofs.specs.RequiredCode.{asked_of}
use Rattle.state_proofs.proofs.BuiltLemmas.{one_height, same_setting, same_measures, built_inactive, built_digests, same_range}
use Rattle.state_proofs.proofs.proof.RangeProof.build.Goals as goal

pub returns-in_default-clause-refused : goal.returns-in_default-clause-refused
returns-in_default-clause-refused g c = λ height known whole answers.
    let size = c.of_bytes-chunk_size.result in
    let bits : List Bool = g.B.BitmapReadable.bits c.args.status.now in
    let pruned : ℕ = g.B.BitmapReadable.pruned c.args.status.now in
    let level = one_height g.row.N size.width size.grafting_height height c.of_bytes-chunk_size.ensures size.whole whole in
    let measures = same_measures g.F.Family.merge_rule size.width g.row.N size.grafting_height height c.of_bytes-chunk_size.ensures level in (
      c.in_ok-proof.ensures.known known answers,
      subst (λ (m : Measures). AreApart m (asked_of c.args.plan.now.leaves (length bits) pruned None)) measures
          (subst (λ (n : ℕ). AreApart (measures_with g.F.Family.merge_rule size.width size.grafting_height) (asked_of n (length bits) pruned None))
          c.leaves-leaves.ensures c.in_default.ensures.refused.1),
    )

pub returns-clause-honest : goal.returns-clause-honest
returns-clause-honest g c = λ height known state whole answers is floor root.
    let size = c.of_bytes-chunk_size.result in
    let bits : List Bool = g.B.BitmapReadable.bits c.args.status.now in
    let pruned : ℕ = g.B.BitmapReadable.pruned c.args.status.now in
    let rule = g.F.Family.merge_rule in
    let hash = g.H.HashFunction.hash_of in
    let source : Source = source_of c.args.plan.now bits pruned known in
    let setting : Setting = setting_with rule hash g.row.N height in
    let wide : size.width ≡ g.row.N = c.of_bytes-chunk_size.ensures in
    let level = one_height g.row.N size.width size.grafting_height height wide size.whole whole in
    let same = same_setting rule hash size.width g.row.N size.grafting_height height wide level in
    let power : 2 ^ size.grafting_height ≡ 8 * g.row.N = sym size.whole ∙ ap (λ w. 8 * w) wide in
    let held = c.in-Ok.ensures.honest state (sym is.leaves ∙ sym c.leaves-leaves.ensures) is.bits in
    let made = c.in_ok-proof.ensures in
    same_range _ _ _ _ _ _ _ _ _ _ _ _
    (made.leaves ∙ is.leaves)
    (made.inactive ∙ built_inactive setting state c.args.plan.now.leaves (2 ^ size.grafting_height) c.args.inactivity_floor is.leaves power floor)
    (built_digests setting state source (2 ^ size.grafting_height) c.args.inactivity_floor _ is power floor (made.known known answers)
    (made.digests known answers))
    (held.0 ∙ ap (λ (s : Setting). pending_digest s state) same)
    (held.1 ∙ ap (λ (s : Setting). partial_digest s state) same)
    (sym root)

pub returns-clause-buildable : goal.returns-clause-buildable
returns-clause-buildable g c = λ height known whole answers.
    let size = c.of_bytes-chunk_size.result in
    let bits : List Bool = g.B.BitmapReadable.bits c.args.status.now in
    let pruned : ℕ = g.B.BitmapReadable.pruned c.args.status.now in
    let level = one_height g.row.N size.width size.grafting_height height c.of_bytes-chunk_size.ensures size.whole whole in
    let measures = same_measures g.F.Family.merge_rule size.width g.row.N size.grafting_height height c.of_bytes-chunk_size.ensures level in
    record {
      known = c.in_ok-proof.ensures.known known answers;
      together = λ apart. c.in-Ok.ensures.together
          (subst (λ (n : ℕ). AreApart (measures_with g.F.Family.merge_rule size.width size.grafting_height) (asked_of n (length bits) pruned None))
          (sym c.leaves-leaves.ensures)
          (subst (λ (m : Measures). AreApart m (asked_of c.args.plan.now.leaves (length bits) pruned None)) (sym measures) apart));
    }
