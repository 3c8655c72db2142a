use Rattle.std.proofs.Common.{sym, ◌∙◌, ap, subst}
use Rattle.state_proofs.specs.ProofsCode.{range_parts_of}
use Rattle.state_theory.specs.Verified.{Shown, VerifiesRange, RangeParts}
use Rattle.state_proofs.specs.ShownCode.{form_shown_of}
use Rattle.state_proofs.proofs.RangeLed.{one_led, none_led}
use Rattle.state_proofs.proofs.proof.verifying.verifies_shown.Goals as goal

pub returns-in-None : goal.returns-in-None
returns-in-None g c =
    let proof : RangeParts = range_parts_of g.H.Digest.Write.encoding g.F.PendingOf.held c.args.proof.now in (
      λ e. absurd cc,
      λ it. absurd (none_led g.F.Family.merge_rule g.H.HashFunction.hash_of _ proof (form_shown_of g.C.AsSlice.items c.args.shown.now) c.in-None.ensures it),
    )

pub returns-in-Some : goal.returns-in-Some
returns-in-Some g c =
    let encoding = g.H.Digest.Write.encoding in
    let proof : RangeParts = range_parts_of encoding g.F.PendingOf.held c.args.proof.now in
    let shown : Shown = form_shown_of g.C.AsSlice.items c.args.shown.now in (
      λ yes. subst (λ root. VerifiesRange g.F.Family.merge_rule g.H.HashFunction.hash_of root proof shown)
          (ap encoding (g.met.H.Digest.Digest.equal c.in-Some.led c.args.root.now (sym c.eq.ensures ∙ yes))) c.in-Some.ensures,
      λ it.
          let bytes = one_led g.F.Family.merge_rule g.H.HashFunction.hash_of (encoding c.in-Some.led) (encoding c.args.root.now) proof shown
          c.in-Some.ensures it in
          let same_root = g.met.H.Digest.Digest.same_bytes c.in-Some.led c.args.root.now bytes in
          c.eq.ensures ∙ ap (g.H.Digest.PartialEq.eq c.in-Some.led) (sym same_root) ∙ g.met.H.Digest.Eq.laws.refl c.in-Some.led,
    )
