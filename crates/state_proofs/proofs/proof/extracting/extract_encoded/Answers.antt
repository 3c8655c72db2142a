use Rattle.std.proofs.Common.{◌≡◌, Bool, true, false, not, List, ℕ, refl, sym, ◌∙◌, ap, subst}
use Rattle.std.specs.Prelude.{map}
use Rattle.state_proofs.specs.ProofsCode.{range_parts_of}
use Rattle.state_proofs.specs.RangeExtracted.{shown_with}
use Rattle.state_theory.specs.Verified.{Shown, VerifiesRange, RangeParts}
use Rattle.state_proofs.proofs.proof.extracting.extract_encoded.Goals as goal

same_after_all : (b : Bool) → not b ≡ false → b ≡ true
same_after_all true is = refl
same_after_all false is = cc

pub returns-clause-shown : goal.returns-clause-shown
returns-clause-shown g c =
    let encoding = g.H.Digest.Write.encoding in
    let proof : RangeParts = range_parts_of encoding g.F.PendingOf.held c.args.proof.now in
    let shown : Shown = shown_with c.args.start (map (λ e. e.now) c.args.operations.now) (map (λ chunk. chunk.now) c.args.chunks.now)
    c.args.chunk_size.width in
    subst (λ (root : List ℕ). VerifiesRange g.F.Family.merge_rule g.H.HashFunction.hash_of root proof shown)
    (ap encoding (g.met.H.Digest.Digest.equal c.in-Some.led c.args.root.now (same_after_all _ (sym c.ne.ensures ∙ c.if-ne.false))))
    c.in-Some.ensures
