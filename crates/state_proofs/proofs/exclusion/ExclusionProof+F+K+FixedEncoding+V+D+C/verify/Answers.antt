use Rattle.std.proofs.Common.{◌∙◌, ap}
use Rattle.std.specs.Prelude.{IsTrue}
use Rattle.state_proofs.specs.ExclusionCode.{form_exclusion_of}
use Rattle.state_proofs.proofs.ExclusionLemmas.{excludes_exactly}
use Rattle.state_proofs.proofs.exclusion.ExclusionProof+F+K+FixedEncoding+V+D+C.verify.Goals as goal

pub returns-in_ok-operation-in-KeyValue : goal.returns-in_ok-operation-in-KeyValue
returns-in_ok-operation-in-KeyValue g c =
    excludes_exactly (IsTrue c.verify.result) g.F.Family.merge_rule g.H.HashFunction.hash_of g.K.FixedSize.SIZE g.V.FixedSize.SIZE
    (g.D.Write.encoding c.args.root.now) _ _ (g.K.Write.encoding c.args.key.now) c.deref.result.now
    (ap (form_exclusion_of g.C.AsSlice.items g.K.Write.encoding g.V.Write.encoding g.D.Write.encoding g.F.PendingOf.held) c.in-KeyValue.is)
    (c.deref.ensures.value ∙ c.in_ok-operation-in-KeyValue.ensures.bytes)
    (c.leaves_out.ensures.0 c.if-not-leaves_out.false)
    c.verify.ensures

pub returns-in_ok-operation-in-Commit : goal.returns-in_ok-operation-in-Commit
returns-in_ok-operation-in-Commit g c =
    excludes_exactly (IsTrue c.verify-in-Commit.result) g.F.Family.merge_rule g.H.HashFunction.hash_of g.K.FixedSize.SIZE g.V.FixedSize.SIZE
    (g.D.Write.encoding c.args.root.now) _ _ (g.K.Write.encoding c.args.key.now) c.deref-in-Commit.result.now
    (ap (form_exclusion_of g.C.AsSlice.items g.K.Write.encoding g.V.Write.encoding g.D.Write.encoding g.F.PendingOf.held) c.in-Commit.is)
    (c.deref-in-Commit.ensures.value ∙ c.in_ok-operation-in-Commit.ensures) tt
    c.verify-in-Commit.ensures
