use Rattle.std.proofs.Common.{◌∙◌, ap}
use Rattle.std.specs.Prelude.{IsTrue}
use Rattle.state_proofs.specs.ExclusionCode.{form_exclusion_of}
use Rattle.state_proofs.proofs.ExclusionLemmas.{excludes_as_exactly}
use Rattle.state_proofs.proofs.exclusion.ExclusionProof.verify_as.Goals as goal

pub returns-in_ok-operation-in-KeyValue : goal.returns-in_ok-operation-in-KeyValue
returns-in_ok-operation-in-KeyValue g c =
    excludes_as_exactly (IsTrue c.verify.result) g.F.Family.merge_rule g.H.HashFunction.hash_of g.E.OperationCodec.spelled
    (g.D.Write.encoding c.args.root.now) _ _ _ _ (g.K.Key.bytes c.args.key.now) c.deref.result.now
    (ap (form_exclusion_of g.C.AsSlice.items g.K.Write.encoding g.E.Value.Write.encoding g.D.Write.encoding g.F.PendingOf.held) c.in-KeyValue.is)
    (ap (form_exclusion_of g.C.AsSlice.items g.K.Key.bytes g.E.Value.Write.encoding g.D.Write.encoding g.F.PendingOf.held) c.in-KeyValue.is)
    (c.deref.ensures.value ∙ c.in_ok-operation-in-KeyValue.ensures)
    (c.leaves_out.ensures.0 c.if-not-leaves_out.false)
    c.verify.ensures

pub returns-in_ok-operation-in-Commit : goal.returns-in_ok-operation-in-Commit
returns-in_ok-operation-in-Commit g c =
    excludes_as_exactly (IsTrue c.verify-in-Commit.result) g.F.Family.merge_rule g.H.HashFunction.hash_of g.E.OperationCodec.spelled
    (g.D.Write.encoding c.args.root.now) _ _ _ _ (g.K.Key.bytes c.args.key.now) c.deref-in-Commit.result.now
    (ap (form_exclusion_of g.C.AsSlice.items g.K.Write.encoding g.E.Value.Write.encoding g.D.Write.encoding g.F.PendingOf.held) c.in-Commit.is)
    (ap (form_exclusion_of g.C.AsSlice.items g.K.Key.bytes g.E.Value.Write.encoding g.D.Write.encoding g.F.PendingOf.held) c.in-Commit.is)
    (c.deref-in-Commit.ensures.value ∙ c.in_ok-operation-in-Commit.ensures) tt
    c.verify-in-Commit.ensures
