use Rattle.std.proofs.Common.{◌∙◌, ◌++◌, ℕ, List, ap, subst}
use Rattle.std.specs.declared.alloc.Global.{Global}
use Rattle.std.specs.declared.vec.Vec.{Vec}
use Rattle.state_ops.specs.Reading.{IsField}
use Rattle.state_proofs.specs.Exclusion.{ExclusionParts, exclusion_encoding}
use Rattle.state_proofs.specs.ExclusionCode.{form_exclusion_of}
use Rattle.auth_store_client.specs.Absence.{NamesFields}
use Rattle.auth_store_proving.proofs.Absences.{names_fields}
use Rattle.auth_store_proving.proofs.absence.prove_absence.Goals as goal

pub returns-clause-bytes : goal.returns-clause-bytes
returns-clause-bytes g c =
    let encoding = exclusion_encoding g.F.PendingOf.pending_encoding in
    let proof : ExclusionParts = form_exclusion_of (λ (chunk : Vec ℕ Global). chunk.items) g.K.Write.encoding g.V.Write.encoding
    g.H.Digest.Write.encoding g.F.PendingOf.held c.in_ok-proof.proof in
    let IsKey : List ℕ → Type 0 = IsField (g.K.Read.after tt) g.K.FixedSize.SIZE in
    let IsValue : List ℕ → Type 0 = IsField (g.V.Read.after tt) g.V.FixedSize.SIZE in
    record {
      is = c.in_ok-write.ensures.ok
          ∙ (ap (λ (start : List ℕ). start ++ encoding proof) c.new-bytes.ensures.items ∙ ap encoding c.in_ok-proof.ensures.proof);
      names = subst (λ (parts : ExclusionParts). NamesFields IsKey IsValue parts) c.in_ok-proof.ensures.proof
          (names_fields (λ (chunk : Vec ℕ Global). chunk.items) g.K.Write.encoding g.V.Write.encoding g.H.Digest.Write.encoding
          g.F.PendingOf.held _ g.K.Write.is_value g.V.Write.is_value IsKey IsValue
          (λ k is. (g.met.K.FixedSize.sized k is, λ rest. g.met.K.Read.read_again tt k rest is (g.met.K.FixedKey.within k)))
          (λ v is. (g.met.V.FixedSize.sized v is, λ rest. g.met.V.Read.read_again tt v rest is (g.met.V.FixedValue.within v)))
          c.in_ok-proof.proof c.in_ok-write.ensures.value);
    }
