use Rattle.std.proofs.Common.{◌∙◌, ◌++◌, List, ℕ, ap, subst}
use Rattle.state_ops.specs.Reading.{IsField}
use Rattle.state_theory.specs.Canonical.{Setting, State}
use Rattle.state_theory.specs.Encoded.{key_value_proof_encoding}
use Rattle.state_theory.specs.Honest.{honest_parts}
use Rattle.state_proofs.specs.ProofsCode.{parts_of}
use Rattle.auth_store_ledger.specs.Store.{setting_of_width, state_of_log}
use Rattle.auth_store_proving.proofs.key.proof_at.Goals as goal

pub returns-clause-next : goal.returns-clause-next
returns-clause-next g c =
    let key : List ℕ = g.K.Write.encoding c.in_ok-clone.field-0 in
    let copied = g.met.K.Faithful.copied c.args.next_key.now c.in_ok-clone.field-0 c.in_ok-clone.ensures.cases in
    subst (IsField (g.K.Read.after tt) g.K.FixedSize.SIZE) copied (
      g.met.K.FixedSize.sized c.in_ok-clone.field-0 c.in_ok-write.ensures.value.1,
      λ rest. g.met.K.Read.read_again tt c.in_ok-clone.field-0 rest c.in_ok-write.ensures.value.1
          (g.met.K.FixedKey.within c.in_ok-clone.field-0),
    )

pub returns-clause-bytes : goal.returns-clause-bytes
returns-clause-bytes g c key_size value_size log kept =
    let key : List ℕ = g.K.Write.encoding c.in_ok-clone.field-0 in
    let copied = g.met.K.Faithful.copied c.args.next_key.now c.in_ok-clone.field-0 c.in_ok-clone.ensures.cases in
    let pending = g.F.PendingOf.pending_encoding in
    let setting : Setting = setting_of_width g.F.Family.merge_rule g.H.HashFunction.hash_of g.row.N in
    let logged : State = state_of_log key_size value_size log in
    c.in_ok-write.ensures.ok
    ∙ (ap (λ start. start ++ key_value_proof_encoding pending
    (parts_of g.H.Digest.Write.encoding g.F.PendingOf.held c.in_ok-operation_proof.field-0) key)
    c.new-bytes.ensures.items
    ∙ (ap (λ parts. key_value_proof_encoding pending parts key) (c.in_ok-operation_proof.ensures key_size value_size log kept)
    ∙ ap (λ (k : List ℕ). key_value_proof_encoding pending (honest_parts setting logged c.args.location) k) copied))
