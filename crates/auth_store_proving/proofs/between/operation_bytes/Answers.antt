use Rattle.std.proofs.Common.{◌∙◌, ◌++◌, ◌*◌, ℕ, List, ap, arith}
use Rattle.state_ops.specs.Operation.{Operation}
use Rattle.state_theory.specs.Canonical.{Setting}
use Rattle.state_theory.specs.Encoded.{operation_proof_encoding}
use Rattle.state_theory.specs.Honest.{honest_parts}
use Rattle.state_proofs.specs.ProofsCode.{parts_of}
use Rattle.state_current.specs.Kept.{Kept}
use Rattle.auth_store_ledger.specs.Store.{setting_of_width, state_of_log}
use Rattle.auth_store_proving.proofs.between.operation_bytes.Goals as goal

pub operation_proof-requires : goal.operation_proof-requires
operation_proof-requires g c =
    let pruned = ap (λ (k : Kept). 8 * g.row.N * k.bits.pruned) c.parts.ensures.kept in
    let leaves = ap (λ (k : Kept). k.operations.leaves) c.parts.ensures.kept in
    (omega arith, (omega (arith, pruned, c.requires.kept), omega (arith, leaves, c.requires.within)))

pub returns : goal.returns
returns g c log of =
    let key : ℕ = g.K.FixedSize.SIZE in
    let value : ℕ = g.V.FixedSize.SIZE in
    let pending = g.F.PendingOf.pending_encoding in
    let setting : Setting = setting_of_width g.F.Family.merge_rule g.H.HashFunction.hash_of g.row.N in
    let parts = parts_of g.H.Digest.Write.encoding g.F.PendingOf.held c.in_ok-proof.proof in
    let keeps = c.parts.ensures.placed log of in
    c.in_ok-write.ensures.ok
    ∙ (ap (λ (l : List ℕ). l ++ operation_proof_encoding pending parts) c.new-bytes.ensures.items
    ∙ (ap (operation_proof_encoding pending) (c.in_ok-proof.ensures key value log keeps.current)
    ∙ ap (λ (l : List Operation). operation_proof_encoding pending (honest_parts setting (state_of_log key value l) c.args.location)) keeps.whole))
