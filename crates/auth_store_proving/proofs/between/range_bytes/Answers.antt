use Rattle.std.proofs.Common.{◌∙◌, ◌++◌, ℕ, List, flat_map, ap}
use Rattle.state_theory.specs.Canonical.{Setting, State}
use Rattle.state_theory.specs.Encoded.{range_proof_encoding}
use Rattle.state_proofs.specs.ProofsCode.{range_parts_of}
use Rattle.auth_store_client.specs.Proving.{chunks_over}
use Rattle.auth_store_ledger.specs.History.{history_of}
use Rattle.auth_store_ledger.specs.Store.{setting_of_width, state_of_history}
use Rattle.auth_store_proving.proofs.between.range_bytes.Goals as goal

pub returns : goal.returns
returns g c log of =
    let setting : Setting = setting_of_width g.F.Family.merge_rule g.H.HashFunction.hash_of g.row.N in
    let state : State = state_of_history g.K.FixedSize.SIZE g.V.FixedSize.SIZE (history_of log) in
    let parts = range_parts_of g.H.Digest.Write.encoding g.F.PendingOf.held c.in_ok-proof.proof in
    let chunks : List ℕ = flat_map (λ chunk. chunk) (chunks_over setting state c.args.start c.args.stop) in
    c.in_ok-write_chunks.ensures log of ∙ ap (λ (l : List ℕ). l ++ chunks) (c.in_ok-write.ensures.ok
    ∙ (ap (λ (l : List ℕ). l ++ range_proof_encoding g.F.PendingOf.pending_encoding parts) c.new-bytes.ensures.items
    ∙ ap (range_proof_encoding g.F.PendingOf.pending_encoding) (c.in_ok-proof.ensures log of)))
