use Rattle.std.proofs.Common.{ℕ, ◌∙◌, ◌++◌, List, ap, ap₂}
use Rattle.state_ops.specs.Operation.{Operation}
use Rattle.state_theory.specs.Canonical.{Setting, State}
use Rattle.state_proofs.specs.Witness.{WitnessParts, honest_witness, witness_encoding}
use Rattle.auth_store_ledger.specs.History.{history_of}
use Rattle.auth_store_ledger.specs.Store.{grafting_height, setting_of_width, state_of_history, state_of_log}
use Rattle.auth_store_proving.proofs.Answered.{same_proof}
use Rattle.auth_store_proving.proofs.between.slice_bytes.Goals as goal

pub returns : goal.returns
returns g c log of =
    let key : ℕ = g.K.FixedSize.SIZE in
    let value : ℕ = g.V.FixedSize.SIZE in
    let pending = g.F.PendingOf.pending_encoding in
    let setting : Setting = setting_of_width g.F.Family.merge_rule g.H.HashFunction.hash_of g.row.N in
    let state : State = state_of_history key value (history_of log) in
    let keeps = c.parts.ensures.placed log of in
    let witness = c.witness.ensures (grafting_height g.row.N) (state_of_log key value log) keeps.current.stands
    ∙ ap (λ (l : List Operation). honest_witness setting (state_of_log key value l)) keeps.whole in
    let front : List ℕ = witness_encoding pending (honest_witness setting state) in
    let proof = c.in_ok-proof.ensures log of in
    c.in_ok-write-2.ensures.ok ∙ ap₂ (λ (l r : List ℕ). l ++ r)
    (c.in_ok-write.ensures.ok ∙ ap₂ (λ (l : List ℕ) (w : WitnessParts). l ++ witness_encoding pending w) c.new-bytes.ensures.items witness)
    (same_proof _ _ _ _ _ _ proof.0 proof.1 proof.2)
