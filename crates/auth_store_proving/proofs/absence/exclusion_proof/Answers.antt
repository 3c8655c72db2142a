use Rattle.std.proofs.Common.{◌≡◌, ◌∙◌, ◌-◌, List, ℕ, [], ◌∷◌, Option, None, Some, length, ap, sym, arith}
use Rattle.std.specs.declared.alloc.Global.{Global}
use Rattle.std.specs.declared.vec.Vec.{Vec}
use Rattle.std.specs.Prelude.{slice_get, unwrap_or}
use Rattle.std.proofs.lemmas.Result.{IfOk-weaker}
use Rattle.state_ops.specs.Operation.{Operation}
use Rattle.state_theory.specs.Canonical.{Setting}
use Rattle.state_proofs.specs.Exclusion.{ExclusionParts, by_commit, by_update}
use Rattle.state_proofs.specs.ExclusionCode.{form_exclusion_of}
use Rattle.state_theory.specs.Honest.{honest_parts}
use Rattle.state_proofs.specs.ProofsCode.{parts_of}
use Rattle.state_theory.specs.Verified.{Parts}
use Rattle.auth_store_client.specs.Absence.{honest_absence_parts, metadata_in}
use Rattle.auth_store_client.specs.Laws.Absent.{has_some}
use Rattle.auth_store_ledger.specs.History.{history_of}
use Rattle.auth_store_ledger.specs.Map.{state_of}
use Rattle.auth_store_ledger.specs.Store.{setting_of_width, state_of_log}
use Rattle.auth_store_proving.proofs.Absences.{is_named, last_named, update_behind, update_within}
use Rattle.auth_store_ledger.specs.Laws.Places.{end_behind}
use Rattle.auth_store_ledger.specs.Laws.Reads.{passed_on}
use Rattle.auth_store_proving.proofs.absence.exclusion_proof.Goals as goal

pub operation_proof-requires : goal.operation_proof-requires
operation_proof-requires g c =
    let log : List Operation = g.L.LoggedValues.log c.args.log.now in
    let it = is_named (setting_of_width g.F.Family.merge_rule g.H.HashFunction.hash_of g.row.N) g.K.FixedSize.SIZE g.V.FixedSize.SIZE
    log c.requires.placed.states c.requires.placed.whole g.K.Write.encoding c.locations.result.now.entries
    (g.K.Write.encoding c.args.key.now) (g.K.Write.encoding c.in-Some.before.now) c.in-Some.location.now
    (c.locations.ensures ∙ c.requires.placed.stand) c.in-Some.ensures in
    let within = update_within log c.in-Some.location.now (it.value, it.next) it.stands in
    let behind = update_behind log (g.K.Write.encoding c.in-Some.before.now) c.in-Some.location.now (it.value, it.next)
    c.requires.placed.states c.requires.placed.whole it.at it.stands in
    (omega arith, (omega (arith, c.requires.placed.current.behind, behind), omega (arith, c.requires.placed.current.leaves, within)))

pub proof_by_update-requires : goal.proof_by_update-requires
proof_by_update-requires g c =
    let log : List Operation = g.L.LoggedValues.log c.args.log.now in
    let it = is_named (setting_of_width g.F.Family.merge_rule g.H.HashFunction.hash_of g.row.N) g.K.FixedSize.SIZE g.V.FixedSize.SIZE
    log c.requires.placed.states c.requires.placed.whole g.K.Write.encoding c.locations.result.now.entries
    (g.K.Write.encoding c.args.key.now) (g.K.Write.encoding c.in-Some.before.now) c.in-Some.location.now
    (c.locations.ensures ∙ c.requires.placed.stand) c.in-Some.ensures in
    record {
      may = c.requires.may;
      stands = λ none. absurd
          (let gone : ◌≡◌ {A = Option (List ℕ × List ℕ)} None (Some (it.value, it.next)) = sym none ∙ it.stands in cc);
    }

pub returns-in_ok-proof-in-Some-clause-proof : goal.returns-in_ok-proof-in-Some-clause-proof
returns-in_ok-proof-in-Some-clause-proof g c =
    let log : List Operation = g.L.LoggedValues.log c.args.log.now in
    let setting : Setting = setting_of_width g.F.Family.merge_rule g.H.HashFunction.hash_of g.row.N in
    let before : List ℕ = g.K.Write.encoding c.in-Some.before.now in
    let it = is_named setting g.K.FixedSize.SIZE g.V.FixedSize.SIZE log c.requires.placed.states c.requires.placed.whole
    g.K.Write.encoding c.locations.result.now.entries (g.K.Write.encoding c.args.key.now) before c.in-Some.location.now
    (c.locations.ensures ∙ c.requires.placed.stand) c.in-Some.ensures in
    let wanted : ExclusionParts = honest_absence_parts setting g.K.FixedSize.SIZE g.V.FixedSize.SIZE (history_of log)
    (g.K.Write.encoding c.args.key.now) in
    IfOk-weaker c.proof_by_update.result
    (λ proof. form_exclusion_of (λ (chunk : Vec ℕ Global). chunk.items) g.K.Write.encoding g.V.Write.encoding g.H.Digest.Write.encoding
    g.F.PendingOf.held proof
    ≡ by_update (parts_of g.H.Digest.Write.encoding g.F.PendingOf.held c.in_ok-proof-in-Some.proof) before it.value it.next)
    (λ proof. form_exclusion_of (λ (chunk : Vec ℕ Global). chunk.items) g.K.Write.encoding g.V.Write.encoding g.H.Digest.Write.encoding
    g.F.PendingOf.held proof ≡ wanted)
    (λ proof is. is ∙ (ap (λ (p : Parts). by_update p before it.value it.next)
    (c.in_ok-proof-in-Some.ensures g.K.FixedSize.SIZE g.V.FixedSize.SIZE log c.requires.placed.current) ∙ sym it.parts))
    (c.proof_by_update.ensures.by it.value it.next it.stands)

pub overflow_sub-last : goal.overflow_sub-last
overflow_sub-last g c =
    let log : List Operation = g.L.LoggedValues.log c.args.log.now in
    let some = has_some (setting_of_width g.F.Family.merge_rule g.H.HashFunction.hash_of g.row.N) g.K.FixedSize.SIZE g.V.FixedSize.SIZE
    log c.requires.placed.states c.requires.placed.whole in
    omega (arith, c.requires.placed.current.leaves, c.leaves.ensures.leaves, c.as_u64-last.ensures, some)

pub operation_proof-requires-in-None : goal.operation_proof-requires-in-None
operation_proof-requires-in-None g c =
    let log : List Operation = g.L.LoggedValues.log c.args.log.now in
    let some = has_some (setting_of_width g.F.Family.merge_rule g.H.HashFunction.hash_of g.row.N) g.K.FixedSize.SIZE g.V.FixedSize.SIZE
    log c.requires.placed.states c.requires.placed.whole in
    let behind = end_behind log c.requires.placed.whole in
    let count : c.as_u64-last.result ≡ length log = c.as_u64-last.ensures ∙ (c.leaves.ensures.leaves ∙ c.requires.placed.current.leaves) in (
      omega arith,
      (omega (arith, c.requires.placed.current.behind, behind, count), omega (arith, c.requires.placed.current.leaves, count, some)),
    )

pub proof_by_commit-requires : goal.proof_by_commit-requires
proof_by_commit-requires g c =
    let log : List Operation = g.L.LoggedValues.log c.args.log.now in
    let some = has_some (setting_of_width g.F.Family.merge_rule g.H.HashFunction.hash_of g.row.N) g.K.FixedSize.SIZE g.V.FixedSize.SIZE
    log c.requires.placed.states c.requires.placed.whole in
    let count : c.as_u64-last.result ≡ length log = c.as_u64-last.ensures ∙ (c.leaves.ensures.leaves ∙ c.requires.placed.current.leaves) in
    record { may = c.requires.may; within = omega (arith, count, some) }

pub returns-in_ok-proof-in-None-clause-proof : goal.returns-in_ok-proof-in-None-clause-proof
returns-in_ok-proof-in-None-clause-proof g c =
    let log : List Operation = g.L.LoggedValues.log c.args.log.now in
    let setting : Setting = setting_of_width g.F.Family.merge_rule g.H.HashFunction.hash_of g.row.N in
    let key_size : ℕ = g.K.FixedSize.SIZE in
    let value_size : ℕ = g.V.FixedSize.SIZE in
    let noted : ℕ → Option (List ℕ) = λ n. unwrap_or (metadata_in (slice_get log n)) None in
    let wanted : ExclusionParts = honest_absence_parts setting key_size value_size (history_of log) (g.K.Write.encoding c.args.key.now) in
    let is_last = last_named setting key_size value_size log c.requires.placed.states c.requires.placed.whole (g.K.Write.encoding c.args.key.now)
    (sym (c.locations.ensures ∙ c.requires.placed.stand) ∙ ap (state_of g.K.Write.encoding (λ (n : ℕ). n ∷ [])) c.in-None.ensures) in
    let count : c.as_u64-last.result - 1 ≡ length log - 1 =
    ap (λ (n : ℕ). n - 1) (c.as_u64-last.ensures ∙ (c.leaves.ensures.leaves ∙ c.requires.placed.current.leaves)) in
    IfOk-weaker c.proof_by_commit.result
    (λ proof. form_exclusion_of (λ (chunk : Vec ℕ Global). chunk.items) g.K.Write.encoding g.V.Write.encoding g.H.Digest.Write.encoding
    g.F.PendingOf.held proof
    ≡ by_commit (parts_of g.H.Digest.Write.encoding g.F.PendingOf.held c.in_ok-proof-in-None.proof) (noted (c.as_u64-last.result - 1)))
    (λ proof. form_exclusion_of (λ (chunk : Vec ℕ Global). chunk.items) g.K.Write.encoding g.V.Write.encoding g.H.Digest.Write.encoding
    g.F.PendingOf.held proof ≡ wanted)
    (λ proof is. is ∙ (ap (λ (p : Parts). by_commit p (noted (c.as_u64-last.result - 1)))
    (c.in_ok-proof-in-None.ensures key_size value_size log c.requires.placed.current)
    ∙ (ap (λ (n : ℕ). by_commit (honest_parts setting (state_of_log key_size value_size log) n) (noted n)) count ∙ is_last)))
    c.proof_by_commit.ensures.by

pub returns-in_err-proof-in-Some-clause-refused : goal.returns-in_err-proof-in-Some-clause-refused
returns-in_err-proof-in-Some-clause-refused g c =
    passed_on c.from_residual.result _ _ c.from_residual.ensures.1
    (g.L.LoggedValues.none_leads c.args.log.now)

pub returns-in_err-proof-in-None-clause-refused : goal.returns-in_err-proof-in-None-clause-refused
returns-in_err-proof-in-None-clause-refused g c =
    passed_on c.from_residual-in_err-proof-in-None.result _ _ c.from_residual-in_err-proof-in-None.ensures.1
    (g.L.LoggedValues.none_leads c.args.log.now)
