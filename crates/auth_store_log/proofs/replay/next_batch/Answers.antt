use Rattle.std.proofs.Common.{◌≡◌, ◌∙◌, ◌+◌, ◌++◌, ◌∷◌, false, refl, ap, sym, take, drop, List, ℕ, Option, option_map}
use Rattle.std.proofs.lemmas.List.{take_rest}
use Rattle.merkle_forest.specs.declared.location.Location as location
use Rattle.state_ops_parts.specs.declared.operation.Operation.TheVariants.{Delete, Update, CommitFloor}
use Rattle.state_ops.specs.Operation.{Operation, Code, meaning_of, commit_floor}
use Rattle.auth_store_parts.specs.History as spec
use Rattle.auth_store_log.proofs.Batches.{cut_at, no_commit_more}
use Rattle.auth_store_log.proofs.replay.next_batch.Goals as goal

-- what is no commit in the code says none
not_commit : {F K V A B C D E G H : Type 0} (key : K → List ℕ) (value : V → List ℕ)
    (operation : Code F K V A B C D E G H)
    → ((metadata : Option V) (floor : location.Location F) → operation ≡ CommitFloor metadata floor → ⊥)
    → spec.is_commit (meaning_of key value operation) ≡ false
not_commit key value (Delete k) other = refl
not_commit key value (Update u) other = refl
not_commit key value (CommitFloor metadata floor) other = absurd (other metadata floor refl)

pub returns-in-CommitFloor : goal.returns-in-CommitFloor
returns-in-CommitFloor g c =
    let key = g.K.Write.encoding in
    let value = g.V.Write.encoding in
    let meaning = meaning_of key value in
    let all = c.args.operations.now in
    let at = c.loop-at.at in
    let before : List Operation = spec.meanings key value (take at all) in
    let behind : List Operation = spec.meanings key value (drop (at + 1) all) in
    let metadata = option_map value c.in-CommitFloor.field-0 in
    record {
      metadata = metadata;
      whole = cut_at meaning all at c.index-operations-at.result c.loop-at-test.true c.index-operations-at.is
          ∙ ap (λ o. before ++ meaning o ∷ behind) c.in-CommitFloor.is
          ∙ ap (λ f. before ++ commit_floor metadata f ∷ behind) (sym c.as_u64.ensures)
          ∙ ap (λ l. before ++ commit_floor metadata c.as_u64.result ∷ spec.meanings key value l)
          (sym (take_rest all (at + 1)));
      before_commit = c.loop-at.invariant;
    }

pub loop-at-preserved : goal.loop-at-preserved
loop-at-preserved g c =
    let key = g.K.Write.encoding in
    let value = g.V.Write.encoding in
    no_commit_more (meaning_of key value) c.args.operations.now c.loop-at.at c.index-operations-at.result
    c.loop-at-test.true c.index-operations-at.is c.loop-at.invariant
    (not_commit key value c.index-operations-at.result c.in_default.not-CommitFloor)
