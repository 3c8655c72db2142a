use Rattle.std.proofs.Common.{ℕ, List, subst}
use Rattle.std.specs.Prelude.{OnOk}
use Rattle.state_ops.specs.Operation.{ordered, update}
use Rattle.state_ops.specs.Reading.{IsField, IsOfFields}
use Rattle.state_proofs.proofs.ordered.encoded_update.Goals as goal

pub returns-clause-fields : goal.returns-clause-fields
returns-clause-fields g c =
    let Said : List ℕ → List ℕ → List ℕ → Type 0 = λ key value next.
    OnOk c.encode.result (IsOfFields (IsField (g.K.Read.after tt) g.K.FixedSize.SIZE) (IsField (g.V.Read.after tt) g.V.FixedSize.SIZE)
    (update (ordered key value next))) in
    let key = g.met.K.Faithful.copied c.args.key.now c.in_ok-copied_key.copied_key c.in_ok-copied_key.ensures.cases in
    let value = g.met.V.Faithful.copied c.args.value.now c.in_ok-copied_value.copied_value c.in_ok-copied_value.ensures.cases in
    let next = g.met.K.Faithful.copied c.args.next_key.now c.in_ok-copied_next.copied_next c.in_ok-copied_next.ensures.cases in
    subst (λ k. Said k (g.V.Write.encoding c.args.value.now) (g.K.Write.encoding c.args.next_key.now)) key
    (subst (λ v. Said (g.K.Write.encoding c.in_ok-copied_key.copied_key) v (g.K.Write.encoding c.args.next_key.now)) value
    (subst (Said (g.K.Write.encoding c.in_ok-copied_key.copied_key) (g.V.Write.encoding c.in_ok-copied_value.copied_value)) next
    c.encode.ensures.fields))
