use Rattle.std.proofs.Common.{◌≡◌, List, Option, None, Some, refl, sym, subst, ◌∙◌}
use Rattle.std.specs.Prelude.{MatchOption}
use Rattle.state_ops.specs.Operation.{Operation}
use Rattle.auth_store_parts.specs.History.{meanings, log_of, history_of}
use Rattle.auth_store_parts.specs.Map.{Map}
use Rattle.auth_store_parts.specs.Places.{places_of}
use Rattle.auth_store_log.specs.Records.{format_of}
use Rattle.auth_store_parts.specs.Laws.Logs.{AreStates-history_of}
use Rattle.auth_store_log.specs.Laws.Once.{only_log}
use Rattle.auth_store_log.proofs.operations.operations_of.Goals as goal

none_stands : {A : Type 0} (o : Option A) (P : Type 0) (Q : A → Type 0) → MatchOption o P Q
    → ((x : A) → o ≡ Some x → ⊥) → P
none_stands None P Q stands not_some = stands
none_stands (Some x) P Q stands not_some = absurd (not_some x refl)

pub returns-in_default-clause-corrupt : goal.returns-in_default-clause-corrupt
returns-in_default-clause-corrupt g c = λ _ past states are same.
    let key = g.K.Write.encoding in
    let value = g.V.Write.encoding in
    let format = format_of (g.K.Read.after tt) (g.V.Read.after tt) g.K.FixedSize.SIZE g.V.FixedSize.SIZE in
    let said : List Operation = meanings key value c.deref.result.now in
    let log : List Operation = meanings key value c.in_ok-operations.operations.items in
    let is : log ≡ log_of (history_of log) = only_log format log past c.in_ok-operations.ensures.recorded states are
    (c.in_ok-operations.ensures.bytes ∙ sym same) in
    let there = subst (λ items. meanings key value items ≡ log_of (history_of (meanings key value items)))
    (sym c.deref.ensures.value) is in
    none_stands c.in_ok-places.field-0 (said ≡ log_of (history_of said) → ⊥)
    (λ (places : Map). (said ≡ log_of (history_of said)) × (places ≡ places_of said)) c.in_ok-places.ensures
    c.in_default.not-Some there

pub returns-clause-states : goal.returns-clause-states
returns-clause-states g c = AreStates-history_of (meanings g.K.Write.encoding g.V.Write.encoding c.in_ok-operations.operations.items)
