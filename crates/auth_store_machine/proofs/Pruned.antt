-- How many chunks are pruned of a store: a batch changes it not, and a prune says it.
use Rattle.std.proofs.Common.{◌≡◌, ℕ, ◌≤◌, Option, None, Some, refl, sym, ◌∙◌, subst}
use Rattle.std.specs.Prelude.{IfSome, Result, Ok, Err, OnErr}
use Rattle.state_theory.specs.Canonical.{Setting}
use Rattle.auth_store_parts.specs.History.{History}
use Rattle.auth_store_ledger.specs.Store.{IsPrunedUpTo, floor_of}
use Rattle.auth_store_machine.specs.Stores.{LiveState, IsPruned}

-- what follows of what holds after an error
pub on_err_so : {T E : Type 0} (r : Result T E) {P Q : Type 0} → (P → Q) → OnErr r P → OnErr r Q
on_err_so (Ok v) so p = tt
on_err_so (Err e) so p = so p

-- a store that took a batch, or refused it
pub grown_pruned : {L : Type 0} (count : L → ℕ) (old new : Option L) (pruned : ℕ)
    → IfSome old (λ was. IfSome new (λ now. count now ≡ count was)) → (old ≡ None → new ≡ None)
    → IfSome old (λ was. count was ≡ pruned) → IfSome new (λ now. count now ≡ pruned)
grown_pruned count None new pruned same lost is = subst (λ l. IfSome l (λ now. count now ≡ pruned)) (sym (lost refl)) tt
grown_pruned count (Some was) None pruned same lost is = tt
grown_pruned count (Some was) (Some now) pruned same lost is = same ∙ is

module _ (setting : Setting) (location pruned : ℕ) (live : Option LiveState) (now : LiveState) (history : History)
    (is : live ≡ Some now) (same : now.history ≡ history) where
  -- what a prune of a store with this history answers
  pub pruned_to : (chunks : ℕ) → IsPruned live pruned
      → IfSome live (λ was. (location ≤ floor_of was.history) × IsPrunedUpTo setting was.history was.pruned location chunks)
      → (location ≤ floor_of history) × IsPrunedUpTo setting history pruned location chunks
  pruned_to chunks own said =
      let number : now.pruned ≡ pruned = subst (λ (l : Option LiveState). IsPruned l pruned) is own in
      let of = subst (λ (l : Option LiveState). IfSome l (λ was. (location ≤ floor_of was.history)
      × IsPrunedUpTo setting was.history was.pruned location chunks)) is said in (
        subst (λ (h : History). location ≤ floor_of h) same of.0,
        subst (λ (n : ℕ). IsPrunedUpTo setting history n location chunks) number
            (subst (λ (h : History). IsPrunedUpTo setting h now.pruned location chunks) same of.1),
      )
