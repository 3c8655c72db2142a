-- The keys that have places are those of the state of the log, so that the first of them is the same.
use Rattle.std.proofs.Common.{◌≡◌, ℕ, ◌+◌, Bool, true, false, T, cond, List, [], ◌∷◌, Option, None, Some, refl, ap, sym, ◌∙◌, subst}
use Rattle.std.specs.Prelude.{is_some}
use Rattle.std.proofs.lemmas.Cmp.{nat_list_cmp_total}
use Rattle.std.specs.declared.cmp.Ordering.TheVariants.{Less, Equal, Greater}
use Rattle.std.specs.Ordering.{is_lt, ordering_reverse}
use Rattle.std.proofs.lemmas.Map.Lookups.{exact_bytes}
use Rattle.state_ops.specs.Operation.{Operation, delete, update, ordered, commit_floor}
use Rattle.auth_store_parts.specs.Map.{Map, key_order, value_at, with_entry, without_key}
use Rattle.auth_store_parts.specs.History.{IsState, replayed, log_of, history_of, latest_map, active_update}
use Rattle.auth_store_parts.specs.Map.{entry_of}
use Rattle.auth_store_parts.specs.Places.{placed, places_of}
use Rattle.auth_store_parts.specs.Laws.Actives.{active_update-log_of}
use Rattle.auth_store_parts.specs.Laws.Logs.{replayed-log_of, AreStates-history_of, IsState-replayed}
use Rattle.auth_store_parts.specs.Chains.{first_of}
use Rattle.auth_store_parts.specs.Laws.Lookups.{same, IsState-with_entry, IsState-without_key, value_at-with_entry, value_at-without_key}
use Rattle.auth_store_parts.specs.Laws.Below.{value_at_head, none_below_first}

-- two states have the same keys
abbrev pub AreAlike : Map → Map → Type 0
AreAlike s t = (q : List ℕ) → is_some (value_at s q) ≡ is_some (value_at t q)

some_of : (o : Option (List ℕ)) → is_some o ≡ true → (v : List ℕ) × (o ≡ Some v)
some_of None e = absurd (cc)
some_of (Some v) e = (v, refl)

lacks : (e : List ℕ × List ℕ) (s t : Map) → IsState t → is_some (value_at (e ∷ s) e.0) ≡ is_some (value_at t e.0)
    → ((v : List ℕ) → value_at t e.0 ≡ Some v → ⊥) → ⊥
lacks e s t h alike none =
    let there = some_of (value_at t e.0) (sym alike ∙ ap is_some (value_at_head e s)) in
    none there.0 there.1

pub first_alike : (s t : Map) → IsState s → IsState t → AreAlike s t → first_of s ≡ first_of t
first_alike [] [] h_s h_t alike = refl
first_alike [] (f ∷ t) h_s h_t alike = absurd (lacks f t [] tt (sym (alike f.0)) (λ v at. absurd (cc)))
first_alike (e ∷ s) [] h_s h_t alike = absurd (lacks e s [] tt (alike e.0) (λ v at. absurd (cc)))
first_alike (e ∷ s) (f ∷ t) h_s h_t alike =
    elim (key_order e.0 f.0) as (λ o. key_order e.0 f.0 ≡ o → first_of (e ∷ s) ≡ first_of (f ∷ t)) [
      | Less ↦ λ o. absurd (lacks e s (f ∷ t) h_t (alike e.0)
          (λ v at. none_below_first f t e.0 v h_t at (subst (λ r. T (is_lt r)) (sym o) tt)))
      | Equal ↦ λ o. ap Some (exact_bytes e.0 f.0 o)
      | Greater ↦ λ o.
          let less = nat_list_cmp_total.antisymm f.0 e.0 ∙ ap ordering_reverse o in
          absurd (lacks f t (e ∷ s) h_s (sym (alike f.0))
          (λ v at. none_below_first e s f.0 v h_s at (subst (λ r. T (is_lt r)) (sym less) tt)))
    ] refl

chosen : (b : Bool) (x y : Option (List ℕ)) (one other : Option (List ℕ)) → is_some x ≡ is_some y
    → is_some one ≡ is_some other → is_some (cond b x one) ≡ is_some (cond b y other)
chosen true x y one other first rest = first
chosen false x y one other first rest = rest

-- the keys with places after operations are those of the state after them
pub placed_alike : (start : ℕ) (places state : Map) (operations : List Operation) → IsState places → IsState state
    → AreAlike places state → AreAlike (placed start places operations) (replayed state operations)
placed_alike start places state [] h_p h_s alike = alike
placed_alike start places state (delete k ∷ later) h_p h_s alike =
    placed_alike (start + 1) (without_key places k) (without_key state k) later (IsState-without_key places k h_p)
    (IsState-without_key state k h_s)
    (λ q. ap is_some (value_at-without_key places k q h_p)
    ∙ chosen (same q k) None None (value_at places q) (value_at state q) refl (alike q)
    ∙ sym (ap is_some (value_at-without_key state k q h_s)))
placed_alike start places state (update (ordered k v n) ∷ later) h_p h_s alike =
    placed_alike (start + 1) (with_entry places k (start ∷ [])) (with_entry state k v) later
    (IsState-with_entry places k (start ∷ []) h_p) (IsState-with_entry state k v h_s)
    (λ q. ap is_some (value_at-with_entry places k (start ∷ []) q)
    ∙ chosen (same q k) (Some (start ∷ [])) (Some v) (value_at places q) (value_at state q) refl (alike q)
    ∙ sym (ap is_some (value_at-with_entry state k v q)))
placed_alike start places state (commit_floor m f ∷ later) h_p h_s alike =
    placed_alike (start + 1) places state later h_p h_s alike

pub IsState-placed : (start : ℕ) (places : Map) (operations : List Operation) → IsState places
    → IsState (placed start places operations)
IsState-placed start places [] h = h
IsState-placed start places (delete k ∷ later) h =
    IsState-placed (start + 1) (without_key places k) later (IsState-without_key places k h)
IsState-placed start places (update (ordered k v n) ∷ later) h =
    IsState-placed (start + 1) (with_entry places k (start ∷ [])) later (IsState-with_entry places k (start ∷ []) h)
IsState-placed start places (commit_floor m f ∷ later) h = IsState-placed (start + 1) places later h

module _ (log : List Operation) (whole : log ≡ log_of (history_of log)) where
  -- the first key with a place is the first of the state
  pub first_placed : first_of (places_of log) ≡ first_of (latest_map (history_of log))
  first_placed =
      first_alike (places_of log) (replayed [] log) (IsState-placed 0 [] log tt) (IsState-replayed [] log tt)
      (placed_alike 0 [] [] log tt tt (λ q. refl))
      ∙ ap first_of (ap (replayed []) whole ∙ replayed-log_of (history_of log) (AreStates-history_of log))

  -- the update of a key that counts has the fields that the state has there
  pub entry_counts : (q : List ℕ) → active_update q log ≡ entry_of (latest_map (history_of log)) q
  entry_counts q =
      ap (active_update q) whole ∙ active_update-log_of q (history_of log) (AreStates-history_of log)
