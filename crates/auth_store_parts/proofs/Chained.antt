-- A batch is what leads on from a state exactly where it passes the walk.
use Rattle.std.proofs.Common.{◌≡◌, ℕ, Bool, true, false, cond, List, [], ◌∷◌}
use Rattle.std.proofs.Common.{◌++◌, length, take, drop, refl, ap, sym, ◌∙◌, subst, arith}
use Rattle.std.proofs.lemmas.List.{take-append-drop}
use Rattle.std.proofs.Math.Seq.{take-append_seam, drop-append_seam}
use Rattle.std.specs.Bool.{Decides}
use Rattle.std.specs.Prelude.{is_some}
use Rattle.state_ops.specs.Operation.{Operation, delete, update, ordered}
use Rattle.auth_store_parts.specs.Map.{Map, value_at, next_key}
use Rattle.auth_store_parts.specs.History.{IsState, is_kept, deletes, updates, batch_operations, replayed, log_of, history_of, latest_map}
use Rattle.auth_store_parts.specs.Places.{places_of}
use Rattle.auth_store_parts.specs.Chains.{Pointer, first_of, first_after, deletes_in_front, walk, is_walk}
use Rattle.auth_store_parts.specs.Laws.Logs.{IsState-latest_map, IsState-replayed, AreStates-history_of, replayed-append, replayed-log_of}
use Rattle.auth_store_parts.proofs.Firsts.{first_placed, first_alike, placed_alike, IsState-placed}
use Rattle.auth_store_parts.proofs.ChainLeads.{walk_leads}
use Rattle.auth_store_parts.proofs.LedChains.{led_walk}
use Rattle.auth_store_parts.proofs.ChainFirsts.{walk_first}

-- deletes, and the operations behind them, whose first is none
fronted : (entries new : Map) (behind : List Operation) → deletes_in_front behind ≡ 0
    → deletes_in_front (deletes entries new ++ behind) ≡ length (deletes entries new)
fronted [] new behind none = none
fronted (e ∷ entries) new behind none =
    elim (is_some (value_at new e.0)) as (λ b. deletes_in_front ((cond b [] (delete e.0 ∷ []) ++ deletes entries new) ++ behind)
    ≡ length (cond b [] (delete e.0 ∷ []) ++ deletes entries new)) [
      | true ↦ fronted entries new behind none
      | false ↦ let rest = fronted entries new behind none in omega (arith, rest)
    ]

no_delete : (entries old new : Map) → deletes_in_front (updates entries old new) ≡ 0
no_delete [] old new = refl
no_delete (e ∷ entries) old new =
    elim (is_kept old new e.0 e.1) as (λ b. deletes_in_front (cond b [] (update (ordered e.0 e.1 (next_key new e.0)) ∷ [])
    ++ updates entries old new) ≡ 0) [
      | true ↦ no_delete entries old new
      | false ↦ refl
    ]

-- the first key that a batch leads to is told by its last operation
pub first_led : (old : Map) (said : List Operation) → IsState old → said ≡ batch_operations old (replayed old said)
    → first_of (replayed old said) ≡ first_after (first_of old) said
first_led old said h leads =
    let new : Map = replayed old said in
    let walked = led_walk old new h (IsState-replayed old said h) in
    walk_first old (first_of new) (updates new old new) (deletes old new) walked ∙ ap (first_after (first_of old)) (sym leads)

-- and so it is behind a log
pub first_behind : (log said : List Operation) → log ≡ log_of (history_of log)
    → said ≡ batch_operations (latest_map (history_of log)) (replayed (latest_map (history_of log)) said)
    → first_of (places_of (log ++ said)) ≡ first_after (first_of (places_of log)) said
first_behind log said whole leads =
    let old : Map = latest_map (history_of log) in
    let is : replayed [] log ≡ old =
    ap (replayed []) whole ∙ replayed-log_of (history_of log) (AreStates-history_of log) in
    let state : IsState old = IsState-latest_map (history_of log) (AreStates-history_of log) in
    first_alike (places_of (log ++ said)) (replayed [] (log ++ said)) (IsState-placed 0 [] (log ++ said) tt)
    (IsState-replayed [] (log ++ said) tt) (placed_alike 0 [] [] (log ++ said) tt tt (λ q. refl))
    ∙ ap first_of (replayed-append [] log said ∙ ap (λ s. replayed s said) is)
    ∙ first_led old said state leads
    ∙ ap (λ f. first_after f said) (sym (first_placed log whole))

-- a batch passes the walk over its deletes and its updates, with the first key that its last operation tells, exactly
-- where it is what leads on from the state
pub decides_chain : (old : Map) (said : List Operation) → IsState old → (n : ℕ) → n ≡ deletes_in_front said → (passes : Bool)
    → passes ≡ is_walk old (first_after (first_of old) said) (drop n said) (take n said)
    → Decides passes (said ≡ batch_operations old (replayed old said))
decides_chain old said h n at passes is = (
  λ (shown : passes ≡ true).
      let whole : take n said ++ drop n said ≡ said = take-append-drop n said in
      let leads = walk_leads old (first_after (first_of old) said) (take n said) (drop n said) h (sym is ∙ shown) in
      subst (λ l. l ≡ batch_operations old (replayed old l)) whole leads,
  λ (leads : said ≡ batch_operations old (replayed old said)).
      let new : Map = replayed old said in
      let D : List Operation = deletes old new in
      let U : List Operation = updates new old new in
      let long : n ≡ length D = at ∙ ap deletes_in_front leads ∙ fronted old new U (no_delete new old new) in
      let gone : take n said ≡ D = ap (λ m. take m said) long ∙ ap (take (length D)) leads ∙ take-append_seam D U in
      let came : drop n said ≡ U = ap (λ m. drop m said) long ∙ ap (drop (length D)) leads ∙ drop-append_seam D U in
      let walked = led_walk old new h (IsState-replayed old said h) in
      let first : first_of new ≡ first_after (first_of old) said = first_led old said h leads in
      is ∙ ap (λ f. is_walk old f (drop n said) (take n said)) (sym first)
      ∙ ap (λ l. is_walk old (first_of new) l (take n said)) came
      ∙ ap (is_walk old (first_of new) U) gone ∙ walked,
)

-- a walk behind a log, whose places tell the first key
pub decides_behind : (log said : List Operation) → log ≡ log_of (history_of log) → (places : Map) → places ≡ places_of log
    → (first_old first_new : Pointer) → first_old ≡ first_of places → first_new ≡ first_after first_old said
    → (passes : Bool)
    → passes ≡ walk (latest_map (history_of log)) first_old first_new (drop (deletes_in_front said) said)
    (take (deletes_in_front said) said) first_old first_new
    → Decides passes (said ≡ batch_operations (latest_map (history_of log)) (replayed (latest_map (history_of log)) said))
decides_behind log said whole places are first_old first_new old_is new_is passes is =
    let old : Map = latest_map (history_of log) in
    let D : List Operation = take (deletes_in_front said) said in
    let U : List Operation = drop (deletes_in_front said) said in
    let first : first_old ≡ first_of old = old_is ∙ ap first_of are ∙ first_placed log whole in
    decides_chain old said (IsState-latest_map (history_of log) (AreStates-history_of log)) (deletes_in_front said) refl passes
    (is ∙ ap (λ f. walk old first_old f U D first_old f) new_is
    ∙ ap (λ f. walk old f (first_after f said) U D f (first_after f said)) first)
