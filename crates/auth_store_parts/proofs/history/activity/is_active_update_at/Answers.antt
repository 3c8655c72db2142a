use Rattle.std.proofs.Common.{◌≡◌, ◌∙◌, ℕ, ◌+◌, ◌<◌, ◌∷◌, [], ap, sym, refl, Bool, true, false, Some, None, List}
use Rattle.std.proofs.Common.{length, option_map, unwrap_or, drop, ⊎_elim, arith}
use Rattle.std.specs.Prelude.{slice_get}
use Rattle.std.specs.Bool.{◌==◌}
use Rattle.std.proofs.lemmas.Option.{slice_get-map, slice_get-get_or}
use Rattle.std.proofs.lemmas.List.{length-map}
use Rattle.std.proofs.lemmas.Bool.Decides.{eqb_tells}
use Rattle.state_ops.specs.Operation.{Operation, delete, update, ordered, commit_floor, meaning_of}
use Rattle.auth_store_parts.specs.History.{meanings, is_active, is_active_update}
use Rattle.auth_store_parts.specs.Map.{value_at}
use Rattle.auth_store_parts.specs.Places.{places_of}
use Rattle.auth_store_parts.specs.Ranked.{named}
use Rattle.auth_store_parts.specs.Laws.Places.{bit_at, active_where_located, inactive_elsewhere, place_found, place_missing}
use Rattle.auth_store_parts.proofs.history.activity.is_active_update_at.Goals as goal

-- two that are one place of a list are one
same : {A : Type 0} (x y : A) → Some x ≡ Some y → x ≡ y
same x y e = ap (λ o. unwrap_or o x) e

-- an update that is active is one that counts
counts : (operation : Operation) (k v n : List ℕ) (later : List Operation) → operation ≡ update (ordered k v n)
    → is_active operation later ≡ is_active_update operation later
counts operation k v n later is =
    ap (λ o. is_active o later) is ∙ sym (ap (λ o. is_active_update o later) is)

from_start : (n : ℕ) → n ≡ 0 + n
from_start n = omega arith

-- whether it counts, by where its key has its place
placed_here : (log : List Operation) (location place : ℕ) (operation : Operation) (k v n : List ℕ) (result : Bool)
    → slice_get log location ≡ Some operation → operation ≡ update (ordered k v n)
    → value_at (places_of log) k ≡ Some (place ∷ []) → result ≡ (place == location)
    → result ≡ is_active_update operation (drop (location + 1) log)
placed_here log location place operation k v n result there is found tells =
    let stands = there ∙ ap Some is in
    let at = place_found k log place found in
    let bit = bit_at log location operation there in
    ⊎_elim
    (λ here. tells ∙ here.0 ∙ same true _ (sym (active_where_located log location k v n stands (at ∙ here.1)) ∙ bit)
    ∙ counts operation k v n (drop (location + 1) log) is)
    (λ other. tells ∙ other.0
    ∙ same false _ (sym (inactive_elsewhere log location k v n stands (λ l. other.1 (sym at ∙ l))) ∙ bit)
    ∙ counts operation k v n (drop (location + 1) log) is)
    (eqb_tells place location)

missing_here : (log : List Operation) (location : ℕ) (operation : Operation) (k v n : List ℕ)
    → slice_get log location ≡ Some operation → operation ≡ update (ordered k v n) → location < length log
    → value_at (places_of log) k ≡ None → false ≡ is_active_update operation (drop (location + 1) log)
missing_here log location operation k v n there is within none =
    let past = place_missing k log none in
    same false _ (sym (inactive_elsewhere log location k v n (there ∙ ap Some is) (λ at. omega (arith, at, past, within)))
    ∙ bit_at log location operation there)
    ∙ counts operation k v n (drop (location + 1) log) is

pub returns-in-Some : goal.returns-in-Some
returns-in-Some g c = λ operation there.
    let key = g.K.Write.encoding in
    let value = g.V.Write.encoding in
    let meaning = meaning_of key value in
    let u = c.in-Update.field-0 in
    let log : List Operation = meanings key value c.args.log.now in
    let stands = slice_get-map meaning c.args.log.now c.args.location
    ∙ ap (option_map meaning)
    (slice_get-get_or c.args.log.now c.args.location c.index-log-location.result
    c.requires.within ∙ ap Some (sym c.index-log-location.is ∙ c.in-Update.is)) in
    let is = same operation (update (ordered (key u.key) (value u.value) (key u.next_key))) (sym there ∙ stands) in
    let here = ap (slice_get c.args.ranked.now.names) (from_start c.args.location)
    ∙ c.requires.named c.args.location operation (key u.key) there (ap named is) in
    placed_here log c.args.location c.in-Some.at operation (key u.key) (value u.value) (key u.next_key) _ there is
    (ap (λ p. value_at p (key u.key)) (sym c.requires.places) ∙ sym (c.get.ensures (key u.key) here)
    ∙ ap (option_map (λ n. n ∷ [])) c.in-Some.is) refl

pub returns-in-None : goal.returns-in-None
returns-in-None g c = λ operation there.
    let key = g.K.Write.encoding in
    let value = g.V.Write.encoding in
    let meaning = meaning_of key value in
    let u = c.in-Update.field-0 in
    let log : List Operation = meanings key value c.args.log.now in
    let stands = slice_get-map meaning c.args.log.now c.args.location
    ∙ ap (option_map meaning)
    (slice_get-get_or c.args.log.now c.args.location c.index-log-location.result
    c.requires.within ∙ ap Some (sym c.index-log-location.is ∙ c.in-Update.is)) in
    let is = same operation (update (ordered (key u.key) (value u.value) (key u.next_key))) (sym there ∙ stands) in
    let here = ap (slice_get c.args.ranked.now.names) (from_start c.args.location)
    ∙ c.requires.named c.args.location operation (key u.key) there (ap named is) in
    missing_here log c.args.location operation (key u.key) (value u.value) (key u.next_key) there is
    (omega (arith, c.requires.within, length-map c.args.log.now meaning))
    (ap (λ p. value_at p (key u.key)) (sym c.requires.places) ∙ sym (c.get.ensures (key u.key) here)
    ∙ ap (option_map (λ n. n ∷ [])) c.in-None.is)

pub returns-in-Delete : goal.returns-in-Delete
returns-in-Delete g c = λ operation there.
    let key = g.K.Write.encoding in
    let value = g.V.Write.encoding in
    let log : List Operation = meanings key value c.args.log.now in
    let stands = slice_get-map (meaning_of key value) c.args.log.now c.args.location
    ∙ ap (option_map (meaning_of key value))
    (slice_get-get_or c.args.log.now c.args.location c.index-log-location.result
    c.requires.within ∙ ap Some (sym c.index-log-location.is ∙ c.in-Delete.is)) in
    ap (λ o. is_active_update o (drop (c.args.location + 1) log))
    (same (delete (key c.in-Delete.field-0)) operation (sym stands ∙ there))

pub returns-in-CommitFloor : goal.returns-in-CommitFloor
returns-in-CommitFloor g c = λ operation there.
    let key = g.K.Write.encoding in
    let value = g.V.Write.encoding in
    let log : List Operation = meanings key value c.args.log.now in
    let stands = slice_get-map (meaning_of key value) c.args.log.now c.args.location
    ∙ ap (option_map (meaning_of key value))
    (slice_get-get_or c.args.log.now c.args.location c.index-log-location.result
    c.requires.within ∙ ap Some (sym c.index-log-location.is ∙ c.in-CommitFloor.is)) in
    ap (λ o. is_active_update o (drop (c.args.location + 1) log))
    (same (commit_floor (option_map value c.in-CommitFloor.field-0) c.in-CommitFloor.field-1) operation
    (sym stands ∙ there))
