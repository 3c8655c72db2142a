use Rattle.std.proofs.Common.{◌≡◌, ◌∙◌, ◌∷◌, [], ap, sym, Some, None, option_map, ⊎_elim, not, drop, length, ◌+◌, ◌-◌, arith}
use Rattle.std.proofs.lemmas.Option.{slice_get-map, slice_get-get_or}
use Rattle.std.proofs.lemmas.List.{length-map}
use Rattle.std.proofs.lemmas.Bool.Decides.{eqb_tells}
use Rattle.state_ops.specs.Operation.{meaning_of}
use Rattle.std.specs.List.{list_any}
use Rattle.std.proofs.lemmas.List.{drop-map, length-drop, take_all}
use Rattle.auth_store_parts.specs.History.{meanings, is_commit}
use Rattle.auth_store_parts.proofs.Mapped.{any_map}
use Rattle.auth_store_parts.specs.Laws.Places.{bit_at, active_where_located, inactive_elsewhere, place_found, place_missing}
use Rattle.auth_store_parts.specs.Map.{value_at}
use Rattle.auth_store_parts.proofs.history.activity.counts_at.Goals as goal

pub returns-in-Delete : goal.returns-in-Delete
returns-in-Delete g c =
    let meaning = meaning_of g.K.Write.encoding g.V.Write.encoding in
    let stands = slice_get-map meaning c.args.log.now c.args.location
    ∙ ap (option_map meaning) (slice_get-get_or c.args.log.now c.args.location c.index-log-location.result
    c.requires.within ∙ ap Some (sym c.index-log-location.is ∙ c.in-Delete.is)) in
    bit_at (meanings g.K.Write.encoding g.V.Write.encoding c.args.log.now) c.args.location _ stands

pub returns-in-Some : goal.returns-in-Some
returns-in-Some g c =
    let log = meanings g.K.Write.encoding g.V.Write.encoding c.args.log.now in
    let meaning = meaning_of g.K.Write.encoding g.V.Write.encoding in
    let key = g.K.Write.encoding c.in-Update.update.key in
    let stands = slice_get-map meaning c.args.log.now c.args.location
    ∙ ap (option_map meaning) (slice_get-get_or c.args.log.now c.args.location c.index-log-location.result
    c.requires.within ∙ ap Some (sym c.index-log-location.is ∙ c.in-Update.is)) in
    let found : value_at c.args.places.now key ≡ Some (c.in-Some.place ∷ []) = sym c.get.ensures
    ∙ ap (option_map (λ n. n ∷ [])) c.in-Some.is in
    let place = place_found key log c.in-Some.place (ap (λ places. value_at places key) (sym c.requires.places) ∙ found) in
    ⊎_elim
    (λ same. active_where_located log c.args.location _ _ _ stands (place ∙ same.1) ∙ ap Some (sym same.0))
    (λ other. inactive_elsewhere log c.args.location _ _ _ stands (λ at. other.1 (sym place ∙ at)) ∙ ap Some (sym other.0))
    (eqb_tells c.in-Some.place c.args.location)

pub returns-in-None : goal.returns-in-None
returns-in-None g c =
    let log = meanings g.K.Write.encoding g.V.Write.encoding c.args.log.now in
    let meaning = meaning_of g.K.Write.encoding g.V.Write.encoding in
    let key = g.K.Write.encoding c.in-Update.update.key in
    let stands = slice_get-map meaning c.args.log.now c.args.location
    ∙ ap (option_map meaning) (slice_get-get_or c.args.log.now c.args.location c.index-log-location.result
    c.requires.within ∙ ap Some (sym c.index-log-location.is ∙ c.in-Update.is)) in
    let missing : value_at c.args.places.now key ≡ None = sym c.get.ensures
    ∙ ap (option_map (λ n. n ∷ [])) c.in-None.is in
    let past = place_missing key log (ap (λ places. value_at places key) (sym c.requires.places) ∙ missing) in
    let count = length-map c.args.log.now meaning in
    inactive_elsewhere log c.args.location _ _ _ stands (λ at. omega (arith, at, past, count, c.requires.within))

pub returns-in-CommitFloor : goal.returns-in-CommitFloor
returns-in-CommitFloor g c =
    let meaning = meaning_of g.K.Write.encoding g.V.Write.encoding in
    let stands = slice_get-map meaning c.args.log.now c.args.location
    ∙ ap (option_map meaning) (slice_get-get_or c.args.log.now c.args.location c.index-log-location.result
    c.requires.within ∙ ap Some (sym c.index-log-location.is ∙ c.in-CommitFloor.is)) in
    let behind = drop (c.args.location + 1) c.args.log.now in
    let count = length-drop (c.args.location + 1) c.args.log.now in
    let whole = take_all (length c.args.log.now - (c.args.location + 1)) behind (omega (arith, count)) in
    bit_at (meanings g.K.Write.encoding g.V.Write.encoding c.args.log.now) c.args.location _ stands
    ∙ ap (λ b. Some (not b)) (ap (list_any is_commit) (drop-map meaning (c.args.location + 1) c.args.log.now)
    ∙ (any_map is_commit meaning behind
    ∙ (ap (list_any (λ operation. is_commit (meaning operation))) (sym whole) ∙ sym c.any_is_commit.ensures)))
