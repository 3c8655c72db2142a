use Rattle.std.proofs.Common.{◌∙◌, ap, sym, ◌∷◌, [], Some, option_map}
use Rattle.state_ops.specs.Operation.{meaning_of}
use Rattle.auth_store_parts.specs.History.{update_fields, meanings}
use Rattle.auth_store_parts.proofs.ChainCode.{none_placed, placed_at, placed_past}
use Rattle.auth_store_parts.proofs.history.chain.update_of.Goals as goal

pub returns-in_err-place : goal.returns-in_err-place
returns-in_err-place g c = λ q there.
    let key = g.K.Write.encoding in
    ap (option_map (λ u. (g.V.Write.encoding u.now.value, key u.now.next_key))) c.from_residual.ensures
    ∙ none_placed q (meanings key g.V.Write.encoding c.args.log.now) c.args.ranked.now.places c.requires
    (sym (ap (option_map (λ place. place ∷ [])) c.in_err-place.was) ∙ c.get.ensures q there)

pub returns-in_err-update : goal.returns-in_err-update
returns-in_err-update g c = λ q there.
    let key = g.K.Write.encoding in
    ap (option_map (λ u. (g.V.Write.encoding u.now.value, key u.now.next_key))) c.from_residual-in_err-update.ensures
    ∙ placed_past (meaning_of key g.V.Write.encoding) q c.args.log.now c.args.ranked.now.places
    c.in_ok-place.place c.requires
    (sym (ap (option_map (λ place. place ∷ [])) c.in_ok-place.was) ∙ c.get.ensures q there)
    c.in_err-update.ensures.lookup.3

pub returns-in-Delete : goal.returns-in-Delete
returns-in-Delete g c = λ q there.
    let key = g.K.Write.encoding in
    let meaning = meaning_of key g.V.Write.encoding in
    ap (λ o. update_fields (Some (meaning o))) (sym c.in-Delete.is)
    ∙ placed_at meaning q c.args.log.now c.args.ranked.now.places c.in_ok-place.place c.requires
    (sym (ap (option_map (λ place. place ∷ [])) c.in_ok-place.was) ∙ c.get.ensures q there)
    c.in_ok-update.field-0.now c.in_ok-update.ensures.lookup.3.0 c.in_ok-update.ensures.lookup.1

pub returns-in-Update : goal.returns-in-Update
returns-in-Update g c = λ q there.
    let key = g.K.Write.encoding in
    let meaning = meaning_of key g.V.Write.encoding in
    ap (λ o. update_fields (Some (meaning o))) (sym c.in-Update.is)
    ∙ placed_at meaning q c.args.log.now c.args.ranked.now.places c.in_ok-place.place c.requires
    (sym (ap (option_map (λ place. place ∷ [])) c.in_ok-place.was) ∙ c.get.ensures q there)
    c.in_ok-update.field-0.now c.in_ok-update.ensures.lookup.3.0 c.in_ok-update.ensures.lookup.1

pub returns-in-CommitFloor : goal.returns-in-CommitFloor
returns-in-CommitFloor g c = λ q there.
    let key = g.K.Write.encoding in
    let meaning = meaning_of key g.V.Write.encoding in
    ap (λ o. update_fields (Some (meaning o))) (sym c.in-CommitFloor.is)
    ∙ placed_at meaning q c.args.log.now c.args.ranked.now.places c.in_ok-place.place c.requires
    (sym (ap (option_map (λ place. place ∷ [])) c.in_ok-place.was) ∙ c.get.ensures q there)
    c.in_ok-update.field-0.now c.in_ok-update.ensures.lookup.3.0 c.in_ok-update.ensures.lookup.1
