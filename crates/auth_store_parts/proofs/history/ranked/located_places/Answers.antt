use Rattle.std.proofs.Common.{◌≡◌, ◌∙◌, ◌++◌, ap, sym}
use Rattle.std.specs.List.{zip}
use Rattle.std.proofs.lemmas.List.{map-id}
use Rattle.std.proofs.lemmas.Iterator.{YieldsList-from_zip}
use Rattle.std.proofs.lemmas.Iterator.Adapters.{YieldsList-from_vec}
use Rattle.std.proofs.lemmas.Iterator.Consumers.{YieldsList-at, YieldsList-end}
use Rattle.auth_store_parts.specs.Ranked.{place_at}
use Rattle.auth_store_parts.proofs.Ranks.{entries_of, entries_of-zip, entries_of-push}
use Rattle.auth_store_parts.proofs.history.ranked.located_places.Goals as goal

pub loop-key-preserved : goal.loop-key-preserved
loop-key-preserved g c =
    let key = g.K.Write.encoding in
    c.in_ok-push_place.ensures
    ∙ (ap (λ entries. entries ++ place_at (key c.in-Some.key) c.in-Some.slot) c.loop-key.invariant
    ∙ sym (entries_of-push key c.loop-key.yielded (c.in-Some.key, c.in-Some.slot)))

pub returns : goal.returns
returns g c =
    let key = g.K.Write.encoding in
    let keys = c.args.keys in
    let slots = c.args.slots in
    let end = YieldsList-end (YieldsList-at c.into_iter-key-iterator.ensures.into_iter_gives
    (YieldsList-from_zip
    (YieldsList-at c.zip-key-items.ensures.first
    (YieldsList-from_vec keys.items c.into_iter.ensures.rest (c.into_iter.ensures.len ∙ keys.ok.0)))
    (YieldsList-from_vec slots.items c.zip-key-items.ensures.second.0 (c.zip-key-items.ensures.second.1 ∙ slots.ok.0))))
    c.loop-key.yielded c.loop-key.key-iterator c.loop-key.yielded_by c.next.result c.next.new.self c.in-None.is
    c.next.ensures.steps in
    let all : c.loop-key.yielded ≡ zip keys.items slots.items = sym (map-id c.loop-key.yielded) ∙ end.0 in
    c.loop-key.invariant ∙ (ap (entries_of key) all ∙ entries_of-zip key keys.items slots.items)
