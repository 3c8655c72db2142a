use Rattle.std.proofs.Common.{◌≡◌, ◌∙◌, ◌-◌, ◌<◌, ◌∷◌, ◌++◌, [], Some, length, map, slice_get, take, ap, sym, subst, arith, refl}
use Rattle.std.specs.List.{All}
use Rattle.std.proofs.lemmas.List.{map-id, length-map, length-set}
use Rattle.std.proofs.lemmas.List.Elements.{All-same, All-take}
use Rattle.std.proofs.lemmas.Option.{slice_get_within}
use Rattle.std.proofs.lemmas.Iterator.Adapters.{YieldsList-from_vec}
use Rattle.std.proofs.lemmas.Iterator.Consumers.{YieldsList-turn, YieldsList-so_far}
use Rattle.auth_store_parts.proofs.Named.{order_next, names_more, last_at, last_pushed}
use Rattle.auth_store_parts.proofs.history.ranked.rank_keys.Goals as goal

pub push_new_key-requires-clause-order : goal.push_new_key-requires-clause-order
push_new_key-requires-clause-order g c last is =
    let sorted = c.args.sorted.items in
    let gives = c.into_iter-key-iterator.ensures.into_iter_gives in
    let road = YieldsList-from_vec {s = c.into_iter-key-iterator.result} sorted gives.0 (gives.1 ∙ c.args.sorted.ok.0) in
    let turn = YieldsList-turn road c.loop-key.yielded c.loop-key.key-iterator c.loop-key.yielded_by c.next.result
    c.next.new.self (c.in-Some.key, c.in-Some.location) c.in-Some.is c.next.ensures.steps in
    order_next g.K.Write.encoding sorted c.loop-key.yielded (c.in-Some.key, c.in-Some.location) last c.requires.ascending
    (YieldsList-so_far road c.loop-key.yielded c.loop-key.key-iterator c.loop-key.yielded_by) turn.0 turn.1
    (sym c.loop-key.invariant.last ∙ is)

pub index_mut-requires : goal.index_mut-requires
index_mut-requires g c =
    let sorted = c.args.sorted.items in
    let gives = c.into_iter-key-iterator.ensures.into_iter_gives in
    let road = YieldsList-from_vec {s = c.into_iter-key-iterator.result} sorted gives.0 (gives.1 ∙ c.args.sorted.ok.0) in
    let turn = YieldsList-turn road c.loop-key.yielded c.loop-key.key-iterator c.loop-key.yielded_by c.next.result
    c.next.new.self (c.in-Some.key, c.in-Some.location) c.in-Some.is c.next.ensures.steps in
    let named : slice_get c.requires.named.0 c.in-Some.location ≡ Some (Some (g.K.Write.encoding c.in-Some.key)) =
    subst (λ e. slice_get c.requires.named.0 e.1 ≡ Some (Some (g.K.Write.encoding e.0))) (sym turn.1)
    (c.requires.named.2 (length c.loop-key.yielded) (c.in-Some.key, c.in-Some.location) turn.0) in
    let within : c.in-Some.location < length c.requires.named.0 =
    slice_get_within c.requires.named.0 c.in-Some.location (Some (g.K.Write.encoding c.in-Some.key)) named in
    omega (arith, within, c.requires.named.1, c.loop-key.invariant.long, c.loop-key.ranks.ok.0)

pub loop-key-preserved : goal.loop-key-preserved
loop-key-preserved g c =
    let key = g.K.Write.encoding in
    let names = c.requires.named.0 in
    let sorted = c.args.sorted.items in
    let passed = c.loop-key.yielded in
    let keys = c.push_new_key.new.keys in
    let gives = c.into_iter-key-iterator.ensures.into_iter_gives in
    let road = YieldsList-from_vec {s = c.into_iter-key-iterator.result} sorted gives.0 (gives.1 ∙ c.args.sorted.ok.0) in
    let turn = YieldsList-turn road passed c.loop-key.key-iterator c.loop-key.yielded_by c.next.result
    c.next.new.self (c.in-Some.key, c.in-Some.location) c.in-Some.is c.next.ensures.steps in
    let so_far = YieldsList-so_far road passed c.loop-key.key-iterator c.loop-key.yielded_by in
    let named : slice_get names c.in-Some.location ≡ Some (Some (key c.in-Some.key)) =
    subst (λ e. slice_get names e.1 ≡ Some (Some (key e.0))) (sym turn.1)
    (c.requires.named.2 (length passed) (c.in-Some.key, c.in-Some.location) turn.0) in
    let within : c.in-Some.location < length names =
    slice_get_within names c.in-Some.location (Some (key c.in-Some.key)) named in
    let all : All (λ e. slice_get names e.1 ≡ Some (Some (key e.0))) passed =
    All-same (λ e. slice_get names e.1 ≡ Some (Some (key e.0))) passed (take (length passed) sorted)
    (sym (map-id passed) ∙ so_far)
    (All-take (λ e. slice_get names e.1 ≡ Some (Some (key e.0))) (length passed) sorted c.requires.named.2) in
    let rank : length (map key keys.items) - 1 ≡ c.len-in-loop-key.result - 1 =
    ap (λ n. n - 1) (length-map keys.items key ∙ sym (c.len-in-loop-key.ensures ∙ keys.ok.0)) in
    record {
      ascending = c.in_ok-push_new_key.ensures.ascending;
      long = length-set c.loop-key.ranks.items c.in-Some.location (c.len-in-loop-key.result - 1) ∙ c.loop-key.invariant.long;
      named = names_more key names (map key c.loop-key.keys.items) (map key keys.items) c.loop-key.ranks.items
          (c.in-Some.key, c.in-Some.location) (c.len-in-loop-key.result - 1)
          (omega (arith, within, c.requires.named.1, c.loop-key.invariant.long))
          (ap (slice_get (map key keys.items)) (sym rank)
          ∙ last_at (map key keys.items) (key c.in-Some.key) c.in_ok-push_new_key.ensures.last)
          c.in_ok-push_new_key.ensures.kept named passed all c.loop-key.invariant.named;
      last = c.in_ok-push_new_key.ensures.last
          ∙ sym (last_pushed (λ e. key e.0) passed (passed ++ (c.in-Some.key, c.in-Some.location) ∷ [])
          (c.in-Some.key, c.in-Some.location) refl);
    }
