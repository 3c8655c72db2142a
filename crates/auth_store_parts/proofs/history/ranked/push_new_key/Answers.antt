use Rattle.std.proofs.Common.{◌≡◌, Some, map, ap, sym, ◌∙◌, false}
use Rattle.std.specs.Ordering.{is_lt}
use Rattle.auth_store_parts.specs.Map.{key_order}
use Rattle.auth_store_parts.specs.Ranked.{last_key}
use Rattle.auth_store_parts.proofs.Ranks.{one_key}
use Rattle.auth_store_parts.proofs.Named.{last_read, last_none, ascending_above, ascending_first, last_pushed, kept_pushed}
use Rattle.auth_store_parts.proofs.history.ranked.push_new_key.Goals as goal
use Rattle.auth_store_parts.proofs.history.ranked.push_new_key.Goals.{in_default-via-in-Some+else-not-is_lt, in_default-via-in_default}

pub returns-in-Some-clause-last : goal.returns-in-Some-clause-last
returns-in-Some-clause-last g c =
    let key = g.K.Write.encoding in
    let last = c.in-Some.last.now in
    let at : last_key (map key c.args.keys.now.items) ≡ Some (key last) =
    last_read key c.args.keys.now.items c.deref.result.now last c.deref.ensures.value c.in-Some.ensures.value in
    let above : is_lt (key_order (key last) (key c.args.key)) ≡ false =
    ap is_lt (sym c.compare.ensures)
    ∙ (sym c.is_lt.ensures ∙ c.if-not-is_lt.true) in
    at ∙ ap (λ k. Some k) (one_key (key last) (key c.args.key) above (c.requires.order (key last) at))

pub returns-in_ok-push-in_default-clause-ascending : goal.returns-in_ok-push-in_default-clause-ascending
returns-in_ok-push-in_default-clause-ascending g c =
    let key = g.K.Write.encoding in
    let keys = c.args.keys.now.items in
    elim c.in_default.branch [
      | in_default-via-in-Some+else-not-is_lt w ↦ ascending_above key keys c.push.new.self.items c.args.key
          c.in_ok-push-in_default.ensures.items w.in-Some.last.now c.requires.ascending
          (last_read key keys c.deref.result.now w.in-Some.last.now c.deref.ensures.value w.in-Some.ensures.value)
          (ap is_lt (sym w.compare.ensures)
          ∙ (sym w.is_lt.ensures ∙ w.if-not-is_lt.false))
      | in_default-via-in_default w ↦ ascending_first key keys c.push.new.self.items c.args.key
          c.in_ok-push-in_default.ensures.items c.requires.ascending
          (last_none key keys c.deref.result.now c.deref.ensures.value w.in_default.ensures.value)
    ]

pub returns-in_ok-push-in_default-clause-last : goal.returns-in_ok-push-in_default-clause-last
returns-in_ok-push-in_default-clause-last g c =
    last_pushed g.K.Write.encoding c.args.keys.now.items c.push.new.self.items c.args.key
    c.in_ok-push-in_default.ensures.items

pub returns-in_ok-push-in_default-clause-kept : goal.returns-in_ok-push-in_default-clause-kept
returns-in_ok-push-in_default-clause-kept g c =
    kept_pushed g.K.Write.encoding c.args.keys.now.items c.push.new.self.items c.args.key
    c.in_ok-push-in_default.ensures.items
