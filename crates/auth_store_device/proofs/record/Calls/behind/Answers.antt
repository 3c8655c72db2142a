use Rattle.std.proofs.Common.{arith, ◌≡◌, ◌+◌, ◌-◌, ◌≤◌, length, take, drop, ap, sym, ◌∙◌}
use Rattle.std.proofs.lemmas.List.{drop-drop, drop-take, length-drop, length-take-le}
use Rattle.auth_store_device.proofs.record.Calls.behind.Goals as goal

pub returns : goal.returns
returns c =
    let all = c.self.inside.record_kept.now.in_order in
    let from = c.self.inside.from in
    let to = c.self.inside.to in
    let count = c.args.count in
    let long : length (take (to - from) (drop from all)) ≡ to - from =
    length-take-le (to - from) (drop from all) (omega (arith, c.self.invariant.0, c.self.invariant.1, length-drop from all)) in
    let few : count ≤ to - from = omega (arith, c.requires, ap length c.self.view_is, long) in
    let rest : to - (from + count) ≡ to - from - count = omega arith in
    let all_of : count + (to - from - count) ≡ to - from = omega (arith, few) in
    ap (λ n. take n (drop (from + count) all)) rest
    ∙ ap (take (to - from - count)) (sym (drop-drop count from all))
    ∙ sym (drop-take count (to - from - count) (drop from all))
    ∙ ap (λ n. drop count (take n (drop from all))) all_of
    ∙ ap (drop count) c.self.view_is
