use Rattle.std.proofs.Common.{◌≡◌, ℕ, ◌-◌, Bool, List, [], ◌∷◌, ◌++◌, take, drop, sym, ◌∙◌, ap, arith}
use Rattle.auth_store_ledger.specs.History.{activity_bits}
use Rattle.auth_store_proving.proofs.Answered.{item_more}
use Rattle.auth_store_proving.proofs.between.bits_between.Goals as goal

pub loop-location-init : goal.loop-location-init
loop-location-init g c log of =
    let none : c.args.start - c.args.start ≡ 0 = omega arith in
    c.new-bits.ensures.items ∙ ap (λ (n : ℕ). take n (drop c.args.start (activity_bits log))) (sym none)

pub loop-location-preserved : goal.loop-location-preserved
loop-location-preserved g c log of =
    let bits : List Bool = activity_bits log in
    c.in_ok-push.ensures.items ∙ (ap (λ (l : List Bool). l ++ c.is_active.result ∷ []) (c.loop-location.invariant log of)
    ∙ sym (item_more bits c.args.start c.loop-location.location c.is_active.result (omega arith) (c.is_active.ensures log of)))

pub returns : goal.returns
returns g c log of =
    let bits : List Bool = activity_bits log in
    let end : c.loop-location.location ≡ c.args.stop = omega arith in
    c.loop-location.invariant log of ∙ ap (λ (n : ℕ). take (n - c.args.start) (drop c.args.start bits)) end
