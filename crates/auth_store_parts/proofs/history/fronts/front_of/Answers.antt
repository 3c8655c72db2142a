use Rattle.std.proofs.Common.{◌∙◌, ◌<◌, ◌≤◌, ℕ, length, take, get_or, ap, subst}
use Rattle.std.specs.Int.{w64, from_be_bytes}
use Rattle.auth_store_parts.proofs.history.fronts.front_of.Goals as goal

pub returns : goal.returns
returns g c =
    let first = c.in_ok-front.ensures.cases in
    let whole = c.as_bytes.ensures ∙ g.met.K.FixedKey.spelled c.args.key.now in
    let front = first.same ∙ ap (take 8) whole in
    record {
      enough = subst (λ bytes. 8 ≤ length bytes) whole first.enough;
      spelled = c.number_of.ensures.spelled ∙ ap (from_be_bytes w64) front;
      small = subst (λ bytes. (i : ℕ) → get_or bytes i 0 < 256) front c.number_of.ensures.small;
    }
