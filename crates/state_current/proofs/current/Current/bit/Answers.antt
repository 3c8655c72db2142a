use Rattle.std.proofs.Common.{◌*◌, ◌<◌, ◌≤◌, slice_get, sym, ◌∙◌, ap, subst, arith}
use Rattle.state_theory.specs.Bits.{all_bits, bit_count}
use Rattle.state_current.specs.Kept.{Kept}
use Rattle.state_current.proofs.BitLemmas.{kept_bit}
use Rattle.state_current.proofs.current.Current.bit.Goals as goal

pub get_bit-requires : goal.get_bit-requires
get_bit-requires g c =
    let there = subst (λ (k : Kept). c.args.location < k.operations.leaves) (sym c.self.view_is) c.requires.there in
    let within : c.args.location < bit_count g.row.N c.self.inside.bits = omega (arith, c.self.invariant.bits, there) in (
      omega arith,
      (subst (λ (k : Kept). 8 * g.row.N * k.bits.pruned ≤ c.args.location) (sym c.self.view_is) c.requires.kept, within),
    )

pub returns : goal.returns
returns g c =
    let there = subst (λ (k : Kept). c.args.location < k.operations.leaves) (sym c.self.view_is) c.requires.there in
    ap (λ (k : Kept). slice_get (all_bits g.row.N k.bits) c.args.location) (sym c.self.view_is)
    ∙ kept_bit g.row.N c.args.location c.self.inside.bits c.get_bit.result
    (subst (λ (k : Kept). 8 * g.row.N * k.bits.pruned ≤ c.args.location) (sym c.self.view_is) c.requires.kept)
    (omega (arith, c.self.invariant.bits, there)) c.get_bit.ensures
