use Rattle.std.proofs.Common.{◌+◌, ◌^◌, ◌≡◌, suc, ap, arith}
use Rattle.merkle_forest.specs.Laws.Mmb.{size-mmb}
use Rattle.merkle_forest.proofs.mmb.position_of_a_leaf.Goals as goal

pub returns : goal.returns
returns c n k few low high =
    let next : k + 1 ≡ suc k = omega arith in
    let power : 2 ^ (k + 1) ≡ 2 ^ suc k = ap (λ e. 2 ^ e) next in
    omega (arith, size-mmb n k low (omega (arith, high, power)))
