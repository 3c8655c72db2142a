use Rattle.std.proofs.Common.{◌≡◌, suc, ◌+◌, ◌^◌, ap, arith}
use Rattle.merkle_forest.specs.Laws.Mmb.{length-log, heights-mmb}
use Rattle.merkle_forest.proofs.mmb.heights_of_the_peaks.Goals as goal

pub returns-clause-count : goal.returns-clause-count
returns-clause-count c n k low high =
    let next : k + 1 ≡ suc k = omega arith in
    let power : 2 ^ (k + 1) ≡ 2 ^ suc k = ap (λ e. 2 ^ e) next in
    length-log n k low (omega (arith, high, power))

pub returns-clause-heights : goal.returns-clause-heights
returns-clause-heights c = heights-mmb
