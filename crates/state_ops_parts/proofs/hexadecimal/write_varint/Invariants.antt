use Rattle.std.proofs.Common.{◌≡◌, ℕ, List, ◌++◌}
use Rattle.std.specs.Fmt.{HasWritten, IsPlainFormatter}
use Rattle.hex.specs.Hex.{encode_lower}
use Rattle.merkle_forest.specs.Varint.{varint}
use Rattle.state_ops_parts.proofs.hexadecimal.write_varint.Given as goal

abbrev pub invariant-loop-rest : goal.invariant-loop-rest
invariant-loop-rest g l =
    IsPlainFormatter l.fn.f → (done : List ℕ) × (HasWritten g.W.Write.write_str_gives l.fn.f done l.f
    × (done ++ encode_lower (varint l.rest) ≡ encode_lower (varint l.number)))

abbrev pub decreases-loop-rest : goal.decreases-loop-rest
decreases-loop-rest g l = l.rest
