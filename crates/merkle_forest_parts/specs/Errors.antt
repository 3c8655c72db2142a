-- The printed texts of the codec's errors.
use Rattle.std.specs.Prelude.{ℕ, List, ◌++◌, codes}
use Rattle.std.specs.Fmt.{decimal}
use Rattle.merkle_forest_parts.specs.declared.codec.error.Error.{Error}
use Rattle.merkle_forest_parts.specs.declared.codec.error.Error.TheVariants.{EndOfBuffer, ExtraData, InvalidVarint}
use Rattle.merkle_forest_parts.specs.declared.codec.error.Error.TheVariants.{InvalidBool, InvalidEnum, InvalidLength}
use Rattle.merkle_forest_parts.specs.declared.codec.error.Error.TheVariants.{Invalid, Memory}

-- an error's number and what it means
abbrev pub error_text : Error → List ℕ
error_text EndOfBuffer = codes "C1: unexpected end of the bytes"
error_text ExtraData = codes "C2: bytes left over"
error_text InvalidVarint = codes "C3: invalid varint"
error_text InvalidBool = codes "C4: invalid bool"
error_text (InvalidEnum tag) = codes "C5: invalid tag " ++ decimal tag
error_text InvalidLength = codes "C6: invalid length"
error_text Invalid = codes "C7: invalid value"
error_text Memory = codes "C8: out of memory"
