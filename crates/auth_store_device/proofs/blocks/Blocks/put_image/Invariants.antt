use Rattle.std.proofs.Common.{◌≡◌, ◌+◌, ◌*◌, ◌++◌, ◌<◌, length}
use Rattle.std.specs.List.{All}
use Rattle.auth_store_device.specs.BlocksCode.{image_in, piece_bytes, AreCut, IsPartWithin, Gains}
use Rattle.auth_store_device.proofs.Helds.{AreWhole}
use Rattle.auth_store_device.proofs.blocks.Blocks.put_image.Given as goal

abbrev pub invariant-loop-rest : goal.invariant-loop-rest
invariant-loop-rest l = record {
  gains : Gains l.fn.self l.self;
  within : All (IsPartWithin l.self.blocks) l.parts.items;
  cut : AreCut l.parts.items;
  whole : 0 < length l.rest → AreWhole l.parts.items;
  place : 0 < length l.rest → length l.parts.items * piece_bytes + length l.rest ≡ length l.fn.bytes;
  bytes : image_in l.self.blocks l.parts.items ++ l.rest ≡ l.fn.bytes;
}

abbrev pub decreases-loop-rest : goal.decreases-loop-rest
decreases-loop-rest l = length l.rest
