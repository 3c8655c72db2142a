-- A snapshot of the code as a state and its setting.
use Rattle.std.specs.Prelude.{map}
use Rattle.merkle_forest.specs.Forest.{Rule}
use Rattle.merkle_forest.specs.Hashing.{Hash}
use Rattle.state_proofs_parts.specs.declared.snapshot.Snapshot.{Snapshot}
use Rattle.state_theory.specs.Canonical.{Setting, State}

abbrev pub state_of : Snapshot → State
state_of snapshot = record {
  operations = map (λ e. e.items) snapshot.operations.now;
  bits = snapshot.bits.now;
  floor = snapshot.floor;
}

abbrev pub setting_of : Rule → Hash → Snapshot → Setting
setting_of rule hash snapshot = record {
  rule = rule;
  hash = hash;
  width = snapshot.chunk_size.width;
  grafting_height = snapshot.chunk_size.grafting_height;
}
