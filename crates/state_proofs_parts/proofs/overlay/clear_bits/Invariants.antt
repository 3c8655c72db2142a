use Rattle.std.proofs.Common.{◌≡◌, ◌≤◌, ◌+◌, length, take}
use Rattle.state_theory.specs.Bits.{all_bits, cleared}
use Rattle.state_proofs_parts.proofs.overlay.clear_bits.Given as goal

abbrev pub invariant-loop-place : goal.invariant-loop-place
invariant-loop-place g l = record {
  base : l.overlay.base ≡ l.fn.overlay.base;
  pruned : l.overlay.after.pruned ≡ l.fn.overlay.after.pruned;
  count : length l.overlay.after.kept ≡ length l.fn.overlay.after.kept;
  all : all_bits g.row.N l.overlay.after ≡ cleared (all_bits g.row.N l.fn.overlay.after) (take l.place-index l.places);
  few : length l.overlay.cleared ≤ length l.fn.overlay.cleared + l.place-index;
}
