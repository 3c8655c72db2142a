use Rattle.std.proofs.Common.{◌≡◌}
use Rattle.auth_store_parts.specs.Staged.{told, taken_back, CanTakeBack}
use Rattle.auth_store_parts.proofs.history.places.Places.take_back.Given as goal

abbrev pub invariant-loop-key : goal.invariant-loop-key
invariant-loop-key g l = record {
  taken : taken_back l.self (told g.K.Write.encoding l.earlier.items)
      ≡ taken_back l.initial.self (told g.K.Write.encoding l.initial.earlier.items);
  can : CanTakeBack l.self (told g.K.Write.encoding l.earlier.items);
}

abbrev pub decreases-loop-key : goal.decreases-loop-key
decreases-loop-key g l = goal.left-loop-key g l
