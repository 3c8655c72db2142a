use Rattle.std.proofs.Common.{arith, refl}
use Rattle.proofs_player.proofs.maps.Map.answer_of_width.Goals as goal

pub answer-requires : goal.answer-requires
answer-requires c = (omega arith, (3, refl, omega arith))

pub answer-requires-in-Some-ThirtyTwo : goal.answer-requires-in-Some-ThirtyTwo
answer-requires-in-Some-ThirtyTwo c = (omega arith, (8, refl, omega arith))

pub answer-requires-in-Some-SixtyFour : goal.answer-requires-in-Some-SixtyFour
answer-requires-in-Some-SixtyFour c = (omega arith, (9, refl, omega arith))
