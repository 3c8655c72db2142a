use Rattle.merkle_theory.specs.Laws.MadeTrees.{all_sized}
use Rattle.state_theory.proofs.SoundLemmas.{bit_sound}
use Rattle.state_proofs_parts.proofs.bitmap_laws.shown_bits_are_true_or_strings_collide.Goals as goal

pub returns : goal.returns
returns c hash bagging width all claim hash_sized sized wide few few_claim =
    bit_sound hash hash_sized bagging width wide all few claim few_claim (all_sized 32 claim.digests sized)
