use Rattle.std.proofs.Common.{length}
use Rattle.pages_player.proofs.sealing.+play_sealed.Given as goal

abbrev pub decreases-play_sealed : goal.decreases-play_sealed
decreases-play_sealed g l = length l.words.now
