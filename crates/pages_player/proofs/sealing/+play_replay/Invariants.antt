use Rattle.std.proofs.Common.{length}
use Rattle.pages_player.proofs.sealing.+play_replay.Given as goal

abbrev pub decreases-play_replay : goal.decreases-play_replay
decreases-play_replay g l = length l.words.now
