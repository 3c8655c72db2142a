use Rattle.std.proofs.Common.{length}
use Rattle.pages_player.proofs.syncing.+play.Given as goal

abbrev pub decreases-play : goal.decreases-play
decreases-play g l = length l.words.now
