use Rattle.pages_player.proofs.syncing.take.Goals as goal

pub returns-clause-under_way : goal.returns-clause-under_way
returns-clause-under_way g c =
    c.try_append.ensures.under_way (g.B.Blob.calls c.args._blob.now) c.args._sync.now c.requires.under_way
