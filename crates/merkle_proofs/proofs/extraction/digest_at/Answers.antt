use Rattle.std.proofs.Common.{◌∙◌, ap}
use Rattle.merkle_proofs.proofs.Extractions.{at_index}
use Rattle.merkle_proofs.proofs.extraction.digest_at.Goals as goal

pub returns : goal.returns
returns g c d rest is =
    let enc = g.D.Write.encoding in
    let it = at_index enc c.args.digests.now c.args.index c.index-digests-index.result d rest is in
    (ap enc c.index-digests-index.is ∙ it.0, it.1)
