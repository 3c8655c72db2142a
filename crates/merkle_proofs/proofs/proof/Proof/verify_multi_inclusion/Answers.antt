use Rattle.std.proofs.Common.{sym, ◌∙◌}
use Rattle.merkle_proofs.proofs.proof.Proof.verify_multi_inclusion.Goals as goal

pub returns : goal.returns
returns g c names over by =
    let same = c.in_ok-found.ensures names over by in (
      λ yes. sym same ∙ c.is_root.ensures.0 yes,
      λ leads. c.is_root.ensures.1 (same ∙ leads),
    )
