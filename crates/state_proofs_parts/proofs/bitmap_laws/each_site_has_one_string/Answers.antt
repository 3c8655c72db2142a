use Rattle.std.proofs.Common.{◌*◌, ◌/◌, ◌∷◌, []}
use Rattle.merkle_forest.specs.Forest.{mmr_rule}
use Rattle.merkle_theory.specs.Reads.{claim_of}
use Rattle.state_theory.specs.Bits.{full_chunks}
use Rattle.state_theory.proofs.OneEachLemmas.{made_one, rebuilt_one}
use Rattle.state_proofs_parts.proofs.bitmap_laws.each_site_has_one_string.Goals as goal

pub returns : goal.returns
returns c = record {
  hashed = λ hash bagging width all. made_one hash bagging width all
      (c.each_site_has_one_string.ensures.hashed hash bagging (full_chunks width all) 0);
  rebuilt = λ hash bagging width claim. rebuilt_one hash bagging width claim (λ digests.
      c.each_site_has_one_string.ensures.rebuilt hash bagging (claim_of bagging mmr_rule (claim.bits / (8 * width)) 0
      (claim.bit / (8 * width)) (claim.chunk ∷ []) digests));
}
