use Rattle.std.proofs.Common.{ℕ}
use Rattle.merkle_forest.specs.Forest.{Rule}
use Rattle.merkle_forest.specs.Hashing.{Hash}
use Rattle.state_theory.specs.Canonical.{Setting}
use Rattle.state_theory.specs.Verified.{shown_alone}
use Rattle.state_proofs.proofs.OneEachProofs.{shown_one, witnessed_one}
use Rattle.state_theory.specs.Laws.OneEachStates.{hashed_one}
use Rattle.state_proofs.proofs.laws.each_site_has_one_string.Goals as goal

-- the setting of the law
abbrev setting_of : Rule → Hash → ℕ → ℕ → Setting
setting_of rule hash width grafting_height = record {
  rule = rule;
  hash = hash;
  width = width;
  grafting_height = grafting_height;
}

pub returns : goal.returns
returns g c = record {
  hashed = λ hash width grafting_height state.
      hashed_one (setting_of g.F.Family.merge_rule hash width grafting_height) state g.met.F.Family.merges_equals;
  rebuilt = λ hash width grafting_height proof operation.
      shown_one (setting_of g.F.Family.merge_rule hash width grafting_height) proof.range (shown_alone proof operation) g.met.F.Family.merges_equals;
  shown = λ hash width grafting_height proof shown.
      shown_one (setting_of g.F.Family.merge_rule hash width grafting_height) proof shown g.met.F.Family.merges_equals;
  witnessed = λ hash witness operations. witnessed_one hash witness operations;
}
