use Rattle.std.proofs.Common.{List, ℕ, ◌++◌, ap, subst}
use Rattle.state_theory.specs.Canonical.{Setting, canonical_root}
use Rattle.state_theory.specs.Verified.{Verifies}
use Rattle.state_proofs.proofs.laws.honest_bytes_show_the_update.Goals as goal

pub returns : goal.returns
returns g c width grafting_height state location update next_key whole low few within is_active is is_key =
    let setting : Setting = record {
      rule = g.F.Family.merge_rule;
      hash = g.H.HashFunction.hash_of;
      width =
          width;
      grafting_height = grafting_height;
    } in
    let shown = c.honest_bytes_show_the_operation.ensures width grafting_height state location whole low few within
    is_active in
    record {
      proof = shown.proof;
      next_key = next_key;
      is = ap (λ bytes. bytes ++ next_key) shown.is;
      fits = shown.fits;
      key = is_key;
      verifies = subst (λ (operation : List ℕ). Verifies g.F.Family.merge_rule g.H.HashFunction.hash_of
          (canonical_root setting state) shown.proof operation) is shown.verifies;
    }
