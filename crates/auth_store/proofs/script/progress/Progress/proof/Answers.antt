use Rattle.std.proofs.Common.{◌++◌, ◌∙◌, [], Some, ap, sym, refl, option_map}
use Rattle.std.specs.Prelude.{codes}
use Rattle.hex.specs.Hex.{encode_lower}
use Rattle.auth_store_parts.specs.Report.{reported}
use Rattle.auth_store.specs.ScriptCode.{kept_of}
use Rattle.auth_store.proofs.ScriptLines.{goes_none}
use Rattle.auth_store.proofs.script.progress.Progress.proof.Goals as goal

pub returns : goal.returns
returns g c = (
  [],
  reported (codes "proof " ++ encode_lower c.deref.result.now),
  (
    (
      refl,
      ap (λ bytes. Some (reported (codes "proof " ++ encode_lower bytes))) c.deref.ensures.value
          ∙ sym (ap (λ k. option_map (λ kept. reported (codes "proof " ++ encode_lower kept.0)) (kept_of k)) c.in-Some.is),
      refl,
    ),
    goes_none g.F.Named.family c.args.self.now.session,
  ),
  c.in_ok-report_proof.ensures,
)
