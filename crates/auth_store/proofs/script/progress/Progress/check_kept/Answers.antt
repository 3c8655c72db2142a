use Rattle.std.proofs.Common.{◌≡◌, ℕ, List, [], None, Some, Option, ap, sym, refl, subst, MatchOption}
use Rattle.auth_store_parts.specs.Report.{reported}
use Rattle.auth_store_client.specs.Claims.{Claim, Shows}
use Rattle.auth_store_client.specs.ClaimsCode.{claim_of}
use Rattle.auth_store.specs.ScriptLines.{Checks, bytes_of, checked_line, script_terms, value_of}
use Rattle.auth_store.specs.ScriptCode.{kept_of}
use Rattle.auth_store.proofs.ScriptLines.{checked, checks_as, goes_none}
use Rattle.auth_store.proofs.script.progress.Progress.check_kept.Goals as goal

pub returns : goal.returns
returns g c =
    let family = g.F.Named.family in
    let kept = c.in-Some.kept in
    let claim : Claim = claim_of bytes_of value_of c.args.claim.now in
    let text : List ℕ = reported (checked_line c.check-checked.result) in
    let Shown : List ℕ × List ℕ → Type 0 = λ k. Shows (script_terms family) claim k.1 k.0 in
    let Holds : List ℕ × List ℕ → Type 0 = λ k. (t : List ℕ) × (Some text ≡ Some t) × Checks (Shown k) t in
    let none : Type 0 = Some text ≡ None in
    let checks : Checks (Shown (c.deref.result.now, kept.root.bytes)) text =
    checks_as _ _ text (g.met.F.Named.shows claim kept.root.bytes c.deref.result.now)
    (checked c.check-checked.result _ c.check-checked.ensures.exact) in (
      [],
      text,
      (
        (
          refl,
          refl,
          subst (λ (o : Option (List ℕ × List ℕ)). MatchOption o none Holds) (sym (ap kept_of c.in-Some.is)) (
            text,
            refl,
            subst (λ (bytes : List ℕ). Checks (Shown (bytes, kept.root.bytes)) text) c.deref.ensures.value checks,
          ),
        ),
        goes_none family c.args.self.now.session,
      ),
      c.in_ok-report_checked.ensures,
    )
