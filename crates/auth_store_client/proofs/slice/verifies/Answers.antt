use Rattle.std.proofs.Common.{◌≡◌, ℕ, List, Option, Some, None, sym, ◌∙◌, subst}
use Rattle.state_proofs.specs.Witness.{witness_of, witnessed_string}
use Rattle.auth_store_client.proofs.slice.verifies.Goals as goal

pub returns-in-None : goal.returns-in-None
returns-in-None g c = (
  λ e. absurd cc,
  λ it. absurd (let clash : ◌≡◌ {A = Option (List ℕ)} None (Some it.operations_root) = c.in-None.ensures ∙ it.leads in cc),
)

pub returns-in-Some : goal.returns-in-Some
returns-in-Some g c =
    let found : List ℕ = g.H.Digest.Write.encoding c.in-Some.operations_root in (
      λ yes. record { operations_root = found; leads = sym c.in-Some.ensures; seals = c.verify.ensures.0 yes },
      λ it.
          let both : Some it.operations_root ≡ Some found = sym it.leads ∙ sym c.in-Some.ensures in
          let same : it.operations_root ≡ found = cc in
          c.verify.ensures.1 (subst (λ (root : List ℕ). g.H.HashFunction.hash_of
          (witnessed_string (witness_of g.H.Digest.Write.encoding g.F.PendingOf.held c.args.slice.now.witness) root)
          ≡ g.H.Digest.Write.encoding c.args.root.now) same it.seals),
    )
