use Rattle.std.proofs.Common.{List, ℕ}
use Rattle.state_theory.specs.Canonical.{Setting}
use Rattle.auth_store_client.specs.Claims.{Claim, Terms, terms}
use Rattle.auth_store_client.specs.ClaimsCode.{claim_of}
use Rattle.auth_store_client.specs.States.{setting_of_width}
use Rattle.auth_store_client.proofs.Yes.{yes_proves}
use Rattle.auth_store_client.proofs.checking.check.Goals as goal

pub returns-clause-sound : goal.returns-clause-sound
returns-clause-sound g c size is_width =
    let setting : Setting = setting_of_width g.F.Family.merge_rule g.H.HashFunction.hash_of g.row.N in
    let those : Terms = terms g.F.Family.merge_rule g.H.HashFunction.hash_of g.row.N g.H.Digest.FixedSize.SIZE g.F.PendingOf.is_pending
    g.F.PendingOf.pending_encoding (g.K.Read.after tt) (g.V.Read.after tt) g.K.FixedSize.SIZE g.V.FixedSize.SIZE in
    let claim : Claim = claim_of g.K.Write.encoding g.V.Write.encoding c.args.claim.now in
    let root : List ℕ = g.H.Digest.Write.encoding c.args.root.now in
    yes_proves setting those claim root c.args.bytes.now c.shows.result c.shows.ensures.exact c.shows.ensures.fields
    (λ history names sound is shown. c.shown_claims_are_true_or_strings_collide.ensures claim history root c.args.bytes.now size is_width
    names sound is shown)
    (λ history names sound is shown. c.shown_claims_are_honest_or_strings_collide.ensures claim history root c.args.bytes.now size is_width
    names sound is shown)
