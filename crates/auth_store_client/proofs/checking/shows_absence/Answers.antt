use Rattle.std.proofs.Common.{◌≡◌, List, ℕ, subst, arith}
use Rattle.std.specs.Prelude.{MatchOption}
use Rattle.std.specs.declared.alloc.Global.{Global}
use Rattle.std.specs.declared.vec.Vec.{Vec}
use Rattle.merkle_forest.specs.Codec.{Outcome}
use Rattle.state_proofs.specs.Exclusion.{ExclusionParts, exclusion_encoding}
use Rattle.state_proofs.specs.ExclusionCode.{form_exclusion_of}
use Rattle.state_theory.specs.Laws.Encoded.{Grammar, grammar_of}
use Rattle.auth_store_client.specs.Claims.{Terms, terms, FitsExclusion}
use Rattle.auth_store_client.proofs.Decoding.{Fields}
use Rattle.auth_store_client.proofs.Shown.{absent_exactly, told_on}
use Rattle.auth_store_client.proofs.checking.shows_absence.Goals as goal

pub returns-in-Some : goal.returns-in-Some
returns-in-Some g c =
    let those : Terms = terms g.F.Family.merge_rule g.H.HashFunction.hash_of c.args.width g.H.Digest.FixedSize.SIZE g.F.PendingOf.is_pending
    g.F.PendingOf.pending_encoding (g.K.Read.after tt) (g.V.Read.after tt) g.K.FixedSize.SIZE g.V.FixedSize.SIZE in
    let digest : List ℕ → Outcome = g.H.Digest.Read.after tt in
    let held : List ℕ → Outcome = g.F.PendingOf.pending_after in
    let grammar : Grammar digest held g.F.PendingOf.is_pending g.F.PendingOf.pending_encoding
    g.H.Digest.FixedSize.SIZE = grammar_of
    g.met.H.Digest.Digest.any_bytes g.met.F.PendingOf.pending_again g.met.F.PendingOf.pending_once in
    let fields : Fields those (g.K.Read.after tt) (g.V.Read.after tt) = record {
      key_again = λ k rest is. is.1 rest;
      value_again = λ v rest is. is.1 rest;
      key_sized = λ k is. is.0;
      value_sized = λ v is. is.0;
    } in
    let proof : ExclusionParts = form_exclusion_of (λ (chunk : Vec ℕ Global). chunk.items) g.K.Write.encoding g.V.Write.encoding
    g.H.Digest.Write.encoding g.F.PendingOf.held c.in-Some.proof in
    let found = subst (λ f. MatchOption f
    ((p : ExclusionParts) → FitsExclusion those p
    → c.args.bytes.now ≡ exclusion_encoding g.F.PendingOf.pending_encoding p → ⊥)
    (λ p. let parts = form_exclusion_of (λ (chunk : Vec ℕ Global). chunk.items) g.K.Write.encoding g.V.Write.encoding
    g.H.Digest.Write.encoding g.F.PendingOf.held p in
    FitsExclusion those parts × (c.args.bytes.now ≡ exclusion_encoding g.F.PendingOf.pending_encoding parts)))
    c.in-Some.is c.in_ok-read_exclusion.ensures in
    told_on c.verify.result
    (absent_exactly those digest held (omega arith) grammar fields (g.H.Digest.Write.encoding c.args.root.now)
    (g.K.Write.encoding c.args.key.now) c.args.bytes.now proof found.0 found.1)
    c.verify.ensures
