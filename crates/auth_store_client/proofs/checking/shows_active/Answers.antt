use Rattle.std.proofs.Common.{◌≡◌, List, ℕ, sym, ◌∙◌, subst, arith}
use Rattle.std.specs.Prelude.{MatchOption}
use Rattle.merkle_forest.specs.Codec.{Outcome}
use Rattle.state_ops.specs.Operation.{Operation, meaning_of}
use Rattle.state_theory.specs.Encoded.{operation_proof_encoding, Fits}
use Rattle.state_theory.specs.Laws.Encoded.{Grammar, grammar_of}
use Rattle.state_proofs.specs.ProofsCode.{parts_of}
use Rattle.state_theory.specs.Verified.{Parts, Verifies}
use Rattle.auth_store_client.specs.Claims.{Terms, terms}
use Rattle.auth_store_client.proofs.Shown.{active_exactly, active_elsewhere}
use Rattle.auth_store_client.proofs.checking.shows_active.Goals as goal

pub returns-in_ok-operation-in-Some-clause-exact : goal.returns-in_ok-operation-in-Some-clause-exact
returns-in_ok-operation-in-Some-clause-exact g c =
    let those : Terms = terms g.F.Family.merge_rule g.H.HashFunction.hash_of c.args.width g.H.Digest.FixedSize.SIZE g.F.PendingOf.is_pending
    g.F.PendingOf.pending_encoding (g.K.Read.after tt) (g.V.Read.after tt) g.K.FixedSize.SIZE g.V.FixedSize.SIZE in
    let digest : List ℕ → Outcome = g.H.Digest.Read.after tt in
    let held : List ℕ → Outcome = g.F.PendingOf.pending_after in
    let grammar : Grammar digest held g.F.PendingOf.is_pending g.F.PendingOf.pending_encoding
    g.H.Digest.FixedSize.SIZE = grammar_of
    g.met.H.Digest.Digest.any_bytes g.met.F.PendingOf.pending_again g.met.F.PendingOf.pending_once in
    let root : List ℕ = g.H.Digest.Write.encoding c.args.root.now in
    let proof : Parts = parts_of g.H.Digest.Write.encoding g.F.PendingOf.held c.in-Some.proof in
    let operation : Operation = meaning_of g.K.Write.encoding g.V.Write.encoding c.args.operation.now in
    let found = subst (λ f. MatchOption f
    ((p : Parts) → Fits g.F.PendingOf.is_pending c.args.width g.H.Digest.FixedSize.SIZE 122 p
    → c.args.bytes.now ≡ operation_proof_encoding g.F.PendingOf.pending_encoding p → ⊥)
    (λ p. Fits g.F.PendingOf.is_pending c.args.width g.H.Digest.FixedSize.SIZE 122 (parts_of g.H.Digest.Write.encoding g.F.PendingOf.held p)
    × (c.args.bytes.now ≡ operation_proof_encoding g.F.PendingOf.pending_encoding (parts_of g.H.Digest.Write.encoding g.F.PendingOf.held p))))
    c.in-Some.is c.in_ok-read_operation.ensures in
    let at : c.in-Some.proof.loc ≡ c.args.location = grind arith in
    let exactly = active_exactly those digest held (omega arith) grammar root c.args.bytes.now c.args.location operation proof found.0 found.1 at in
    let bytes = c.deref.ensures.value ∙ c.in_ok-operation-in-Some.ensures.bytes in (
      λ yes. exactly.0 (subst (Verifies g.F.Family.merge_rule g.H.HashFunction.hash_of root proof) bytes (c.verify.ensures.0 yes)),
      λ it. c.verify.ensures.1 (subst (Verifies g.F.Family.merge_rule g.H.HashFunction.hash_of root proof) (sym bytes) (exactly.1 it)),
    )

pub returns-then-as_u64-location-clause-exact : goal.returns-then-as_u64-location-clause-exact
returns-then-as_u64-location-clause-exact g c =
    let those : Terms = terms g.F.Family.merge_rule g.H.HashFunction.hash_of c.args.width g.H.Digest.FixedSize.SIZE g.F.PendingOf.is_pending
    g.F.PendingOf.pending_encoding (g.K.Read.after tt) (g.V.Read.after tt) g.K.FixedSize.SIZE g.V.FixedSize.SIZE in
    let digest : List ℕ → Outcome = g.H.Digest.Read.after tt in
    let held : List ℕ → Outcome = g.F.PendingOf.pending_after in
    let grammar : Grammar digest held g.F.PendingOf.is_pending g.F.PendingOf.pending_encoding
    g.H.Digest.FixedSize.SIZE = grammar_of
    g.met.H.Digest.Digest.any_bytes g.met.F.PendingOf.pending_again g.met.F.PendingOf.pending_once in
    let root : List ℕ = g.H.Digest.Write.encoding c.args.root.now in
    let proof : Parts = parts_of g.H.Digest.Write.encoding g.F.PendingOf.held c.in-Some.proof in
    let operation : Operation = meaning_of g.K.Write.encoding g.V.Write.encoding c.args.operation.now in
    let found = subst (λ f. MatchOption f
    ((p : Parts) → Fits g.F.PendingOf.is_pending c.args.width g.H.Digest.FixedSize.SIZE 122 p
    → c.args.bytes.now ≡ operation_proof_encoding g.F.PendingOf.pending_encoding p → ⊥)
    (λ p. Fits g.F.PendingOf.is_pending c.args.width g.H.Digest.FixedSize.SIZE 122 (parts_of g.H.Digest.Write.encoding g.F.PendingOf.held p)
    × (c.args.bytes.now ≡ operation_proof_encoding g.F.PendingOf.pending_encoding (parts_of g.H.Digest.Write.encoding g.F.PendingOf.held p))))
    c.in-Some.is c.in_ok-read_operation.ensures in
    let other : (c.in-Some.proof.loc ≡ c.args.location) → ⊥ = λ at. absurd (let t = at in grind arith) in (
      λ no. absurd cc,
      λ it. absurd (active_elsewhere those digest held (omega arith) grammar root c.args.bytes.now c.args.location operation proof found.0
          found.1 other it),
    )

pub returns-in_ok-operation-in-Some-clause-fields : goal.returns-in_ok-operation-in-Some-clause-fields
returns-in_ok-operation-in-Some-clause-fields g c = λ yes. c.in_ok-operation-in-Some.ensures.fields
