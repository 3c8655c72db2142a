use Rattle.std.proofs.Common.{◌≡◌, ℕ, List, map, sym, ap, ◌∙◌, subst, arith}
use Rattle.std.specs.Prelude.{MatchOption}
use Rattle.merkle_forest.specs.Codec.{Outcome}
use Rattle.state_ops.specs.Operation.{Operation, meaning_of}
use Rattle.state_theory.specs.Laws.Encoded.{Grammar, grammar_of}
use Rattle.auth_store_client.specs.Claims.{Terms, terms, encoded}
use Rattle.auth_store_client.specs.Slices.{SliceParts, slice_encoding, FitsSlice, VerifiesSlice}
use Rattle.auth_store_client.specs.SlicesCode.{slice_of}
use Rattle.auth_store_client.proofs.ShownSlices.{slice_exactly}
use Rattle.auth_store_client.proofs.slice.shows_slice.Goals as goal

pub returns-clause-exact : goal.returns-clause-exact
returns-clause-exact g c =
    let those : Terms = terms g.F.Family.merge_rule g.H.HashFunction.hash_of c.args.width g.H.Digest.FixedSize.SIZE g.F.PendingOf.is_pending
    g.F.PendingOf.pending_encoding (g.K.Read.after tt) (g.V.Read.after tt) g.K.FixedSize.SIZE g.V.FixedSize.SIZE in
    let digest : List ℕ → Outcome = g.H.Digest.Read.after tt in
    let held : List ℕ → Outcome = g.F.PendingOf.pending_after in
    let grammar : Grammar digest held g.F.PendingOf.is_pending g.F.PendingOf.pending_encoding
    g.H.Digest.FixedSize.SIZE = grammar_of
    g.met.H.Digest.Digest.any_bytes g.met.F.PendingOf.pending_again g.met.F.PendingOf.pending_once in
    let root : List ℕ = g.H.Digest.Write.encoding c.args.root.now in
    let slice : SliceParts = slice_of g.H.Digest.Write.encoding g.F.PendingOf.held c.in-Some.slice in
    let operations : List Operation = map (meaning_of g.K.Write.encoding g.V.Write.encoding) c.args.operations.now in
    let found = subst (λ f. MatchOption f
    ((s : SliceParts) → FitsSlice g.F.PendingOf.is_pending g.H.Digest.FixedSize.SIZE 244 s
    → c.args.bytes.now ≡ slice_encoding g.F.PendingOf.pending_encoding s → ⊥)
    (λ s. FitsSlice g.F.PendingOf.is_pending g.H.Digest.FixedSize.SIZE 244 (slice_of g.H.Digest.Write.encoding g.F.PendingOf.held s)
    × (c.args.bytes.now ≡ slice_encoding g.F.PendingOf.pending_encoding (slice_of g.H.Digest.Write.encoding g.F.PendingOf.held s))))
    c.in-Some.is c.in_ok-slice.ensures in
    let exactly = slice_exactly those digest held (omega arith) grammar root c.args.bytes.now c.args.start operations slice found.0 found.1 in
    let same : map (λ operation. operation.now) c.deref-2.result.now ≡ map (encoded those) operations =
    ap (map (λ e. e.now)) c.deref-2.ensures.value ∙ c.in_ok-elements.ensures ∙ ap (map (λ e. e.items)) c.deref.ensures.value
    ∙ c.in_ok-encoded.ensures.encoded in
    let Holds : List (List ℕ) → Type 0 = VerifiesSlice g.F.Family.merge_rule g.H.HashFunction.hash_of root slice c.args.start in (
      λ yes. exactly.0 (subst Holds same (c.verifies.ensures.0 yes)),
      λ it. c.verifies.ensures.1 (subst Holds (sym same) (exactly.1 it)),
    )

pub returns-clause-fields : goal.returns-clause-fields
returns-clause-fields g c = λ yes. c.in_ok-encoded.ensures.fields
