use Rattle.std.proofs.Common.{◌≡◌, ◌<◌, ℕ, List, length, map, sym, ap, ◌∙◌, subst, arith}
use Rattle.std.specs.Prelude.{MatchOption}
use Rattle.std.specs.List.{AllByRecursion}
use Rattle.std.proofs.lemmas.List.{length-map}
use Rattle.std.proofs.lemmas.Nat.{pow_pos}
use Rattle.merkle_forest.specs.Codec.{Outcome}
use Rattle.state_ops.specs.Operation.{Operation, meaning_of}
use Rattle.state_theory.specs.Encoded.{FitsRange}
use Rattle.state_theory.specs.Laws.Encoded.{Grammar, grammar_of}
use Rattle.state_proofs.specs.ProofsCode.{range_parts_of}
use Rattle.state_theory.specs.Verified.{RangeParts, VerifiesRange}
use Rattle.auth_store_client.specs.Claims.{Terms, terms, encoded, range_encoding, bits_over}
use Rattle.auth_store_client.proofs.ShownRanges.{as_claimed, range_exactly}
use Rattle.auth_store_client.proofs.range.shows_range.Goals as goal

pub returns-clause-exact : goal.returns-clause-exact
returns-clause-exact g c =
    let those : Terms = terms g.F.Family.merge_rule g.H.HashFunction.hash_of c.args.width g.H.Digest.FixedSize.SIZE g.F.PendingOf.is_pending
    g.F.PendingOf.pending_encoding (g.K.Read.after tt) (g.V.Read.after tt) g.K.FixedSize.SIZE g.V.FixedSize.SIZE in
    let digest : List ℕ → Outcome = g.H.Digest.Read.after tt in
    let held : List ℕ → Outcome = g.F.PendingOf.pending_after in
    let grammar : Grammar digest held g.F.PendingOf.is_pending g.F.PendingOf.pending_encoding
    g.H.Digest.FixedSize.SIZE = grammar_of
    g.met.H.Digest.Digest.any_bytes g.met.F.PendingOf.pending_again g.met.F.PendingOf.pending_once in
    let root : List ℕ = g.H.Digest.Write.encoding c.args.root.now in
    let proof : RangeParts = range_parts_of g.H.Digest.Write.encoding g.F.PendingOf.held c.in-Some-2.range.proof in
    let chunks : List (List ℕ) = map (λ chunk. chunk.now) c.in-Some-2.range.chunks.items in
    let operations : List Operation = map (meaning_of g.K.Write.encoding g.V.Write.encoding) c.args.operations.now in
    let width : c.in-Some.chunk_size.width ≡ c.args.width = c.in-Some.ensures.some in
    let some : 0 < c.args.width = omega (arith, width, c.in-Some.chunk_size.whole, pow_pos c.in-Some.chunk_size.grafting_height) in
    let found = subst (λ f. MatchOption f
    ((p : RangeParts) (cs : List (List ℕ)) → FitsRange g.F.PendingOf.is_pending g.H.Digest.FixedSize.SIZE 244 p
    → AllByRecursion (λ chunk. length chunk ≡ c.args.width) cs
    → c.args.bytes.now ≡ range_encoding g.F.PendingOf.pending_encoding p cs → ⊥)
    (λ range. FitsRange g.F.PendingOf.is_pending g.H.Digest.FixedSize.SIZE 244
    (range_parts_of g.H.Digest.Write.encoding g.F.PendingOf.held range.proof)
    × AllByRecursion (λ chunk. length chunk ≡ c.args.width) (map (λ chunk. chunk.now) range.chunks.items)
    × (c.args.bytes.now ≡ range_encoding g.F.PendingOf.pending_encoding
    (range_parts_of g.H.Digest.Write.encoding g.F.PendingOf.held range.proof) (map (λ chunk. chunk.now) range.chunks.items))))
    c.in-Some-2.is c.in_ok-range.ensures in
    let exactly = range_exactly those digest held (omega arith) grammar some root c.args.bytes.now c.args.start operations c.args.active.now proof
    chunks found.0 found.1 found.2 in
    let elements : List (List ℕ) = map (λ operation. operation.now) c.deref-2.result.now in
    let same : elements ≡ map (encoded those) operations =
    ap (map (λ e. e.now)) c.deref-2.ensures.value ∙ c.in_ok-elements.ensures ∙ ap (map (λ e. e.items)) c.deref.ensures.value
    ∙ c.in_ok-encoded.ensures.encoded in
    let count : length c.deref-2.result.now ≡ length operations =
    sym (length-map c.deref-2.result.now (λ e. e.now)) ∙ ap length same ∙ length-map operations (encoded those) in
    let Holds : List (List ℕ) → ℕ → ℕ → Type 0 = λ es w n.
    VerifiesRange g.F.Family.merge_rule g.H.HashFunction.hash_of root proof (record {
      start = c.args.start;
      operations = es;
      chunks = chunks;
      width = w;
    })
    × (c.args.active.now ≡ bits_over w c.args.start chunks n) in
    let claimed = as_claimed Holds elements (map (encoded those) operations) c.in-Some.chunk_size.width c.args.width (length c.deref-2.result.now)
    (length operations) same width count in (
      λ yes. exactly.0 (claimed.0 (c.verifies.ensures.0 yes)),
      λ it. c.verifies.ensures.1 (claimed.1 (exactly.1 it)),
    )

pub returns-clause-fields : goal.returns-clause-fields
returns-clause-fields g c = λ yes. c.in_ok-encoded.ensures.fields
