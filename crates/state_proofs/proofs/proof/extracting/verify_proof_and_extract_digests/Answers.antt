use Rattle.std.proofs.Common.{◌≡◌, ℕ, ◌*◌, List, map, IfOk, sym, ◌∙◌, ap, subst}
use Rattle.merkle_forest.specs.Forest.{Rule}
use Rattle.merkle_forest.specs.Hashing.{Hash}
use Rattle.merkle_proofs.specs.Extracted.{AreExtracted}
use Rattle.state_proofs.specs.ProofsCode.{range_parts_of}
use Rattle.state_proofs.specs.RangeExtracted.{ShowsDigests, shown_with, told_by}
use Rattle.state_theory.specs.Verified.{Shown, RangeParts}
use Rattle.state_theory.specs.Laws.Heights.{same_power}
use Rattle.state_proofs.proofs.proof.extracting.verify_proof_and_extract_digests.Goals as goal

pub returns-clause-told : goal.returns-clause-told
returns-clause-told g c = λ level digest whole shows.
    let rule : Rule = g.F.Family.merge_rule in
    let hash : Hash = g.H.HashFunction.hash_of in
    let encoding = g.H.Digest.Write.encoding in
    let size = c.in-Some.chunk_size in
    let proof : RangeParts = range_parts_of encoding g.F.PendingOf.held c.args.proof.now in
    let start : ℕ = c.args.start_loc in
    let operations : List (List ℕ) = map g.O.Write.encoding c.args.operations.now in
    let chunks : List (List ℕ) = c.args.chunks.now in
    let asked : Shown = shown_with start operations chunks g.row.N in
    let height : level ≡ size.grafting_height =
    same_power level size.grafting_height (sym whole ∙ ap (λ n. 8 * n) (sym c.in-Some.ensures.some) ∙ size.whole) in
    let operations_is : map (λ e. e.now) c.deref-2.result.now ≡ operations =
    ap (map (λ e. e.now)) c.deref-2.ensures.value ∙ c.in_ok-elements.ensures ∙ ap (map (λ e. e.items)) c.deref.ensures.value
    ∙ c.in_ok-encoded.ensures in
    let chunks_is : map (λ chunk. chunk.now) c.deref-3.result.now ≡ chunks =
    ap (map (λ chunk. chunk.now)) c.deref-3.ensures.value ∙ c.in_ok-shown_chunks.ensures in
    let same : shown_with c.as_u64.result (map (λ e. e.now) c.deref-2.result.now) (map (λ chunk. chunk.now) c.deref-3.result.now) size.width ≡ asked =
    ap (λ (s : ℕ). shown_with s (map (λ e. e.now) c.deref-2.result.now) (map (λ chunk. chunk.now) c.deref-3.result.now) size.width) c.as_u64.ensures
    ∙ ap (λ (ops : List (List ℕ)). shown_with start ops (map (λ chunk. chunk.now) c.deref-3.result.now) size.width) operations_is
    ∙ ap (λ (cs : List (List ℕ)). shown_with start operations cs size.width) chunks_is
    ∙ ap (shown_with start operations chunks) c.in-Some.ensures.some in
    subst (λ (x : Shown). IfOk c.extract_encoded.result (λ found. AreExtracted encoding digest (told_by rule proof x) found.items)) same
    (c.extract_encoded.ensures.told digest
    (subst (λ (x : Shown). ShowsDigests rule hash size.grafting_height proof x digest) (sym same)
    (subst (λ (h : ℕ). ShowsDigests rule hash h proof asked digest) height shows)))
