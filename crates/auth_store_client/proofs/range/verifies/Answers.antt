use Rattle.std.proofs.Common.{◌≡◌, ℕ, List, Bool, true, false, length, map, sym, ap, ◌∙◌, subst, arith}
use Rattle.state_proofs.specs.ProofsCode.{range_parts_of}
use Rattle.state_theory.specs.Verified.{VerifiesRange}
use Rattle.auth_store_client.proofs.Lists.{length-range}
use Rattle.auth_store_client.proofs.range.verifies.Goals as goal

pub returns-then-active-operations : goal.returns-then-active-operations
returns-then-active-operations g c = (
  λ e. absurd cc,
  λ it. absurd (omega (arith, ap length it.1 ∙ length-range _ c.args.start (length c.args.operations.now), c.if-active-operations.true)),
)

pub returns-then-not-verify_with_chunk_size : goal.returns-then-not-verify_with_chunk_size
returns-then-not-verify_with_chunk_size g c =
    let Verifies : ℕ → List (List ℕ) → Type 0 = λ start chunks.
    VerifiesRange g.F.Family.merge_rule g.H.HashFunction.hash_of (g.H.Digest.Write.encoding c.args.root.now)
    (range_parts_of g.H.Digest.Write.encoding g.F.PendingOf.held c.args.range.now.proof) (record {
      start = start;
      operations = map (λ operation. operation.now) c.args.operations.now;
      chunks = chunks;
      width = c.args.chunk_size.width;
    }) in (
      λ e. absurd cc,
      λ it.
          let own : Verifies c.new-first.result (map (λ chunk. chunk.now) c.deref.result.now) =
          subst (λ (s : ℕ). Verifies s (map (λ chunk. chunk.now) c.deref.result.now)) (sym c.new-first.ensures)
          (subst (Verifies c.args.start) (ap (map (λ chunk. chunk.now)) (sym c.deref.ensures.value)) it.0) in
          absurd (let clash : ◌≡◌ {A = Bool} false true = c.if-not-verify_with_chunk_size.ensures.1 own in cc),
    )
