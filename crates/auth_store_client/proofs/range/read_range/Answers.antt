use Rattle.std.proofs.Common.{◌≡◌, ◌++◌, List, ℕ, length, map, sym, ◌∙◌, subst, arith}
use Rattle.std.specs.Prelude.{MatchOption}
use Rattle.std.specs.List.{AllByRecursion, flat_map}
use Rattle.state_theory.specs.Encoded.{range_proof_encoding, FitsRange}
use Rattle.state_theory.specs.Laws.Once.{range_once}
use Rattle.state_proofs.specs.ProofsCode.{range_parts_of}
use Rattle.state_theory.specs.Verified.{RangeParts}
use Rattle.auth_store_client.proofs.Chunks.{joined}
use Rattle.auth_store_client.proofs.range.read_range.Goals as goal

pub returns-in_default-2 : goal.returns-in_default-2
returns-in_default-2 g c proof chunks fits wide is =
    let own : RangeParts = range_parts_of g.D.Write.encoding g.F.PendingOf.held c.in-Some.proof in
    let found = subst (λ f. MatchOption f
    ((p : RangeParts) (rest : List ℕ) → FitsRange g.F.PendingOf.is_pending g.D.FixedSize.SIZE 244 p
    → c.args.bytes.now ≡ range_proof_encoding g.F.PendingOf.pending_encoding p ++ rest → ⊥)
    (λ it. FitsRange g.F.PendingOf.is_pending g.D.FixedSize.SIZE 244 (range_parts_of g.D.Write.encoding g.F.PendingOf.held it.0)
    × (c.args.bytes.now ≡ range_proof_encoding g.F.PendingOf.pending_encoding (range_parts_of g.D.Write.encoding g.F.PendingOf.held it.0)
    ++ it.1.now))) c.in-Some.is c.in_ok-proof.ensures in
    let none = subst (λ f. MatchOption f
    ((cs : List (List ℕ)) → AllByRecursion (λ chunk. length chunk ≡ c.args.width) cs
    → c.in-Some.rest.now ≡ flat_map (λ chunk. chunk) cs → ⊥)
    (λ cs. AllByRecursion (λ chunk. length chunk ≡ c.args.width) (map (λ chunk. chunk.now) cs.items)
    × (c.in-Some.rest.now ≡ flat_map (λ chunk. chunk) (map (λ chunk. chunk.now) cs.items)))) c.in_default-2.is c.in_ok-chunks.ensures in
    let same = range_once g.F.PendingOf.is_pending g.F.PendingOf.pending_encoding c.args.width g.D.FixedSize.SIZE 244 (omega arith)
    g.met.F.PendingOf.pending_once own proof c.in-Some.rest.now (joined chunks) found.0 fits (sym found.1 ∙ is) in
    none chunks wide same.1
