use Rattle.std.proofs.Common.{◌≡◌, ℕ, ◌*◌, ◌%◌, List, Some, length, option_map, sym, ◌∙◌, ap, ap₂}
use Rattle.merkle_core_parts.specs.Laws.Plain.{length-plain}
use Rattle.state_theory.specs.Canonical.{Setting, next_bit, partial_digest, setting_with}
use Rattle.state_proving.proofs.root_witness.partial_chunk.Goals as goal

pub returns-in-Some : goal.returns-in-Some
returns-in-Some g c height state stands =
    let rule = g.F.Family.merge_rule in
    let hash = g.H.HashFunction.hash_of in
    let setting : Setting = setting_with rule hash g.row.N height in
    let digest : List ℕ = g.H.Digest.Write.encoding c.in-Some.digest in
    let count : c.as_u64.result ≡ length state.operations =
    c.as_u64.ensures ∙ c.leaves.ensures.leaves ∙ stands.operations.counted ∙ length-plain hash rule 0 state.operations in
    let next : c.bit_of-next.result ≡ next_bit setting state =
    c.bit_of-next.ensures.bit ∙ ap₂ (λ n w. n % (8 * w)) count c.chunk_size.ensures in
    let found : partial_digest setting state ≡ Some digest =
    sym (c.partial_digest.ensures height state stands) ∙ ap (option_map g.H.Digest.Write.encoding) c.in-Some.is in
    ap (λ (n : ℕ). Some (n, digest)) next
    ∙ ap (option_map {U = ℕ × List ℕ} (λ (d : List ℕ). (next_bit setting state, d))) (sym found)

pub returns-in-None : goal.returns-in-None
returns-in-None g c height state stands =
    let setting : Setting = setting_with g.F.Family.merge_rule g.H.HashFunction.hash_of g.row.N height in
    ap (option_map {U = ℕ × List ℕ} (λ (d : List ℕ). (next_bit setting state, d)))
    (ap (option_map g.H.Digest.Write.encoding) (sym c.in-None.is) ∙ c.partial_digest.ensures height state stands)
