use Rattle.std.proofs.Common.{◌≡◌, ◌*◌, ◌/◌, ◌<◌, sym, ◌∙◌, ◌%◌, ap, ap₂, subst, arith}
use Rattle.std.proofs.lemmas.Nat.{pow_pos}
use Rattle.state_theory.specs.Canonical.{Setting, setting_with}
use Rattle.state_theory.specs.Laws.SameNodes.{born}
use Rattle.state_current.specs.Kept.{Kept, StandsFor}
use Rattle.state_theory.specs.Bits.{bit_count}
use Rattle.state_current.proofs.CurrentLemmas.{IsGraftable, pruned_of_bits, rest_of_bits, may_get, partial_none, partial_some}
use Rattle.state_current.proofs.current.Current.partial_digest.Goals as goal

pub returns-then-bit_of-eq0 : goal.returns-then-bit_of-eq0
returns-then-bit_of-eq0 g c height state stands =
    let setting : Setting = setting_with g.F.Family.merge_rule g.H.HashFunction.hash_of g.row.N height in
    let facts : IsGraftable g.F.Family.merge_rule = record {
      root = g.F.Graftable.root_of;
      birth = g.F.Graftable.birth_of;
      pairs = g.met.F.Family.merges_equals;
      roots = g.met.F.Graftable.roots;
      aligned = g.met.F.Graftable.aligned;
      born = born g.met.F.Graftable.births g.met.F.Graftable.births_apart g.met.F.Graftable.births_soon;
      counted = λ n chunk level few some low. g.met.F.Graftable.chunks_counted n chunk level few some low;
    } in
    let kept : Kept = record {
      operations = c.self.inside.operations;
      chunks = c.self.inside.chunks;
      bits = c.self.inside.bits;
      floor = c.self.inside.floor;
    } in
    let here : StandsFor setting state kept = subst (StandsFor setting state) (sym c.self.view_is) stands in
    partial_none setting state kept facts here c.self.invariant c.bit_of.result c.len-count.result c.len-count.ensures.length
    (c.bit_of.ensures.bit ∙ ap (λ w. c.len-count.result % (8 * w)) c.chunk_size-size.ensures) c.if-bit_of-eq0.true

pub get_chunk-requires : goal.get_chunk-requires
get_chunk-requires g c =
    let full : c.full_chunks.result ≡ bit_count g.row.N c.self.inside.bits / (8 * g.row.N) =
    c.full_chunks.ensures ∙ ap₂ (λ n w. n / (8 * w)) c.len-count.ensures.length c.chunk_size-size.ensures in
    let next : c.bit_of.result ≡ bit_count g.row.N c.self.inside.bits % (8 * g.row.N) =
    c.bit_of.ensures.bit ∙ ap₂ (λ n w. n % (8 * w)) c.len-count.ensures.length c.chunk_size-size.ensures in
    let some : 0 < g.row.N = omega (arith, c.chunk_size-size.result.whole, c.chunk_size-size.ensures, pow_pos c.chunk_size-size.result.grafting_height) in
    let from = pruned_of_bits g.row.N c.full_chunks.result c.self.inside.bits some full in (
      omega arith,
      (
        from,
        may_get g.row.N c.full_chunks.result c.self.inside.bits from
            (rest_of_bits g.row.N c.full_chunks.result c.bit_of.result (bit_count g.row.N c.self.inside.bits) full next (λ none. c.if-bit_of-eq0.false none)),
      ),
    )

pub returns : goal.returns
returns g c height state stands =
    let setting : Setting = setting_with g.F.Family.merge_rule g.H.HashFunction.hash_of g.row.N height in
    let facts : IsGraftable g.F.Family.merge_rule = record {
      root = g.F.Graftable.root_of;
      birth = g.F.Graftable.birth_of;
      pairs = g.met.F.Family.merges_equals;
      roots = g.met.F.Graftable.roots;
      aligned = g.met.F.Graftable.aligned;
      born = born g.met.F.Graftable.births g.met.F.Graftable.births_apart g.met.F.Graftable.births_soon;
      counted = λ n chunk level few some low. g.met.F.Graftable.chunks_counted n chunk level few some low;
    } in
    let kept : Kept = record {
      operations = c.self.inside.operations;
      chunks = c.self.inside.chunks;
      bits = c.self.inside.bits;
      floor = c.self.inside.floor;
    } in
    let here : StandsFor setting state kept = subst (StandsFor setting state) (sym c.self.view_is) stands in
    let full : c.full_chunks.result ≡ bit_count g.row.N c.self.inside.bits / (8 * g.row.N) =
    c.full_chunks.ensures ∙ ap₂ (λ n w. n / (8 * w)) c.len-count.ensures.length c.chunk_size-size.ensures in
    let some : 0 < g.row.N = omega (arith, c.chunk_size-size.result.whole, c.chunk_size-size.ensures, pow_pos c.chunk_size-size.result.grafting_height) in
    partial_some setting state kept facts here c.self.invariant c.bit_of.result c.len-count.result c.full_chunks.result
    c.get_chunk.result.now (g.H.Digest.Write.encoding c.hash.result) c.len-count.ensures.length
    (c.bit_of.ensures.bit ∙ ap (λ w. c.len-count.result % (8 * w)) c.chunk_size-size.ensures) (λ none. c.if-bit_of-eq0.false none)
    (c.full_chunks.ensures ∙ ap (λ w. c.len-count.result / (8 * w)) c.chunk_size-size.ensures)
    (pruned_of_bits g.row.N c.full_chunks.result c.self.inside.bits some full) c.get_chunk.ensures c.hash.ensures
