use Rattle.std.proofs.Common.{◌≡◌, ◌*◌, ◌/◌, ◌<◌, ◌≤◌, [], ◌++◌, length, sym, ◌∙◌, ap, ap₂, subst, arith}
use Rattle.std.proofs.lemmas.Nat.{pow_pos}
use Rattle.state_theory.specs.Canonical.{Setting, setting_with}
use Rattle.state_theory.specs.Laws.SameNodes.{born}
use Rattle.state_current.specs.Kept.{Kept, StandsFor, IsPendingAmong}
use Rattle.state_theory.specs.Bits.{bit_count}
use Rattle.state_current.proofs.CurrentLemmas.{IsGraftable, full_of_bits, may_get, pending_among, pending_none, pending_some}
use Rattle.state_current.proofs.current.Current.pending_digest.Goals as goal

pub returns-then-graftable-full-clause-digest : goal.returns-then-graftable-full-clause-digest
returns-then-graftable-full-clause-digest g c height state stands =
    let setting : Setting = setting_with g.F.Family.merge_rule g.H.HashFunction.hash_of g.row.N height in
    let facts : IsGraftable g.F.Family.merge_rule = record {
      root = g.F.Graftable.root_of;
      birth = g.F.Graftable.birth_of;
      pairs = g.met.F.Family.merges_equals;
      roots = g.met.F.Graftable.roots;
      aligned = g.met.F.Graftable.aligned;
      born = born g.met.F.Graftable.births g.met.F.Graftable.births_apart g.met.F.Graftable.births_soon;
      counted = λ n chunk level few some low. g.met.F.Graftable.chunks_counted n chunk level few some low;
    } in
    let kept : Kept = record {
      operations = c.self.inside.operations;
      chunks = c.self.inside.chunks;
      bits = c.self.inside.bits;
      floor = c.self.inside.floor;
    } in
    let here : StandsFor setting state kept = subst (StandsFor setting state) (sym c.self.view_is) stands in
    pending_none setting state kept facts here c.self.invariant c.as_u64-graftable.result c.full_chunks-full.result
    (c.as_u64-graftable.ensures ∙ c.leaves.ensures.leaves)
    (c.full_chunks-full.ensures ∙ ap₂ (λ n w. n / (8 * w)) c.len.ensures.length c.chunk_size.ensures) c.if-graftable-full.true

pub get_chunk-requires : goal.get_chunk-requires
get_chunk-requires g c =
    let from : c.self.inside.bits.pruned ≤ c.as_u64-graftable.result =
    omega (
      arith,
      c.pruning_boundary-boundary.ensures.within,
      c.pruning_boundary-boundary.ensures.boundary,
      c.self.invariant.pruned,
      c.as_u64-graftable.ensures,
      c.leaves.ensures.leaves,
    ) in
    let full = c.full_chunks-full.ensures ∙ ap₂ (λ n w. n / (8 * w)) c.len.ensures.length c.chunk_size.ensures in
    let some : 0 < g.row.N = omega (arith, c.chunk_size.result.whole, c.chunk_size.ensures, pow_pos c.chunk_size.result.grafting_height) in (
      omega arith,
      (
        from,
        may_get g.row.N c.as_u64-graftable.result c.self.inside.bits from
            (full_of_bits g.row.N c.as_u64-graftable.result (bit_count g.row.N c.self.inside.bits) some (omega (arith, c.if-graftable-full.false, full))),
      ),
    )

pub returns-clause-digest : goal.returns-clause-digest
returns-clause-digest g c height state stands =
    let setting : Setting = setting_with g.F.Family.merge_rule g.H.HashFunction.hash_of g.row.N height in
    let facts : IsGraftable g.F.Family.merge_rule = record {
      root = g.F.Graftable.root_of;
      birth = g.F.Graftable.birth_of;
      pairs = g.met.F.Family.merges_equals;
      roots = g.met.F.Graftable.roots;
      aligned = g.met.F.Graftable.aligned;
      born = born g.met.F.Graftable.births g.met.F.Graftable.births_apart g.met.F.Graftable.births_soon;
      counted = λ n chunk level few some low. g.met.F.Graftable.chunks_counted n chunk level few some low;
    } in
    let kept : Kept = record {
      operations = c.self.inside.operations;
      chunks = c.self.inside.chunks;
      bits = c.self.inside.bits;
      floor = c.self.inside.floor;
    } in
    let here : StandsFor setting state kept = subst (StandsFor setting state) (sym c.self.view_is) stands in
    pending_some setting state kept facts here c.self.invariant c.as_u64-graftable.result c.full_chunks-full.result
    c.get_chunk.result.now (g.H.Digest.Write.encoding c.hash.result)
    (c.as_u64-graftable.ensures ∙ c.leaves.ensures.leaves)
    (c.full_chunks-full.ensures ∙ ap₂ (λ n w. n / (8 * w)) c.len.ensures.length c.chunk_size.ensures) c.if-graftable-full.false
    (omega (
      arith,
      c.pruning_boundary-boundary.ensures.within,
      c.pruning_boundary-boundary.ensures.boundary,
      c.self.invariant.pruned,
      c.as_u64-graftable.ensures,
      c.leaves.ensures.leaves,
    ))
    c.get_chunk.ensures c.hash.ensures

pub returns-clause-some : goal.returns-clause-some
returns-clause-some g c =
    let rule = g.F.Family.merge_rule in
    let kept : Kept = record {
      operations = c.self.inside.operations;
      chunks = c.self.inside.chunks;
      bits = c.self.inside.bits;
      floor = c.self.inside.floor;
    } in
    let digest = g.H.Digest.Write.encoding c.hash.result in
    let sized : length digest ≡ g.H.Digest.FixedSize.SIZE =
    ap length c.hash.ensures ∙ g.met.H.HashFunction.sized (c.get_chunk.result.now ++ []) in
    let full = c.full_chunks-full.ensures ∙ ap₂ (λ n w. n / (8 * w)) c.len.ensures.length c.chunk_size.ensures in
    subst (λ (k : Kept). IsPendingAmong rule g.row.N k.operations.leaves g.H.Digest.FixedSize.SIZE digest) c.self.view_is
    (pending_among rule g.row.N kept c.self.invariant c.as_u64-graftable.result c.full_chunks-full.result g.H.Digest.FixedSize.SIZE digest
    (c.as_u64-graftable.ensures ∙ c.leaves.ensures.leaves) full c.if-graftable-full.false sized)
