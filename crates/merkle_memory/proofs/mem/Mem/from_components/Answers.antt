use Rattle.std.proofs.Common.{◌≡◌, ◌+◌, None, length, map, sym, ◌∙◌, ap, arith}
use Rattle.std.proofs.lemmas.List.{length-map}
use Rattle.merkle_core_parts.specs.Mem.{AreKeptNodes, encoded, node_count, pinned_positions}
use Rattle.merkle_core_parts.specs.Laws.Placed.{shape-placed, count-pinned, few-pinned}
use Rattle.merkle_memory.proofs.mem.Mem.from_components.Given.{Over}
use Rattle.merkle_memory.proofs.mem.Mem.from_components.Goals as goal

pub returns-then-pinned_nodes-count_peaks-clause-refused : goal.returns-then-pinned_nodes-count_peaks-clause-refused
returns-then-pinned_nodes-count_peaks-clause-refused g c =
    let rule = g.F.Family.merge_rule in
    let boundary : c.as_u64-boundary.result ≡ c.args.pruning_boundary = c.as_u64-boundary.ensures in
    let sized : node_count rule c.args.pruning_boundary + length c.args.nodes.items ≡ node_count rule c.in-Some.leaves =
    omega (
      arith,
      c.in-Some.ensures.some.1,
      c.as_u64-start.ensures,
      c.location_to_position.ensures,
      c.len.ensures,
    ) in (
      omega (arith, c.as_u64.ensures, c.if-as_u64-gt-MAX_LEAVES.false),
      (c.in-Some.leaves, c.in-Some.ensures.some.0, sized),
      λ same. c.if-pinned_nodes-count_peaks.true (same ∙ ap (λ b. length (pinned_positions rule b)) (sym boundary)
          ∙ sym (c.count_peaks.ensures (λ p. None)
          ∙ count-pinned rule c.as_u64-boundary.result (λ p. None))),
    )

pub placed_at_peaks-requires-clause-counted : goal.placed_at_peaks-requires-clause-counted
placed_at_peaks-requires-clause-counted g c =
    c.if-pinned_nodes-count_peaks.false ∙ c.count_peaks.ensures (λ p. None)
    ∙ count-pinned g.F.Family.merge_rule c.as_u64-boundary.result (λ p. None)

shape : (g : Over) (c : goal.After-as_u64-2 g) → AreKeptNodes g.F.Family.merge_rule (record {
  leaves = c.as_u64-2.result;
  boundary = c.as_u64-boundary.result;
  pinned = encoded g.D.Write.encoding c.in_ok-pinned.pinned.items;
  digests = map g.D.Write.encoding c.args.nodes.items;
})
shape g c =
    let encoding = g.D.Write.encoding in
    let rule = g.F.Family.merge_rule in
    let n = c.as_u64-2.result in
    let b = c.as_u64-boundary.result in
    let sized : node_count rule n ≡ node_count rule b + length (map encoding c.args.nodes.items) =
    omega (
      arith,
      ap (node_count rule) c.as_u64-2.ensures,
      c.in-Some.ensures.some.1,
      c.as_u64-start.ensures,
      c.location_to_position.ensures,
      ap (node_count rule) c.as_u64-boundary.ensures,
      c.len.ensures,
      length-map c.args.nodes.items encoding,
    ) in
    shape-placed rule g.met.F.Family.merges_equals n b (encoded encoding c.in_ok-pinned.pinned.items)
    (map encoding c.args.pinned_nodes.now) (map encoding c.args.nodes.items) sized c.in_ok-pinned.ensures
    (length-map c.args.pinned_nodes.now encoding ∙ c.if-pinned_nodes-count_peaks.false
    ∙ c.count_peaks.ensures (λ p. None) ∙ count-pinned rule b (λ p. None))

pub invariant_of-result : goal.invariant_of-result
invariant_of-result g c = (
  omega (arith, c.as_u64-2.ensures, c.in-Some.ensures.some.0),
  c.as_u64-start.ensures ∙ c.location_to_position.ensures
      ∙ ap (node_count g.F.Family.merge_rule) (sym c.as_u64-boundary.ensures),
  shape g c,
  few-pinned g.D.Write.encoding g.F.Family.merge_rule g.met.F.Family.peaks_bounded c.as_u64-2.result
      c.as_u64-boundary.result c.in_ok-pinned.pinned.items (map g.D.Write.encoding c.args.nodes.items)
      (omega (arith, c.as_u64-2.ensures, c.in-Some.ensures.some.0)) (shape g c),
)

pub returns-clause-shape : goal.returns-clause-shape
returns-clause-shape g c = (omega (arith, c.as_u64-2.ensures, c.in-Some.ensures.some.0), shape g c)

pub returns-clause-counted : goal.returns-clause-counted
returns-clause-counted g c =
    c.if-pinned_nodes-count_peaks.false ∙ c.count_peaks.ensures (λ p. None)
    ∙ count-pinned g.F.Family.merge_rule c.as_u64-boundary.result (λ p. None)
    ∙ ap (λ b. length (pinned_positions g.F.Family.merge_rule b)) c.as_u64-boundary.ensures
