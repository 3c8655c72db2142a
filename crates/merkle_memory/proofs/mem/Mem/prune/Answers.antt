use Rattle.std.proofs.Common.{◌≡◌, ◌≤◌, ◌<◌, ◌-◌, ℕ, List, length, map, drop, sym, ◌∙◌, ap, ap₂, subst, arith, length-drop}
use Rattle.std.proofs.lemmas.List.{length-map, take_all}
use Rattle.merkle_forest.specs.Laws.ForestGrowth.{size-mono}
use Rattle.merkle_core_parts.specs.Mem.{Nodes, Replacement, AreKeptNodes, encoded, node_count, node_at, base_of, cut_before}
use Rattle.merkle_core_parts.specs.Mem.{pinned_digests, AreNodesOf, IsKept}
use Rattle.merkle_core_parts.specs.Laws.Held.{there-kept}
use Rattle.merkle_core_parts.specs.Laws.Placed.{few-pinned}
use Rattle.merkle_core_parts.specs.Laws.Pruned.{shape-cut, node-cut, base-cut, list-cut, pruned-further, map-drop}
use Rattle.merkle_memory.proofs.mem.Mem.prune.Given.{Over}
use Rattle.merkle_memory.proofs.mem.Mem.prune.Goals as goal

pub returns-then-boundary-self-clause-dropped : goal.returns-then-boundary-self-clause-dropped
returns-then-boundary-self-clause-dropped g c p some =
    there-kept g.F.Family.merge_rule c.args.self.now p
    (subst (AreKeptNodes g.F.Family.merge_rule) c.self.view_is c.self.invariant.2) some

pub returns-then-boundary-self-2-clause-dropped : goal.returns-then-boundary-self-2-clause-dropped
returns-then-boundary-self-2-clause-dropped g c p some =
    there-kept g.F.Family.merge_rule c.args.self.now p
    (subst (AreKeptNodes g.F.Family.merge_rule) c.self.view_is c.self.invariant.2) some

pub returns-in_err-pinned-clause-dropped : goal.returns-in_err-pinned-clause-dropped
returns-in_err-pinned-clause-dropped g c p some =
    there-kept g.F.Family.merge_rule c.args.self.now p
    (subst (AreKeptNodes g.F.Family.merge_rule) c.self.view_is c.self.invariant.2) some

pub returns-in_err-digests-clause-dropped : goal.returns-in_err-digests-clause-dropped
returns-in_err-digests-clause-dropped g c p some =
    there-kept g.F.Family.merge_rule c.args.self.now p
    (subst (AreKeptNodes g.F.Family.merge_rule) c.self.view_is c.self.invariant.2) some

pub overflow_sub-dropped : goal.overflow_sub-dropped
overflow_sub-dropped g c =
    let rule = g.F.Family.merge_rule in
    omega (
      arith,
      c.self.invariant.1,
      c.as_u64-start.ensures,
      c.location_to_position.ensures,
      size-mono rule g.met.F.Family.merges_equals c.self.inside.boundary c.args.location
          (omega (arith, c.as_u64-boundary.ensures, c.if-boundary-self-2.false)),
    )

pub offset_bounds-deref-dropped : goal.offset_bounds-deref-dropped
offset_bounds-deref-dropped g c =
    let rule = g.F.Family.merge_rule in
    omega (
      arith,
      c.self.invariant.1,
      c.self.invariant.2.counted,
      length-map c.self.inside.digests.items g.D.Write.encoding,
      ap length c.deref.ensures.value,
      c.as_u64-start.ensures,
      c.location_to_position.ensures,
      size-mono rule g.met.F.Family.merges_equals c.args.location c.self.inside.leaves
          (omega (arith, c.as_u64-boundary.ensures, c.if-boundary-self.false)),
    )

pub slice_bounds-from_slice-count : goal.slice_bounds-from_slice-count
slice_bounds-from_slice-count g c =
    let rule = g.F.Family.merge_rule in
    omega (
      arith,
      c.self.invariant.1,
      c.self.invariant.2.counted,
      length-map c.self.inside.digests.items g.D.Write.encoding,
      ap length c.deref.ensures.value,
      c.as_u64-start.ensures,
      c.location_to_position.ensures,
      size-mono rule g.met.F.Family.merges_equals c.args.location c.self.inside.leaves
          (omega (arith, c.as_u64-boundary.ensures, c.if-boundary-self.false)),
    )

pub slice_bounds-from_slice-start : goal.slice_bounds-from_slice-start
slice_bounds-from_slice-start g c =
    let rule = g.F.Family.merge_rule in
    omega (
      arith,
      c.self.invariant.1,
      c.self.invariant.2.counted,
      length-map c.self.inside.digests.items g.D.Write.encoding,
      ap length c.deref.ensures.value,
      c.as_u64-start.ensures,
      c.location_to_position.ensures,
      size-mono rule g.met.F.Family.merges_equals c.args.location c.self.inside.leaves
          (omega (arith, c.as_u64-boundary.ensures, c.if-boundary-self.false)),
    )

-- the tree as it was, and as it is then
old_shape : (g : Over) (c : goal.After-drop-self-inside-2 g) → AreKeptNodes g.F.Family.merge_rule c.args.self.now
old_shape g c = subst (AreKeptNodes g.F.Family.merge_rule) c.self.view_is c.self.invariant.2

from : (g : Over) (c : goal.After-drop-self-inside-2 g) → c.args.self.now.boundary < c.args.location
from g c =
    subst (λ (n : Nodes). n.boundary < c.args.location) c.self.view_is
    (omega (arith, c.as_u64-boundary.ensures, c.if-boundary-self-2.false))

within : (g : Over) (c : goal.After-drop-self-inside-2 g) → c.args.location ≤ c.args.self.now.leaves
within g c =
    subst (λ (n : Nodes). c.args.location ≤ n.leaves) c.self.view_is
    (omega (arith, c.as_u64-boundary.ensures, c.if-boundary-self.false))

abbrev new_nodes : (g : Over) → goal.After-drop-self-inside-2 g → Nodes
new_nodes g c = record {
  leaves = c.self.inside.leaves;
  boundary = c.as_u64-boundary.result;
  pinned = encoded g.D.Write.encoding c.in_ok-pinned.pinned.items;
  digests = map g.D.Write.encoding c.in_ok-digests.digests.items;
}

made : (g : Over) (c : goal.After-drop-self-inside-2 g)
    → new_nodes g c ≡ cut_before g.F.Family.merge_rule c.args.self.now c.args.location
made g c =
    let encoding = g.D.Write.encoding in
    let rule = g.F.Family.merge_rule in
    let now : Nodes = c.args.self.now in
    let old = map encoding c.self.inside.digests.items in
    let dropped = c.as_u64-start.result - c.self.inside.start in
    let gone : dropped ≡ node_count rule c.args.location - node_count rule c.self.inside.boundary =
    ap₂ (λ (a b : ℕ). a - b) (c.as_u64-start.ensures ∙ c.location_to_position.ensures) c.self.invariant.1 in
    let rest : map encoding c.in_ok-digests.digests.items ≡ drop dropped old =
    ap (map encoding) (c.in_ok-digests.ensures.items
    ∙ take_all (length c.deref.result.now - dropped) (drop dropped c.deref.result.now)
    (omega (arith, length-drop dropped c.deref.result.now))
    ∙ ap (drop dropped) c.deref.ensures.value)
    ∙ map-drop encoding dropped c.self.inside.digests.items in
    let digests : map encoding c.in_ok-digests.digests.items
    ≡ drop (node_count rule c.args.location - node_count rule now.boundary) now.digests =
    rest ∙ ap (λ k. drop k old) gone
    ∙ ap (λ (n : Nodes). drop (node_count rule c.args.location - node_count rule n.boundary) n.digests) c.self.view_is in
    let boundary : c.as_u64-boundary.result ≡ c.args.location = c.as_u64-boundary.ensures in
    let pinned : encoded encoding c.in_ok-pinned.pinned.items ≡ pinned_digests rule now c.args.location =
    c.in_ok-pinned.ensures ∙ ap (pinned_digests rule now) boundary in
    let leaves : c.self.inside.leaves ≡ now.leaves = ap (λ (n : Nodes). n.leaves) c.self.view_is in
    ap₂ (λ (n b : ℕ). record {
      leaves = n;
      boundary = b;
      pinned = encoded encoding c.in_ok-pinned.pinned.items;
      digests = map encoding c.in_ok-digests.digests.items;
    }) leaves boundary
    ∙ ap₂ (λ (ps : List Replacement) (ds : List (List ℕ)). record {
      leaves = now.leaves;
      boundary = c.args.location;
      pinned = ps;
      digests = ds;
    }) pinned digests

new_shape : (g : Over) (c : goal.After-drop-self-inside-2 g) → AreKeptNodes g.F.Family.merge_rule (new_nodes g c)
new_shape g c =
    subst (AreKeptNodes g.F.Family.merge_rule) (sym (made g c))
    (shape-cut g.F.Family.merge_rule g.met.F.Family.merges_equals c.args.self.now c.args.location (old_shape g c)
    (omega (arith, from g c)) (within g c))

pub invariant_of-self : goal.invariant_of-self
invariant_of-self g c = (
  c.self.invariant.0,
  c.as_u64-start.ensures ∙ c.location_to_position.ensures
      ∙ ap (node_count g.F.Family.merge_rule) (sym c.as_u64-boundary.ensures),
  new_shape g c,
  few-pinned g.D.Write.encoding g.F.Family.merge_rule g.met.F.Family.peaks_bounded c.self.inside.leaves
      c.as_u64-boundary.result c.in_ok-pinned.pinned.items (map g.D.Write.encoding c.in_ok-digests.digests.items)
      c.self.invariant.0 (new_shape g c),
)

pub returns-clause-pruned : goal.returns-clause-pruned
returns-clause-pruned g c =
    made g c ∙ sym (pruned-further g.F.Family.merge_rule c.args.self.now c.args.location (from g c))

pub returns-clause-base : goal.returns-clause-base
returns-clause-base g c =
    ap (base_of g.F.Family.merge_rule) (made g c)
    ∙ base-cut g.F.Family.merge_rule g.met.F.Family.merges_equals c.args.self.now c.args.location (old_shape g c)
    (omega (arith, from g c)) (within g c)

pub returns-clause-kept : goal.returns-clause-kept
returns-clause-kept g c p keeps =
    ap (λ n. node_at g.F.Family.merge_rule n p) (made g c)
    ∙ node-cut g.F.Family.merge_rule g.met.F.Family.merges_equals c.args.self.now c.args.location p (old_shape g c)
    (omega (arith, from g c)) (within g c)
    (subst (λ b. IsKept g.F.Family.merge_rule b p) c.as_u64-boundary.ensures keeps)

pub returns-clause-dropped : goal.returns-clause-dropped
returns-clause-dropped g c p some = there-kept g.F.Family.merge_rule (new_nodes g c) p (new_shape g c) some

pub returns-clause-of_list : goal.returns-clause-of_list
returns-clause-of_list g c node list are =
    subst (AreNodesOf node g.F.Family.merge_rule list) (sym (made g c))
    (list-cut g.F.Family.merge_rule g.met.F.Family.merges_equals node list c.args.self.now c.args.location
    (omega (arith, from g c)) (within g c) are)
