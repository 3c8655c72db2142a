use Rattle.std.proofs.Common.{◌≡◌, ◌≤◌, ◌∙◌, List, ℕ, Option, None, map, sym, ap, ap₂, subst}
use Rattle.std.specs.Prelude.{IsSome, option_map}
use Rattle.merkle_core_parts.specs.Mem.{Nodes, known_over, node_at, encoded}
use Rattle.merkle_core_parts.specs.Laws.Held.{peak-there}
use Rattle.merkle_memory.proofs.mem.Mem.peak_digest.Goals as goal

pub unreachable-requires : goal.unreachable-requires
unreachable-requires g c =
    let encoding = g.D.Write.encoding in
    let rule = g.F.Family.merge_rule in
    let p = c.args.position in
    let nodes : Nodes = record {
      leaves = c.self.inside.leaves;
      boundary = c.self.inside.boundary;
      pinned = encoded encoding c.self.inside.pinned.items;
      digests = map encoding c.self.inside.digests.items;
    } in
    let same : nodes ≡ c.args.self.now = c.self.view_is in
    let some : IsSome (node_at rule nodes p) =
    peak-there rule g.met.F.Family.merges_equals nodes c.args.leaves p c.self.invariant.2
    (subst (λ (n : Nodes). n.boundary ≤ c.args.leaves) (sym same) c.requires.from)
    (subst (λ (n : Nodes). c.args.leaves ≤ n.leaves) (sym same) c.requires.within) c.requires.peak in
    let none : ◌≡◌ {A = Option (List ℕ)} None (node_at rule nodes p) =
    ap (option_map encoding) (sym c.in-None.is) ∙ c.known_digest.ensures
    ∙ ap₂ (λ xs ys. known_over c.self.inside.start (encoded encoding xs) (map encoding ys) p) c.deref.ensures.value
    c.deref-2.ensures.value
    ∙ ap (λ s. known_over s nodes.pinned nodes.digests p) c.self.invariant.1 in
    absurd (let bad : IsSome {T = List ℕ} None = subst (λ o. IsSome o) (sym none) some in cc bad)
