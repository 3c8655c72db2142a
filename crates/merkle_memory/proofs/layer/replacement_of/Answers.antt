use Rattle.std.proofs.Common.{◌≡◌, ◌-◌, ℕ, suc, Some, None, List, eqb, leb, cond, get_or, length, ◌<◌, ◌≤◌, true}
use Rattle.std.proofs.Common.{leb-true, le-leb, sym, ◌∙◌, ap, arith, eq-eqb, rules}
use Rattle.std.proofs.lemmas.Bool.{cond-true, cond-false, ne_eqb}
use Rattle.std.proofs.lemmas.List.Sorted.{IsPartitionPoint-from_clause}
use Rattle.merkle_core_parts.specs.Laws.Ordered.{in-order, last_in, found-last, found-none}
use Rattle.merkle_memory.proofs.layer.replacement_of.Goals as goal

leb_order : {D : Type 0} (encoding : D → List ℕ) (xs : List (ℕ × D)) (index : ℕ)
    → ((i j : ℕ) (d : ℕ × D) → i ≤ j → j < length xs → (get_or xs i d).0 ≤ (get_or xs j d).0) → (i j : ℕ) (d : ℕ × D) → i ≤ j
    → j < length xs → leb (get_or xs j d).0 index ≡ true → leb (get_or xs i d).0 index ≡ true
leb_order encoding xs index order i j d le lt passes =
    le-leb (get_or xs i d).0 index (omega (arith, order i j d le lt, leb-true (get_or xs j d).0 index passes))

pub returns-then-after-eq0 : goal.returns-then-after-eq0
returns-then-after-eq0 g c =
    let encoding = g.D.Write.encoding in
    let xs = c.args.changes.now in
    let point = IsPartitionPoint-from_clause (λ change. leb change.0 c.args.position) _ _ c.partition_point-after.ensures.partitioned
    (leb_order encoding xs c.args.position (in-order encoding xs 0 c.requires)) (λ a r q k. search rules) in
    sym (found-none encoding xs c.args.position c.requires
    (λ k e le lt. point.1 k e (omega (arith, c.if-after-eq0.true)) lt))

pub returns-then-last-position : goal.returns-then-last-position
returns-then-last-position g c =
    let encoding = g.D.Write.encoding in
    let xs = c.args.changes.now in
    let point = IsPartitionPoint-from_clause (λ change. leb change.0 c.args.position) _ _ c.partition_point-after.ensures.partitioned
    (leb_order encoding xs c.args.position (in-order encoding xs 0 c.requires)) (λ a r q k. search rules) in
    let d = c.index-changes-after.result in
    let next : c.partition_point-after.result ≡ suc (c.partition_point-after.result - 1) = omega (arith, c.if-after-eq0.false) in
    sym (found-last encoding xs c.args.position c.partition_point-after.result d c.requires
    c.partition_point-after.ensures.bound point.0 point.1
    ∙ ap (λ n. last_in encoding xs c.args.position n d) next
    ∙ ap (λ (u : ℕ × _). cond (eqb u.0 c.args.position) (Some (encoding u.1)) None) (sym c.index-changes-after.is)
    ∙ cond-true (eqb d.0 c.args.position) (Some (encoding d.1)) None (eq-eqb d.0 c.args.position c.if-last-position.true))

pub returns-else-last-position : goal.returns-else-last-position
returns-else-last-position g c =
    let encoding = g.D.Write.encoding in
    let xs = c.args.changes.now in
    let point = IsPartitionPoint-from_clause (λ change. leb change.0 c.args.position) _ _ c.partition_point-after.ensures.partitioned
    (leb_order encoding xs c.args.position (in-order encoding xs 0 c.requires)) (λ a r q k. search rules) in
    let d = c.index-changes-after.result in
    let next : c.partition_point-after.result ≡ suc (c.partition_point-after.result - 1) = omega (arith, c.if-after-eq0.false) in
    sym (found-last encoding xs c.args.position c.partition_point-after.result d c.requires
    c.partition_point-after.ensures.bound point.0 point.1
    ∙ ap (λ n. last_in encoding xs c.args.position n d) next
    ∙ ap (λ (u : ℕ × _). cond (eqb u.0 c.args.position) (Some (encoding u.1)) None) (sym c.index-changes-after.is)
    ∙ cond-false (eqb d.0 c.args.position) (Some (encoding d.1)) None (ne_eqb d.0 c.args.position c.if-last-position.false))
