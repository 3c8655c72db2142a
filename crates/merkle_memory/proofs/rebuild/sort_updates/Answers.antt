use Rattle.std.proofs.Common.{ℕ, ◌≤◌, rules}
use Rattle.std.proofs.lemmas.List.Sorted.{IsNonDecreasingBy-from_sort_by_key, answers_always, length_permutation, All-permutation}
use Rattle.std.proofs.lemmas.List.Elements.{All-from_recursion, recursion_from_All}
use Rattle.merkle_core_parts.specs.Laws.Enough.{from-all, unencoded}
use Rattle.merkle_core_parts.specs.Laws.Sorted.{from-sorted, after-stable}
use Rattle.merkle_memory.proofs.rebuild.sort_updates.Goals as goal

pub returns-clause-order : goal.returns-clause-order
returns-clause-order g c =
    from-sorted g.D.Write.encoding c.sort_by_key.new.self.items
    (IsNonDecreasingBy-from_sort_by_key (λ (u : ℕ × g.row.D.Denot). u.0) _ c.in_ok-sort_by_key.ensures.sorted
    (λ a r q k. search rules))

pub returns-clause-same : goal.returns-clause-same
returns-clause-same g c =
    after-stable g.D.Write.encoding c.args.updates.now.items c.sort_by_key.new.self.items
    (length_permutation c.args.updates.now.items c.sort_by_key.new.self.items c.in_ok-sort_by_key.ensures.permutation)
    (c.in_ok-sort_by_key.ensures.stable (λ (u : ℕ × g.row.D.Denot). u.0)
    (answers_always _ _ _ (λ f a r f' k. search rules)))

pub returns-clause-bound : goal.returns-clause-bound
returns-clause-bound g c b all =
    let late : ℕ × g.row.D.Denot → Type 0 = λ u. b ≤ u.0 in
    let old = c.args.updates.now.items in
    let new = c.sort_by_key.new.self.items in
    from-all g.D.Write.encoding b new
    (recursion_from_All late new (All-permutation late old new c.in_ok-sort_by_key.ensures.permutation
    (All-from_recursion late old (unencoded g.D.Write.encoding b old all))))
    (returns-clause-order g c)
