use Rattle.std.proofs.Common.{◌≡◌, ◌∙◌, ap, rules}
use Rattle.std.specs.Ordering.{is_lt}
use Rattle.std.proofs.lemmas.Cmp.{nat_list_cmp_total}
use Rattle.std.proofs.lemmas.List.Sorted.{ranks_by, answers_always}
use Rattle.auth_store_parts.specs.Map.{key_order}
use Rattle.auth_store_parts.proofs.history.ranked.in_order.Goals as goal

pub returns-clause-ascending : goal.returns-clause-ascending
returns-clause-ascending g c =
    let key = g.K.Write.encoding in
    c.in_ok-sort_by.ensures.sorted (λ one other. is_lt (key_order (key one.0) (key other.0)))
    (ranks_by nat_list_cmp_total (λ e. key e.0))
    (answers_always _ _ _ (λ f a r q call.
    let given : r ≡ g.K.Ord.cmp a.0.now.0 a.1.0.now.0 = search rules in
    ap is_lt (given ∙ g.met.K.FixedKey.in_order a.0.now.0 a.1.0.now.0)))
