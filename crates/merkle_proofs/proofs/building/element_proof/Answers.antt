use Rattle.std.proofs.Common.{ℕ, ◌+◌, map, length, refl, ◌∙◌, ap}
use Rattle.merkle_theory.specs.Plans.{Asked}
use Rattle.merkle_theory.proofs.Lookups.{built_of_list}
use Rattle.merkle_proofs.proofs.building.element_proof.Goals as goal

pub returns-clause-of_list : goal.returns-clause-of_list
returns-clause-of_list g c node list counted of =
    let known = g.R.Readable.digest_at c.args.nodes.now in
    let asked : ℕ → Asked = λ n. record { leaves = n; start = c.args.location; stop = c.args.location + 1 } in
    built_of_list node g.F.Family.merge_rule g.H.Hasher.hash_of (g.H.Hasher.bagging_of c.args.hasher.now) list known c.args.inactive_peaks
    (λ proof. map g.D.Write.encoding proof.digests.items) c.build_from-2.result _ (asked (length list))
    (c.from.ensures ∙ c.in_ok-plan.ensures.plan ∙ ap asked (c.new.ensures ∙ c.leaf_count.ensures.count ∙ counted))
    c.build_from-2.ensures.digests c.build_from-2.ensures.known refl of
