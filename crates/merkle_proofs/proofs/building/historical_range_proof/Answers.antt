use Rattle.std.proofs.Common.{◌≤◌, map, take, length, arith}
use Rattle.std.proofs.lemmas.List.{length-take-le}
use Rattle.merkle_theory.proofs.Lookups.{built_of_list, lookup_taken}
use Rattle.merkle_proofs.proofs.building.historical_range_proof.Goals as goal

pub returns-clause-of_list : goal.returns-clause-of_list
returns-clause-of_list g c node list counted of =
    let rule = g.F.Family.merge_rule in
    let known = g.R.Readable.digest_at c.args.nodes.now in
    let n = c.args.leaves in
    let le : n ≤ length list = omega (arith, c.if-as_u64-leaf_count.false, c.as_u64.ensures, c.leaf_count.ensures.count, counted) in
    built_of_list node rule g.H.Hasher.hash_of (g.H.Hasher.bagging_of c.args.hasher.now) (take n list) known c.args.inactive_peaks
    (λ proof. map g.D.Write.encoding proof.digests.items) c.build_from.result _ (record { leaves = n; start = c.args.range.start; stop = c.args.range.end })
    c.in_ok-plan.ensures.plan c.build_from.ensures.digests c.build_from.ensures.known (length-take-le n list le)
    (lookup_taken node rule g.met.F.Family.merges_equals list known n le of)
