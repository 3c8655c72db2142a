use Rattle.std.proofs.Common.{rules, ltb, sym, arith}
use Rattle.std.proofs.lemmas.List.Sorted.{IsPartitionPoint-from_clause, IsPartitionedBy-ltb}
use Rattle.merkle_theory.proofs.ShownLists.{parted_count}
use Rattle.merkle_theory.proofs.ShownRanks.{ranked_past, ranked_there}
use Rattle.merkle_proofs.proofs.multi.tree.known_digest.Goals as goal

pub returns-then-rank-known : goal.returns-then-rank-known
returns-then-rank-known g c needed all =
    let positions = c.args.known.now.positions.now in
    let sorted = IsPartitionedBy-ltb (λ q. q) _ c.args.position c.requires in
    let point = IsPartitionPoint-from_clause
    (λ q. ltb q c.args.position) _ _ c.partition_point-rank.ensures.partitioned sorted (λ a r q k. search rules) in
    let is = parted_count (λ q. ltb q c.args.position) positions c.partition_point-rank.result
    c.partition_point-rank.ensures.bound point in
    sym (ranked_past g.D.Write.encoding needed positions all c.args.position c.partition_point-rank.result is
    c.args.known.now.digests.now
    (omega (arith, c.if-rank-known.true)))

pub returns : goal.returns
returns g c needed all =
    let positions = c.args.known.now.positions.now in
    let sorted = IsPartitionedBy-ltb (λ q. q) _ c.args.position c.requires in
    let point = IsPartitionPoint-from_clause
    (λ q. ltb q c.args.position) _ _ c.partition_point-rank.ensures.partitioned sorted (λ a r q k. search rules) in
    let is = parted_count (λ q. ltb q c.args.position) positions c.partition_point-rank.result
    c.partition_point-rank.ensures.bound point in
    sym (ranked_there g.D.Write.encoding needed positions all c.args.position c.partition_point-rank.result is
    c.args.known.now.digests.now
    c.index-known-rank.result (omega (arith, c.if-rank-known.false)))
