use Rattle.std.proofs.Common.{[], length, map, sym, ap, subst, arith}
use Rattle.merkle_core_parts.specs.Mem.{AreKeptNodes, encoded}
use Rattle.merkle_core_parts.specs.Laws.Mem.{nodes-none, kept-empty}
use Rattle.merkle_memory.proofs.mem.Mem.new.Goals as goal

pub invariant_of-result : goal.invariant_of-result
invariant_of-result g c =
    let encoding = g.D.Write.encoding in
    let rule = g.F.Family.merge_rule in (
      omega arith,
      sym (nodes-none rule),
      subst (λ ps. AreKeptNodes rule (record {
        leaves = 0;
        boundary = 0;
        pinned = ps;
        digests = map encoding c.new-2.result.items;
      }))
          (ap (encoded encoding) (sym c.new.ensures.items))
          (subst (λ ds. AreKeptNodes rule (record { leaves = 0; boundary = 0; pinned = []; digests = ds }))
          (ap (map encoding) (sym c.new-2.ensures.items)) (kept-empty rule)),
      omega (arith, ap length c.new.ensures.items),
    )
