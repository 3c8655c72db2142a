use Rattle.std.proofs.Common.{rules, ◌≡◌, ◌∙◌, ◌+◌, ◌-◌, ◌++◌, length, replicate, ap, arith}
use Rattle.fault_storage_parts.proofs.Zeros.{noted_more}
use Rattle.fault_storage_parts.proofs.overlay.grow.Goals as goal

pub loop-added-preserved : goal.loop-added-preserved
loop-added-preserved c = record {
  items = noted_more 0 c.args.file.now.items c.loop-added.file.items c.append.new.file.items (c.loop-added.added - c.len-have.result)
      (c.loop-added.added + 1 - c.len-have.result) c.loop-added.invariant.items c.append.ensures.items (omega arith);
  len = omega arith;
  within = omega arith;
  capacity = omega arith;
}

pub returns-clause-grown : goal.returns-clause-grown
returns-clause-grown c =
    let have : c.len-have.result ≡ length c.args.file.now.items = search rules in
    c.loop-added.invariant.items ∙ ap (λ n. c.args.file.now.items ++ replicate n 0) (omega arith)
