use Rattle.std.proofs.lemmas.Result.{err_from_is_err_and}
use Rattle.merkle_forest_parts.specs.Laws.Codec.{refuses_first}
use Rattle.merkle_forest_parts.proofs.Lists.{one_read, item_refused, all_read, counts_more, values_more, encoded_more, encoded_whole}
use Rattle.merkle_forest_parts.proofs.codec.list.VecRead.read_cfg.Goals as goal

pub returns-in_err-read_cfg-clause-read : goal.returns-in_err-read_cfg-clause-read
returns-in_err-read_cfg-clause-read g c =
    let p = err_from_is_err_and c.from_residual-in_err-read_cfg.result c.from_residual-in_err-read_cfg.ensures.1 in
    rw (p.1, p.2) (item_refused (g.D.Read.after tt) _ _ _ _ c.in_ok-count.count c.loop-read.read _ _ _ _
    (λ lacks. absurd (g.met.D.Digest.never_lacks _ lacks))
    c.in_ok-count.ensures.exact c.loop-read-test.true c.loop-read.invariant.exact c.in_err-read_cfg.ensures.read)

pub returns-in_err-count-clause-read : goal.returns-in_err-count-clause-read
returns-in_err-count-clause-read g c =
    let p = err_from_is_err_and c.from_residual.result c.from_residual.ensures.1 in
    rw (p.1, p.2) (refuses_first ⊥ _ _ _ _ (λ none. absurd none) c.in_err-count.ensures.exact)

pub loop-read-preserved : goal.loop-read-preserved
loop-read-preserved g c = record {
  count = counts_more _ _ _ _ c.in_ok-push.ensures.items c.loop-read.invariant.count;
  exact = one_read _ _ c.loop-read.read _ _ _ c.loop-read-test.true c.in_ok-read_cfg.ensures.read.0
      c.loop-read.invariant.exact;
  values = values_more g.D.Write.is_value _ _ _ c.in_ok-push.ensures.items c.in_ok-read_cfg.ensures.value
      c.loop-read.invariant.values;
  encoded = encoded_more g.D.Write.encoding _ _ c.in_ok-read_cfg.field-0 _ _ _ c.in_ok-push.ensures.items
      c.in_ok-read_cfg.ensures.read.1 c.loop-read.invariant.encoded;
}

pub returns-clause-read : goal.returns-clause-read
returns-clause-read g c = (
  all_read (g.D.Read.after tt) c.args.cfg.now.least c.args.cfg.now.greatest c.in_ok-count.count c.loop-read.read _ _ _
      c.in_ok-count.ensures.exact c.loop-read-test.false c.loop-read.invariant.exact,
  encoded_whole g.D.Write.encoding _ _ c.loop-read.read _ _ _ c.loop-read-test.false c.loop-read.auto.read-end
      c.loop-read.invariant.count c.in_ok-count.ensures.encoded c.loop-read.invariant.encoded,
)
