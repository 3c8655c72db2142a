use Rattle.std.proofs.lemmas.Result.{err_from_is_err_and}
use Rattle.merkle_forest_parts.specs.Laws.Codec.{refuses_first}
use Rattle.merkle_forest_parts.proofs.codec.list.VecU8Read.read_cfg.Goals as goal

pub returns-in_err-count-clause-read : goal.returns-in_err-count-clause-read
returns-in_err-count-clause-read c =
    let p = err_from_is_err_and c.from_residual.result c.from_residual.ensures.1 in
    rw (p.1, p.2) (refuses_first ⊥ _ _ _ _ (λ none. absurd none) c.in_err-count.ensures.exact)
