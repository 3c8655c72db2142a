use Rattle.std.proofs.lemmas.Result.{err_from_is_err_and}
use Rattle.merkle_forest_parts.specs.Laws.Codec.{refuses_first}
use Rattle.merkle_forest_parts.proofs.codec.list.read_count.Goals as goal

pub returns-in_err-count-clause-exact : goal.returns-in_err-count-clause-exact
returns-in_err-count-clause-exact c =
    let p = err_from_is_err_and c.from_residual.result c.from_residual.ensures.1 in
    rw (p.1, p.2) (refuses_first ⊥ ⊥ _ _ _ (λ none. none) c.in_err-count.ensures.exact)
