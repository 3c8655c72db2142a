use Rattle.std.proofs.Common.{◌*◌, ◌∙◌, ap, sym}
use Rattle.auth_store_states.specs.Laws.Widths.{is_some, height_is}
use Rattle.auth_store_proving.proofs.between.chunk_size.Goals as goal

pub unwrap-requires : goal.unwrap-requires
unwrap-requires g c = is_some c.new.result g.row.N c.requires c.new.ensures.none

pub returns-clause-height : goal.returns-clause-height
returns-clause-height g c =
    let wide = rw c.unwrap.ensures at c.new.ensures.some in
    height_is g.row.N c.unwrap.result.grafting_height c.requires
    (ap (λ w. 8 * w) (sym wide) ∙ c.unwrap.result.whole)
