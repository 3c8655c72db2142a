use Rattle.std.proofs.Common.{◌≡◌, ◌∙◌, sym, arith}
use Rattle.proofs_player.proofs.counts.positions.Goals as goal

pub ops_to_grafted_pos-grafted-requires-clause-high : goal.ops_to_grafted_pos-grafted-requires-clause-high
ops_to_grafted_pos-grafted-requires-clause-high g c height there =
    let same : c.pos_to_height.result ≡ height =
    c.pos_to_height.ensures.all there.0 there.2.0 there.2.1 there.1 there.2.2 there.2.3 ∙ sym there.2.4 in
    omega (arith, same)
