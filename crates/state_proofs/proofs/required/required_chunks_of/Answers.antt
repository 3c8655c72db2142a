use Rattle.std.proofs.Common.{ℕ, ◌*◌, ◌∙◌, ap, arith}
use Rattle.std.specs.Prelude.{min}
use Rattle.merkle_forest.specs.Forest.{forest_of}
use Rattle.merkle_forest.specs.Nodes.{nodes_of_height}
use Rattle.state_proofs.proofs.RequiredLemmas.{needed_by, asked_none, asked_some, IsQueried}
use Rattle.state_proofs.proofs.required.required_chunks_of.Goals as goal
use Rattle.state_proofs.proofs.required.required_chunks_of.Goals.{in-None, in-Some-location+in_ok-queried_chunk-in-Some-location}

pub returns-clause-needed : goal.returns-clause-needed
returns-clause-needed g c = λ index.
    let chunk_bits : ℕ = 8 * c.args.chunk_size.width in
    let nodes : ℕ = nodes_of_height c.args.chunk_size.grafting_height (forest_of g.F.Family.merge_rule c.args.ops_leaves) in
    let full = c.full_chunks-complete.ensures in
    let queried : IsQueried chunk_bits c.args.bitmap_len c.args.location c.match-location.queried =
    elim c.match-location.branch [
      | in-None w ↦ asked_none chunk_bits c.args.bitmap_len c.args.location c.match-location.queried (w.in-None).is w.queried-is
      | in-Some-location+in_ok-queried_chunk-in-Some-location w ↦
          asked_some chunk_bits c.args.bitmap_len _ _ c.args.location c.match-location.queried (w.in-Some-location).is w.queried-is
          (w.in_ok-queried_chunk-in-Some-location).ensures.0 (w.in_ok-queried_chunk-in-Some-location).ensures.1.1.0
    ] in
    needed_by chunk_bits c.args.bitmap_len _ c.in-Some.graftable c.full_chunks-complete.result c.bit_of.result
    c.args.location c.match-location.queried c.below.result c.where_true.result c.where_true-2.result index (omega (arith, c.bit_of.ensures.within))
    c.below.ensures c.where_true.ensures c.where_true-2.ensures full c.bit_of.ensures.bit
    (c.in-Some.ensures.0 ∙ ap (min nodes) full) (omega (arith, c.in-Some.ensures.0, c.in-Some.ensures.1.0, ap (min nodes) full)) queried
