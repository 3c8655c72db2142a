use Rattle.std.proofs.Common.{◌≡◌, ◌+◌, ◌-◌, ◌*◌, ◌^◌, ◌%◌, min, ◌∙◌, ap, arith}
use Rattle.std.proofs.lemmas.Nat.{one_shl}
use Rattle.merkle_forest.specs.Laws.Maximal.{chunk-positions}
use Rattle.merkle_forest.proofs.chunk_peaks.ChunkPeaks.new.Goals as goal

pub returns : goal.returns
returns g c =
    let width : 1 * 2 ^ c.args.height % 2 ^ 64 ≡ 2 ^ c.args.height = one_shl c.args.height 64 (omega arith) in
    chunk-positions g.F.Family.merge_rule g.met.F.Family.merges_equals c.args.leaves c.args.chunk c.args.height
    c.saturating_mul-next.result c.saturating_add.result c.requires.few c.requires.low
    (c.saturating_mul-next.ensures ∙ ap (λ w. min (c.args.chunk * w) (2 ^ 64 - 1)) width)
    (c.saturating_add.ensures ∙ ap (λ w. min (c.saturating_mul-next.result + w) (2 ^ 64 - 1)) width)
