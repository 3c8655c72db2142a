use Rattle.std.proofs.Common.{◌≡◌, ◌≤◌, ◌+◌, ◌*◌, ◌^◌, length, true, sym, ◌∙◌, arith, rules}
use Rattle.state_theory.specs.Bits.{bit_count}
use Rattle.proofs_player.proofs.Between.{all_between, moved}
use Rattle.proofs_player.proofs.overlays.stage.Goals as goal

pub stage_bits-requires : goal.stage_bits-requires
stage_bits-requires g c =
    let yes : c.are_between.result ≡ true = search rules in
    let all = all_between c.pruned_bits.result (c.len-len.result + c.len-2.result) c.deref.result.now (sym c.are_between.ensures ∙ yes) in
    let first : c.pruned_bits.result ≡ 8 * g.row.N * c.replace.result.pruned = search rules in
    let end : c.len-len.result + c.len-2.result ≡ bit_count g.row.N c.replace.result + length c.deref-2.result.now = search rules in
    let few : bit_count g.row.N c.replace.result + length c.deref-2.result.now ≤ 2 ^ 62 = search rules in
    let same : c.deref.result.now ≡ c.deref-3.result.now = search rules in
    (omega arith, (omega arith, (few, moved first end same all)))
