use Rattle.std.proofs.Common.{◌≡◌, List, Bool, Option, length, sym, ◌∙◌, subst, arith}
use Rattle.std.specs.Prelude.{IfSome, option_map}
use Rattle.state_theory.specs.Canonical.{setting_with}
use Rattle.state_proofs.proofs.BuiltLemmas.{pending_from, partial_from}
use Rattle.state_proofs.proofs.proof.building.held_digests.Goals as goal

pub returns-clause-honest : goal.returns-clause-honest
returns-clause-honest g c = λ state same_count same_bits.
    let setting = setting_with g.F.Family.merge_rule g.H.HashFunction.hash_of c.args.chunk_size.width c.args.chunk_size.grafting_height in
    let bits : List Bool = g.B.BitmapReadable.bits c.args.status.now in
    let count : length bits ≡ c.args.leaves = omega (arith, c.if-len-as_u64.false, c.len.ensures, c.as_u64.ensures) in
    let held = subst (λ (o : Option _). IfSome o (λ pending. g.F.PendingOf.held pending ≡ option_map g.H.Digest.Write.encoding c.in_ok-pending.pending))
    c.unwrap.ensures c.hold.ensures.held in (
      held ∙ c.in_ok-pending.ensures.digest
          ∙ pending_from setting state c.args.leaves g.row.N bits (sym same_count) count (sym c.requires.width) same_bits,
      c.partial_digest-partial.ensures ∙ partial_from setting state g.row.N bits (count ∙ sym same_count) (sym c.requires.width) same_bits,
    )
