use Rattle.std.proofs.Common.{◌≡◌, ◌*◌, ◌^◌, ◌≤◌, Option, option_map, sym, ◌∙◌, ap, subst, arith}
use Rattle.std.specs.Prelude.{IfSome}
use Rattle.state_proving.proofs.WitnessLemmas.{may_hold}
use Rattle.state_proving.proofs.root_witness.held_pending.Goals as goal

pub unwrap-requires : goal.unwrap-requires
unwrap-requires g c =
    let leaves = c.args.current.now.operations.leaves in
    let few : leaves ≤ 2 ^ 62 = omega (arith, c.leaves-few.ensures.few, c.leaves-few.ensures.leaves) in
    let whole : 8 * g.row.N ≡ 2 ^ c.chunk_size-size.result.grafting_height =
    ap (λ w. 8 * w) (sym c.chunk_size-size.ensures) ∙ c.chunk_size-size.result.whole in
    c.hold.ensures.some.1 (may_hold g.H.Digest.Write.encoding g.F.Family.merge_rule g.row.N leaves g.H.Digest.FixedSize.SIZE
    c.chunk_size-size.result.grafting_height g.F.PendingOf.is_pending g.met.F.PendingOf.none_pending g.met.F.PendingOf.some_pending
    few whole c.chunk_size-size.result.low c.pending_digest-pending.result c.pending_digest-pending.ensures.some)

pub returns : goal.returns
returns g c height state stands =
    let held = subst (λ (o : Option _). IfSome o (λ pending. g.F.PendingOf.held pending
    ≡ option_map g.H.Digest.Write.encoding c.pending_digest-pending.result)) c.unwrap.ensures c.hold.ensures.held in
    held ∙ c.pending_digest-pending.ensures.digest height state stands
