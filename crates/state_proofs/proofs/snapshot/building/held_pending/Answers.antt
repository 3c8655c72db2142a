use Rattle.std.proofs.Common.{◌≤◌, ◌^◌, length, sym, subst, arith}
use Rattle.std.proofs.lemmas.List.{length-map}
use Rattle.state_proofs_parts.specs.Snapshot.{state_of, setting_of}
use Rattle.state_theory.specs.Laws.HonestSizes.{may_hold}
use Rattle.state_proofs.proofs.snapshot.building.held_pending.Goals as goal

pub unwrap-requires : goal.unwrap-requires
unwrap-requires g c =
    let setting = setting_of g.F.Family.merge_rule g.H.HashFunction.hash_of c.args.snapshot.now in
    let state = state_of c.args.snapshot.now in
    let few : length state.operations ≤ 2 ^ 62 =
    omega (arith, length-map c.args.snapshot.now.operations.now (λ e. e.items), c.args.snapshot.now.few) in
    c.hold.ensures.some.1 (subst g.F.PendingOf.is_pending (sym c.pending_digest_of-digest.ensures)
    (may_hold setting state g.H.Digest.FixedSize.SIZE g.F.PendingOf.is_pending g.met.H.HashFunction.sized
    g.met.F.PendingOf.none_pending g.met.F.PendingOf.some_pending
    c.args.snapshot.now.chunk_size.whole c.args.snapshot.now.chunk_size.low few))
