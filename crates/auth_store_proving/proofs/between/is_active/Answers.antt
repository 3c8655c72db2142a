use Rattle.std.proofs.Common.{ℕ, ◌*◌, Bool, List, slice_get, ◌∙◌, ap, arith}
use Rattle.state_theory.specs.Canonical.{Setting}
use Rattle.state_current.specs.Kept.{Kept}
use Rattle.auth_store_ledger.specs.Store.{setting_of_width}
use Rattle.auth_store_proving.proofs.between.is_active.Goals as goal

pub bit-requires : goal.bit-requires
bit-requires g c =
    let pruned = ap (λ (k : Kept). 8 * g.row.N * k.bits.pruned) c.parts.ensures.kept in
    let leaves = ap (λ (k : Kept). k.operations.leaves) c.parts.ensures.kept in
    (omega (arith, pruned, c.requires.kept), omega (arith, leaves, c.requires.within))

pub returns : goal.returns
returns g c log of =
    let key : ℕ = g.K.FixedSize.SIZE in
    let value : ℕ = g.V.FixedSize.SIZE in
    let setting : Setting = setting_of_width g.F.Family.merge_rule g.H.HashFunction.hash_of g.row.N in
    let keeps = c.parts.ensures.placed log of in
    ap (λ (bits : List Bool). slice_get bits c.args.location) keeps.current.stands.bits ∙ c.bit.ensures
