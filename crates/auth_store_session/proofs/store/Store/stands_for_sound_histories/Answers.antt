use Rattle.std.proofs.Common.{subst}
use Rattle.state_theory.specs.Canonical.{Setting}
use Rattle.auth_store_ledger.specs.Store.{setting_of_width}
use Rattle.auth_store_log.specs.Records.{Format, format_of}
use Rattle.auth_store_machine.specs.Stores.{IsStore}
use Rattle.auth_store_machine.proofs.Lives.{is_store}
use Rattle.auth_store_machine.proofs.Sound.{open_sound}
use Rattle.auth_store_session.proofs.store.Store.stands_for_sound_histories.Goals as goal

pub returns : goal.returns
returns g c = λ state stands.
    let format : Format = format_of (g.K.Read.after tt) (g.V.Read.after tt) g.K.FixedSize.SIZE g.V.FixedSize.SIZE in
    let setting : Setting = setting_of_width g.F.Family.merge_rule g.H.HashFunction.hash_of g.row.N in
    open_sound format c.args.self.now state (subst (IsStore format) c.self.view_is
    (is_store setting format c.self.inside.device c.self.inside.cache c.self.inside.live c.self.inside.pruned c.self.invariant.1
    c.self.invariant.2 c.self.invariant.3)) stands
