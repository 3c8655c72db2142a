use Rattle.std.proofs.Common.{subst, ⊎_elim}
use Rattle.auth_store_log.specs.Records.{Format, format_of}
use Rattle.auth_store_machine.specs.Machine.{Machine, machine, live}
use Rattle.auth_store_machine.specs.Sound.{TellsRootOf}
use Rattle.auth_store_run.proofs.laws.a_yes_under_an_answered_root_is_true.Goals as goal

pub returns : goal.returns
returns g c = λ page_size history pruned answer claim root bytes which tells proved.
    let format : Format = format_of (g.K.Read.after tt) (g.V.Read.after tt) g.K.FixedSize.SIZE g.V.FixedSize.SIZE in
    let m : Machine = machine g.F.Family.merge_rule g.H.HashFunction.hash_of g.F.PendingOf.pending_encoding g.row.N g.K.FixedSize.SIZE
    g.V.FixedSize.SIZE page_size in
    ⊎_elim
    (λ is. let told = subst (λ a. TellsRootOf m format a (live history pruned)) is tells in proved.sound history told.1 told.0)
    (λ is. let told = subst (λ a. TellsRootOf m format a (live history pruned)) is tells in proved.sound history told.1 told.0)
    which
