use Rattle.std.proofs.Common.{◌≡◌, Some, subst}
use Rattle.std.specs.Prelude.{IfErr, IfOk}
use Rattle.auth_store_log.specs.Records.{format_of}
use Rattle.auth_store_machine.specs.Machine.{machine}
use Rattle.auth_store_session.specs.MachineCode.{requests_of, meanings_of, config_after_all}
use Rattle.auth_store_machine.specs.Standing.{HasRunToRest, config_in, page_size_in}
use Rattle.auth_store_run.proofs.run.Goals as goal

pub run_session-requires : goal.run_session-requires
run_session-requires g c = assumption c.well_formed

pub returns-clause-runs : goal.returns-clause-runs
returns-clause-runs g c =
    subst (λ session. IfOk c.run_session.result (λ ran. HasRunToRest (machine g.F.Family.merge_rule g.H.HashFunction.hash_of
    g.F.PendingOf.pending_encoding g.row.N g.K.FixedSize.SIZE g.V.FixedSize.SIZE (page_size_in session.parts session.store))
    (format_of (g.K.Read.after tt) (g.V.Read.after tt) g.K.FixedSize.SIZE g.V.FixedSize.SIZE) session
    (requests_of g.K.Write.encoding g.V.Write.encoding c.args.steps.items)
    (meanings_of g.H.Digest.Write.encoding g.K.Write.encoding g.V.Write.encoding ran.answers.items) ran.device ran.cache)) c.new.ensures
    c.run_session.ensures.runs

pub returns-clause-settings : goal.returns-clause-settings
returns-clause-settings g c =
    subst (λ session. IfOk c.run_session.result (λ ran. Some ran.device.storage.config
    ≡ config_after_all c.args.steps.items (config_in session.parts session.store))) c.new.ensures c.run_session.ensures.settings

pub returns-clause-unchanged : goal.returns-clause-unchanged
returns-clause-unchanged g c = subst (λ session. IfErr c.run_session.result (λ begun. begun ≡ session)) c.new.ensures c.run_session.ensures.unchanged
