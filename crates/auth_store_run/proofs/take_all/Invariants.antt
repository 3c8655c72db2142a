use Rattle.std.proofs.Common.{◌≤◌, ◌+◌, ◌≡◌}
use Rattle.std.specs.Vec.{vec_len, vec_capacity}
use Rattle.std.specs.Vec.Iter.{into_iter_items, into_iter_len}
use Rattle.auth_store_log.specs.Records.{format_of}
use Rattle.auth_store_machine.specs.Machine.{machine}
use Rattle.auth_store_session.specs.MachineCode.{requests_of, meanings_of, config_after_all}
use Rattle.auth_store_machine.specs.Standing.{page_size_in, config_in}
use Rattle.auth_store_machine.proofs.Runs.{Taken}
use Rattle.auth_store_run.specs.Room.{HasRoom}
use Rattle.auth_store_run.proofs.take_all.Given as goal

abbrev pub invariant-loop-step : goal.invariant-loop-step
invariant-loop-step g l =
    (HasRoom l.fn.answers (vec_len l.fn.steps)
    → Taken (machine g.F.Family.merge_rule g.H.HashFunction.hash_of g.F.PendingOf.pending_encoding g.row.N
    g.K.FixedSize.SIZE g.V.FixedSize.SIZE (page_size_in l.fn.session.parts l.fn.session.store))
    (format_of (g.K.Read.after tt) (g.V.Read.after tt) g.K.FixedSize.SIZE g.V.FixedSize.SIZE) l.fn.session
    (requests_of g.K.Write.encoding g.V.Write.encoding l.fn.steps.items)
    (requests_of g.K.Write.encoding g.V.Write.encoding (into_iter_items l.steps))
    (meanings_of g.H.Digest.Write.encoding g.K.Write.encoding g.V.Write.encoding l.answers.items) l.session
    × (vec_len l.answers + into_iter_len l.steps ≤ vec_capacity l.answers))
    × (config_after_all (into_iter_items l.steps) (config_in l.session.parts l.session.store)
    ≡ config_after_all l.fn.steps.items (config_in l.fn.session.parts l.fn.session.store))

abbrev pub decreases-loop-step : goal.decreases-loop-step
decreases-loop-step g l = into_iter_len l.steps
