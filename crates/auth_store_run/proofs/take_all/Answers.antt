use Rattle.std.proofs.Common.{ap, ◌∙◌, ◌<◌, sym, arith, ℕ}
use Rattle.std.specs.Vec.{vec_len, vec_capacity}
use Rattle.std.proofs.lemmas.List.{map-append, nil_from_length}
use Rattle.auth_store_log.specs.Records.{format_of}
use Rattle.auth_store_machine.specs.Machine.{Machine, machine}
use Rattle.auth_store_session.specs.MachineCode.{requests_of, meaning_of, meanings_of, config_after_all}
use Rattle.auth_store_session.proofs.Rests.{config_taken}
use Rattle.auth_store_machine.proofs.Runs.{taken_none, taken_next, taken_end, taken_end_in_doubt, taken_kinds}
use Rattle.auth_store_machine.specs.Standing.{config_in}
use Rattle.auth_store_run.proofs.take_all.Goals as goal

pub loop-step-init : goal.loop-step-init
loop-step-init g c = (
  λ room. (
    taken_none _ _ _ _ _ _ (ap (requests_of g.K.Write.encoding g.V.Write.encoding) c.into_iter-steps.ensures.rest)
        (ap (meanings_of g.H.Digest.Write.encoding g.K.Write.encoding g.V.Write.encoding) room.0) c.stands_for_sound_histories.ensures,
    omega (arith, c.into_iter-steps.ensures.len, room.1),
  ),
  ap (λ items. config_after_all items (config_in c.args.session.now.parts c.args.session.now.store)) c.into_iter-steps.ensures.rest,
)

pub loop-step-preserved : goal.loop-step-preserved
loop-step-preserved g c =
    let make : ℕ → Machine = machine g.F.Family.merge_rule g.H.HashFunction.hash_of g.F.PendingOf.pending_encoding g.row.N
    g.K.FixedSize.SIZE g.V.FixedSize.SIZE in (
      λ room.
          let before = c.loop-step.invariant.0 room in
          let fits : vec_len c.loop-step.answers < vec_capacity c.loop-step.answers = omega (arith, before.1, c.in-Some.ensures.len) in (
            taken_next make (format_of (g.K.Read.after tt) (g.V.Read.after tt) g.K.FixedSize.SIZE g.V.FixedSize.SIZE)
                _ _ _ _ _ _ _ _ _ _ before.0 (ap (requests_of g.K.Write.encoding g.V.Write.encoding)
                c.in-Some.ensures.items) c.step.ensures.steps c.step.ensures.kind c.step.ensures.open c.step.ensures.grows
                c.step.ensures.page_size
                (ap (meanings_of g.H.Digest.Write.encoding g.K.Write.encoding g.V.Write.encoding) (c.note.ensures.items fits)
                ∙ map-append (meaning_of g.H.Digest.Write.encoding g.K.Write.encoding g.V.Write.encoding) c.loop-step.answers.items _)
                c.stands_for_sound_histories-in-Some.ensures,
            omega (arith, c.in-Some.ensures.len, c.note.ensures.len fits, c.note.ensures.capacity, before.1),
          ),
      config_taken _ _ _ _ _ _ c.in-Some.ensures.items c.step.ensures.settings c.loop-step.invariant.1,
    )

pub stands_for_sound_histories-requires : goal.stands_for_sound_histories-requires
stands_for_sound_histories-requires g c = assumption c.well_formed

pub stands_for_sound_histories-requires-in-Some : goal.stands_for_sound_histories-requires-in-Some
stands_for_sound_histories-requires-in-Some g c = assumption c.well_formed

pub step-requires : goal.step-requires
step-requires g c = assumption c.well_formed

pub returns-clause-runs : goal.returns-clause-runs
returns-clause-runs g c room = taken_end _ _ _ _ _ _ _ (c.loop-step.invariant.0 room).0 (ap (requests_of g.K.Write.encoding g.V.Write.encoding)
    (nil_from_length _ (sym c.loop-step.steps.rest.ok.0 ∙ c.in_default.ensures.cases.0)))

pub returns-clause-kept : goal.returns-clause-kept
returns-clause-kept g c room = taken_end_in_doubt _ _ _ _ _ _ _ (c.loop-step.invariant.0 room).0 (ap (requests_of g.K.Write.encoding g.V.Write.encoding)
    (nil_from_length _ (sym c.loop-step.steps.rest.ok.0 ∙ c.in_default.ensures.cases.0)))

pub returns-clause-kinds : goal.returns-clause-kinds
returns-clause-kinds g c room = taken_kinds _ _ _ _ _ _ _ (c.loop-step.invariant.0 room).0 (ap (requests_of g.K.Write.encoding g.V.Write.encoding)
    (nil_from_length _ (sym c.loop-step.steps.rest.ok.0 ∙ c.in_default.ensures.cases.0)))

pub returns-clause-page_size : goal.returns-clause-page_size
returns-clause-page_size g c room = (c.loop-step.invariant.0 room).0.sized

pub returns-clause-grows : goal.returns-clause-grows
returns-clause-grows g c room = (c.loop-step.invariant.0 room).0.grown

pub returns-clause-settings : goal.returns-clause-settings
returns-clause-settings g c =
    sym (ap (λ items. config_after_all items (config_in c.loop-step.session.parts c.loop-step.session.store))
    (nil_from_length _ (sym c.loop-step.steps.rest.ok.0 ∙ c.in_default.ensures.cases.0)))
    ∙ c.loop-step.invariant.1
