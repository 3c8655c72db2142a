use Rattle.std.proofs.Common.{◌∙◌, sym, subst}
use Rattle.paged_blob_parts.specs.Moments.{Grows}
use Rattle.auth_store_log.specs.Records.{Format, format_of}
use Rattle.auth_store_machine.specs.Machine.{Machine, machine}
use Rattle.auth_store_session.specs.MachineCode.{requests_of, meanings_of}
use Rattle.auth_store_machine.specs.Standing.{calls_in, page_size_in}
use Rattle.auth_store_machine.proofs.Runs.{runs_to_rest, runs_to_rest_in_doubt}
use Rattle.auth_store_run.proofs.run_within.Goals as goal

pub take_all-requires : goal.take_all-requires
take_all-requires g c = assumption c.well_formed

pub into_parts-device-requires : goal.into_parts-device-requires
into_parts-device-requires g c = assumption c.well_formed

pub returns-clause-runs : goal.returns-clause-runs
returns-clause-runs g c room =
    let m : Machine = machine g.F.Family.merge_rule g.H.HashFunction.hash_of g.F.PendingOf.pending_encoding g.row.N
    g.K.FixedSize.SIZE g.V.FixedSize.SIZE (page_size_in c.args.session.parts c.args.session.store) in
    let format : Format = format_of (g.K.Read.after tt) (g.V.Read.after tt) g.K.FixedSize.SIZE g.V.FixedSize.SIZE in
    let requests = requests_of g.K.Write.encoding g.V.Write.encoding c.args.steps.items in
    let answers = meanings_of g.H.Digest.Write.encoding g.K.Write.encoding g.V.Write.encoding c.take_all.new.answers.items in
    let taken = c.take_all.ensures in
    let apart = c.into_parts-device.ensures in
    record {
      runs = runs_to_rest m format c.args.session c.take_all.new.session requests answers c.into_parts-device.result.0
          c.into_parts-device.result.1 (taken.runs room) apart.calls (sym (taken.page_size room)) apart.power apart.rests;
      in_doubt = runs_to_rest_in_doubt m format c.args.session c.take_all.new.session requests answers c.into_parts-device.result.0
          c.into_parts-device.result.1 (taken.kept room) apart.power apart.rests;
      kinds = taken.kinds room;
      grows = subst (Grows (calls_in c.args.session.parts c.args.session.store)) (sym apart.calls) (taken.grows room);
      is_closed = apart.closed;
      is_cache = apart.cache;
      page_size = apart.page_size ∙ taken.page_size room;
    }
