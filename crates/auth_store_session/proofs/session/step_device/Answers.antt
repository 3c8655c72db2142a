use Rattle.std.proofs.Common.{refl, ap}
use Rattle.rand_core.specs.Stream.{Stream}
use Rattle.fault_storage.specs.Stores.{Store}
use Rattle.paged_blob_parts.specs.Moments.{here}
use Rattle.auth_store_device.specs.Devices.{DeviceState}
use Rattle.auth_store_session.specs.MachineCode.{request_of, meaning_of}
use Rattle.auth_store_session.proofs.AtRest.{crash_rests, config_rests, cut_rests, refused_rests, rests_as}
use Rattle.auth_store_session.proofs.Rests.{is_refused_closed}
use Rattle.auth_store_machine.proofs.Powers.{same_grows}
use Rattle.auth_store_session.proofs.session.step_device.Goals as goal
use Rattle.auth_store_session.proofs.session.step_device.Goals.{in-Crash, in-Config, in-CutAfter, in_default}

pub returns-clause-steps : goal.returns-clause-steps
returns-clause-steps g c = elim c.match-step.branch [
  | in-Crash w ↦ λ rest m format cache. rests_as m format c.args.device.now w.crash.new.self _ cache _ _ _ _
      (ap (request_of g.K.Write.encoding g.V.Write.encoding) w.in-Crash.is)
      (ap (meaning_of g.H.Digest.Write.encoding g.K.Write.encoding g.V.Write.encoding) w.result-is) w.device-is
      (crash_rests m format c.args.device.now w.crash.new.self cache w.crash.ensures.device.1 w.crash.ensures.header
      w.crash.ensures.rest.0 w.crash.ensures.device.3 w.crash.ensures.device.2
      (ap (λ (p : Store × Stream). p.0.next) w.crash.ensures.store))
  | in-Config w ↦ λ rest m format cache. rests_as m format c.args.device.now w.set_config.new.self _ cache _ _ _ _
      (ap (request_of g.K.Write.encoding g.V.Write.encoding) w.in-Config.is)
      (ap (meaning_of g.H.Digest.Write.encoding g.K.Write.encoding g.V.Write.encoding) w.result-is) w.device-is
      (config_rests m format c.args.device.now w.set_config.new.self cache w.in-Config.config w.set_config.ensures)
  | in-CutAfter w ↦ λ rest m format cache. rests_as m format c.args.device.now w.cut_after.new.self _ cache _ _ _ _
      (ap (request_of g.K.Write.encoding g.V.Write.encoding) w.in-CutAfter.is)
      (ap (meaning_of g.H.Digest.Write.encoding g.K.Write.encoding g.V.Write.encoding) w.result-is) w.device-is
      (cut_rests m format c.args.device.now w.cut_after.new.self cache w.in-CutAfter.calls w.cut_after.ensures)
  | in_default w ↦ λ rest m format cache. rests_as m format c.args.device.now c.args.device.now _ cache _ _ _ _ refl
      (ap (meaning_of g.H.Digest.Write.encoding g.K.Write.encoding g.V.Write.encoding) w.result-is) w.device-is
      (refused_rests m format c.args.device.now cache (request_of g.K.Write.encoding g.V.Write.encoding c.args.step)
      (is_refused_closed g.K.Write.encoding g.V.Write.encoding c.args.step rest w.in_default.not-Crash
      w.in_default.not-Config w.in_default.not-CutAfter))
]

pub returns-clause-grows : goal.returns-clause-grows
returns-clause-grows g c = elim c.match-step.branch [
  | in-Crash w ↦ rw w.device-is (same_grows _ _ w.crash.ensures.device.1)
  | in-Config w ↦ rw w.device-is (same_grows _ _ (ap (λ (d : DeviceState g.row.R.Denot). d.calls) w.set_config.ensures))
  | in-CutAfter w ↦ rw w.device-is (same_grows _ _ (ap (λ (d : DeviceState g.row.R.Denot). d.calls) w.cut_after.ensures))
  | in_default w ↦ rw w.device-is (here tt)
]

pub returns-clause-kind : goal.returns-clause-kind
returns-clause-kind g c = elim c.match-step.branch [
  | in-Crash w ↦ rw (w.result-is, w.in-Crash.is) (λ rest. refl)
  | in-Config w ↦ rw (w.result-is, w.in-Config.is) (λ rest. refl)
  | in-CutAfter w ↦ rw (w.result-is, w.in-CutAfter.is) (λ rest. refl)
  | in_default w ↦ rw w.result-is (λ rest. (is_refused_closed g.K.Write.encoding g.V.Write.encoding c.args.step rest
      w.in_default.not-Crash w.in_default.not-Config w.in_default.not-CutAfter).kind)
]
