use Rattle.std.proofs.Common.{rules, ◌≡◌, ◌∷◌, ◌<◌, ◌∙◌, length, Some, Ok, Err, inl, ap, subst, sym}
use Rattle.paged_blob_parts.specs.Calls.{opened, file_of}
use Rattle.paged_blob_parts.specs.Images.{IsImage}
use Rattle.auth_store_device.specs.Records.{calls_of}
use Rattle.auth_store_device.specs.Logs.{behind_header, durable_log, log_of, HasOwnHeader}
use Rattle.auth_store_device.specs.Devices.{DeviceState, IsLetThrough, stopped_opening}
use Rattle.auth_store_device.proofs.Steps.{draws_opening, durable_image, opened_device, own_refused, stopped_ended, stopped_number, tells_err, tells_ok}
use Rattle.auth_store_device.proofs.device.Device.open.Goals as goal

pub returns-in-Err-clause-ended : goal.returns-in-Err-clause-ended
returns-in-Err-clause-ended g c = λ has.
    let ended = stopped_ended c.args.self.now c.stop.new.self c.in-Err.error c.in-Err.ensures.err has in
    ap Err (c.stopped_opening.ensures ∙ ap stopped_opening ended)

pub invariant_of-self-2 : goal.invariant_of-self-2
invariant_of-self-2 g c =
    let at = c.self.inside in
    let recorded : calls_of c.note_opening.new.self ≡ opened (behind_header (durable_log at.storage.inner)) ∷ calls_of at.record_kept =
    search rules in
    let cut : 0 < at.refused → c.left_after_opening-self-inside.result ≡ Some 0 = search rules in
    opened_device c.open_log-answer.new.storage c.in_ok-log.log (calls_of c.note_opening.new.self) (calls_of at.record_kept)
    (behind_header (durable_log at.storage.inner)) c.left_after_opening-self-inside.result at.refused (search rules) recorded cut

pub make_ready-requires-clause-image : goal.make_ready-requires-clause-image
make_ready-requires-clause-image g c =
    let at = c.self.inside in
    subst (λ store. IsImage (file_of (calls_of at.record_kept)) (behind_header (durable_log store))) (sym c.inner.ensures)
    (durable_image (file_of (calls_of at.record_kept)) (log_of at.storage.inner) c.self.invariant.stands)

pub returns-clause-records : goal.returns-clause-records
returns-clause-records g c =
    let at = c.self.inside in
    let inside = durable_image (file_of (calls_of at.record_kept)) (log_of at.storage.inner) c.self.invariant.stands in
    let image : IsImage (file_of c.args.self.now.calls) (behind_header (durable_log c.args.self.now.storage.inner)) = search (rules, inside) in
    (behind_header (durable_log c.args.self.now.storage.inner), image, search rules)

pub returns-clause-draw : goal.returns-clause-draw
returns-clause-draw g c =
    let at = c.self.inside in
    let before : DeviceState g.row.R.Denot =
    record { storage = at.storage; log = at.log; calls = calls_of at.record_kept; left = at.left; refused = at.refused } in
    let now : DeviceState g.row.R.Denot = record {
      storage = c.open_log-answer.new.storage;
      log = Some c.in_ok-log.log;
      calls = calls_of c.note_opening.new.self;
      left = c.left_after_opening-self-inside.result;
      refused = at.refused;
    } in
    let same : before ≡ c.args.self.now = search rules in
    let lasts : IsLetThrough before = search rules in
    let opens = c.open_log-answer.ensures.opens in
    draws_opening g.R.Rng.stream before c.args.self.now now (Ok (length c.behind_header.result.now)) opens.0 opens.1 same lasts opens.2
    (tells_ok opens.0 c.in_ok-log.log (length c.behind_header.result.now) (search rules)) opens.4

pub returns-in_err-log-clause-draw : goal.returns-in_err-log-clause-draw
returns-in_err-log-clause-draw g c =
    let at = c.self.inside in
    let before : DeviceState g.row.R.Denot =
    record { storage = at.storage; log = at.log; calls = calls_of at.record_kept; left = at.left; refused = at.refused } in
    let now : DeviceState g.row.R.Denot = record {
      storage = c.open_log-answer.new.storage;
      log = at.log;
      calls = calls_of c.make_ready.new.record_kept;
      left = c.left_after_opening-self-inside.result;
      refused = at.refused;
    } in
    let same : before ≡ c.args.self.now = search rules in
    let lasts : IsLetThrough before = search rules in
    let opens = c.open_log-answer.ensures.opens in
    draws_opening g.R.Rng.stream before c.args.self.now now c.from_residual-in_err-log.result opens.0 opens.1 same lasts opens.2
    (tells_err opens.0 c.in_err-log.field-0.0 c.from_residual-in_err-log.result (search rules) (search rules)) opens.4

pub returns-in_err-log-clause-own : goal.returns-in_err-log-clause-own
returns-in_err-log-clause-own g c = λ fault own is.
    let at = c.self.inside in
    let old : DeviceState g.row.R.Denot =
    record { storage = at.storage; log = at.log; calls = calls_of at.record_kept; left = at.left; refused = at.refused } in
    let same : old ≡ c.args.self.now = search rules in
    own_refused at.storage.inner fault c.self.invariant.orderly (subst (λ (s : DeviceState g.row.R.Denot). HasOwnHeader s.storage.inner) (sym same) own)
    (c.open_log-answer.ensures.header fault (search rules))

pub returns-in-Err-clause-numbers : goal.returns-in-Err-clause-numbers
returns-in-Err-clause-numbers g c = λ is.
    inl (stopped_number c.args.self.now c.stop.new.self c.in-Err.error c.in-Err.ensures.err (search rules))
