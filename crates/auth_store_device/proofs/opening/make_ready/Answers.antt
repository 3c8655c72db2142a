use Rattle.std.proofs.Common.{rules, ◌≡◌, sym, subst}
use Rattle.paged_blob_parts.specs.Calls.{file_of}
use Rattle.paged_blob_parts.specs.Images.{IsImage}
use Rattle.auth_store_device.specs.Logs.{behind_header, durable_log}
use Rattle.auth_store_device.specs.Records.{calls_of}
use Rattle.auth_store_device.proofs.Steps.{shown_is}
use Rattle.auth_store_device.proofs.opening.make_ready.Goals as goal

pub make_ready_to_open-requires : goal.make_ready_to_open-requires
make_ready_to_open-requires c =
    let is : c.shown_of.result.now ≡ behind_header (durable_log c.args.storage.now) =
    shown_is c.args.storage.now c.in_ok-copied.copied c.shown_of.result.now (search rules) (search rules) c.shown_of.ensures.none
    c.shown_of.ensures.some in
    subst (IsImage (file_of (calls_of c.args.record_kept.now))) (sym is) c.requires.image

pub returns-clause-ready : goal.returns-clause-ready
returns-clause-ready c =
    let is : c.shown_of.result.now ≡ behind_header (durable_log c.args.storage.now) =
    shown_is c.args.storage.now c.in_ok-copied.copied c.shown_of.result.now (search rules) (search rules) c.shown_of.ensures.none
    c.shown_of.ensures.some in
    search (rules, is)
