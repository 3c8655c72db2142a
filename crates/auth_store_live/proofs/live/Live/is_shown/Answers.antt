use Rattle.auth_store_log.specs.Records.{Format, format_of}
use Rattle.auth_store_machine.specs.Reads.{live_on}
use Rattle.auth_store_machine.proofs.OnDevice.{live_shows}
use Rattle.auth_store_live.proofs.live.Live.is_shown.Goals as goal

pub returns : goal.returns
returns g c = λ calls cache is.
    let format : Format = format_of (g.K.Read.after tt) (g.V.Read.after tt) g.K.FixedSize.SIZE g.V.FixedSize.SIZE in
    live_shows format calls cache (live_on format calls c.args.self.now) c.each_image_keeps_what_is_durable.ensures
    c.a_kept_log_is_shown.ensures.whole is
