use Rattle.std.proofs.Common.{ltb, map, ◌-◌, sym, ◌∙◌, ap}
use Rattle.std.proofs.lemmas.Bool.{cond-true, cond-false, lt-ltb, le-ltb}
use Rattle.std.specs.Prelude.{slice_get, option_map}
use Rattle.merkle_core_parts.specs.Mem.{encoded, digest_at}
use Rattle.merkle_core_parts.specs.Laws.Made.{digest-encoded}
use Rattle.merkle_memory.proofs.growth.known_digest.Goals as goal

pub returns-then-position-base_size : goal.returns-then-position-base_size
returns-then-position-base_size g c =
    let encoding = g.D.Write.encoding in
    ap (option_map encoding) c.peak_digest.ensures
    ∙ digest-encoded encoding c.args.peaks.now c.args.position
    ∙ sym (cond-true (ltb c.args.position c.args.base_size)
    (digest_at (encoded encoding c.args.peaks.now) c.args.position)
    (slice_get (map encoding c.args.added.now) (c.args.position - c.args.base_size))
    (lt-ltb c.args.position c.args.base_size c.if-position-base_size.true))

pub returns : goal.returns
returns g c =
    let encoding = g.D.Write.encoding in
    c.digest_of.ensures
    ∙ sym (cond-false (ltb c.args.position c.args.base_size)
    (digest_at (encoded encoding c.args.peaks.now) c.args.position)
    (slice_get (map encoding c.args.added.now) (c.args.position - c.args.base_size))
    (le-ltb c.args.position c.args.base_size c.if-position-base_size.false))
