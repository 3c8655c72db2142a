use Rattle.std.proofs.Common.{rules, ◌≡◌, ℕ, ◌<◌, List, take, subst, arith}
use Rattle.paged_blob_parts.specs.Calls.{Call}
use Rattle.paged_blob_parts.specs.Moments.{here}
use Rattle.paged_blob_parts.specs.Writers.{Keeps, written}
use Rattle.auth_store_log.proofs.Openings.{written_len}
use Rattle.paged_blob_parts.specs.CachedContent.{HoldsPagesOf}
use Rattle.std.proofs.lemmas.Result.{IfOk-weaker}
use Rattle.auth_store_log.proofs.Causes.{names_stay, none_named}
use Rattle.auth_store_log.proofs.opening.keep_front.Goals as goal

pub returns-then-count-size-clause-any_moment : goal.returns-then-count-size-clause-any_moment
returns-then-count-size-clause-any_moment g c =
    let sum = g.C.Checksum.checksum_of in
    let calls : List Call = g.B.Blob.calls c.args.blob.now in
    let w = c.args.recovery in
    let old : List ℕ = written sum calls w in
    let room : 12 < w.page_size = search rules in
    let all : w.synced ≡ c.args.count =
    omega (arith, c.requires.synced, c.if-count-size.true, c.size.ensures, written_len sum calls w c.requires.writer) in
    here (subst (λ n. Keeps sum w.page_size old n calls) all
    (c.each_image_keeps_what_is_durable.ensures sum w.page_size calls old w.synced w.tip w.slot (omega (arith, room)) c.requires.writer))

pub returns-clause-named : goal.returns-clause-named
returns-clause-named g c =
    names_stay c.args.cache.now c.cut_behind.new.cache c.cut_behind.ensures.pages c.cut_behind.ensures.given.1 c.requires.named

pub returns-clause-cached : goal.returns-clause-cached
returns-clause-cached g c =
    let old : List ℕ = take c.args.count (written g.C.Checksum.checksum_of (g.B.Blob.calls c.args.blob.now) c.args.recovery) in
    IfOk-weaker c.cut_behind.result _ (λ w. HoldsPagesOf old c.cut_behind.new.cache w.blob_id)
    (λ w fresh. none_named old c.args.cache.now c.cut_behind.new.cache w.blob_id c.cut_behind.ensures.pages fresh.0 c.requires.named)
    c.cut_behind.ensures.name
