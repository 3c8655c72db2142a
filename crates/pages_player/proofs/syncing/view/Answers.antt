use Rattle.std.proofs.Common.{List, ℕ, sym, subst}
use Rattle.paged_blob_parts.specs.CachedContent.{HoldsPagesOf}
use Rattle.paged_blob_parts.specs.Reads.{ServesPages, StaysKept}
use Rattle.paged_blob_parts.specs.Stands.{Stand, on_blob}
use Rattle.paged_blob_parts.specs.declared.read.FlushedPages.{FlushedPages}
use Rattle.paged_blob_parts.proofs.WriterViews.{listed_is}
use Rattle.pages_player.proofs.syncing.view.Goals as goal

pub read_at-requires-clause-stand : goal.read_at-requires-clause-stand
read_at-requires-clause-stand g c =
    subst (Stand g.C.Checksum.checksum_of (g.B.Blob.calls c.args.blob.now)) (sym c.view.ensures.pages) c.requires.stand

pub read_at-requires-clause-cached : goal.read_at-requires-clause-cached
read_at-requires-clause-cached g c =
    let sum = g.C.Checksum.checksum_of in
    let calls = g.B.Blob.calls c.args.blob.now in
    let w = c.args.writer.now in
    let kept = subst (λ (l : List ℕ). HoldsPagesOf l c.args.cache.now w.blob_id) (sym (listed_is sum calls w)) c.requires.cached in
    subst (λ (p : FlushedPages). ServesPages (on_blob sum calls p) c.args.cache.now p.blob_id) (sym c.view.ensures.pages)
    (w.tip.bytes, kept)

pub returns-clause-cached : goal.returns-clause-cached
returns-clause-cached g c =
    let sum = g.C.Checksum.checksum_of in
    let calls = g.B.Blob.calls c.args.blob.now in
    let w = c.args.writer.now in
    let kept = subst (λ (l : List ℕ). HoldsPagesOf l c.args.cache.now w.blob_id) (sym (listed_is sum calls w)) c.requires.cached in
    let stays =
    subst (λ (p : FlushedPages). StaysKept (on_blob sum calls p) c.args.cache.now c.read_at.new.cache p.blob_id) c.view.ensures.pages
    c.read_at.ensures.cached in
    subst (λ (l : List ℕ). HoldsPagesOf l c.read_at.new.cache w.blob_id) (listed_is sum calls w) (stays w.tip.bytes kept)
