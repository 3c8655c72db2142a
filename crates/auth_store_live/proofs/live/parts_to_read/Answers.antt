use Rattle.std.proofs.Common.{List, subst, sym}
use Rattle.paged_blob_parts.specs.Caches.{Cache}
use Rattle.paged_blob_parts.specs.Calls.{Call}
use Rattle.state_theory.specs.Canonical.{Setting}
use Rattle.auth_store_ledger.specs.Store.{setting_of_width}
use Rattle.auth_store_log.specs.Records.{Format, format_of}
use Rattle.auth_store_machine.specs.Reads.{IsLiveOn, LiveParts}
use Rattle.auth_store_machine.proofs.Logs.{readable}
use Rattle.auth_store_live.proofs.live.parts_to_read.Goals as goal

pub returns-clause-are : goal.returns-clause-are
returns-clause-are g c = sym c.live.view_is

pub returns-clause-may : goal.returns-clause-may
returns-clause-may g c =
    let format : Format = format_of (g.K.Read.after tt) (g.V.Read.after tt) g.K.FixedSize.SIZE g.V.FixedSize.SIZE in
    let setting : Setting = setting_of_width g.F.Family.merge_rule g.H.HashFunction.hash_of g.row.N in
    let calls : List Call = g.B.Blob.calls c.args.blob.now in
    let cache : Cache = c.args.cache.now in
    let inside : LiveParts = record { ledger = c.live.inside.ledger; writer = c.live.inside.writer } in
    let is : IsLiveOn setting format calls cache inside =
    subst (IsLiveOn setting format calls cache) (sym c.live.view_is) c.requires.live in
    readable format calls cache inside is.live (g.B.Blob.failures c.args.blob.now) (g.B.Blob.left c.args.blob.now) c.requires.opened
    c.requires.cache

pub returns-clause-of : goal.returns-clause-of
returns-clause-of g c =
    let format : Format = format_of (g.K.Read.after tt) (g.V.Read.after tt) g.K.FixedSize.SIZE g.V.FixedSize.SIZE in
    let setting : Setting = setting_of_width g.F.Family.merge_rule g.H.HashFunction.hash_of g.row.N in
    let calls : List Call = g.B.Blob.calls c.args.blob.now in
    let cache : Cache = c.args.cache.now in
    let inside : LiveParts = record { ledger = c.live.inside.ledger; writer = c.live.inside.writer } in
    let is : IsLiveOn setting format calls cache inside =
    subst (IsLiveOn setting format calls cache) (sym c.live.view_is) c.requires.live in
    is.ledger
