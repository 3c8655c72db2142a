use Rattle.std.proofs.Common.{◌≡◌, ◌∙◌, List, None, Some, ap, refl, subst, sym}
use Rattle.std.specs.Prelude.{IfErr}
use Rattle.std.proofs.lemmas.Result.{err_from_is_err_and}
use Rattle.paged_blob_parts.specs.Caches.{Cache}
use Rattle.paged_blob_parts.specs.Calls.{Call}
use Rattle.state_theory.specs.Canonical.{Setting}
use Rattle.auth_store_ledger.specs.Store.{HasValueAt, setting_of_width}
use Rattle.auth_store_log.specs.Records.{Format, format_of}
use Rattle.auth_store_machine.specs.declared.error.StoreError.{StoreError}
use Rattle.auth_store_machine.specs.Machine.{refusal_of}
use Rattle.auth_store_machine.specs.Reads.{IsLiveOn, IsReadable, LeavesRead, LiveParts, Over, live_on, log_in, over}
use Rattle.auth_store_machine.proofs.Logs.{keeps_on, log_is, readable}
use Rattle.state_ops.specs.Operation.{Operation}
use Rattle.auth_store_index.specs.Readings.{value_of}
use Rattle.auth_store_parts.specs.History.{history_of, latest_map}
use Rattle.auth_store_parts.specs.Map.{value_at}
use Rattle.auth_store_machine.specs.Refusals.{of_log}
use Rattle.auth_store_machine.specs.Stores.{IsCache, IsReadRefusal}
use Rattle.auth_store_machine.proofs.Readings.{read_all, read_none, read_some}
use Rattle.std.specs.Prelude.{slice_get}
use Rattle.auth_store_live.proofs.live.get_live.Goals as goal

pub returns-in_err-value_at-clause-live : goal.returns-in_err-value_at-clause-live
returns-in_err-value_at-clause-live g c =
    let format : Format = format_of (g.K.Read.after tt) (g.V.Read.after tt) g.K.FixedSize.SIZE g.V.FixedSize.SIZE in
    let setting : Setting = setting_of_width g.F.Family.merge_rule g.H.HashFunction.hash_of g.row.N in
    let calls : List Call = g.B.Blob.calls c.args.blob.now in
    let cache : Cache = c.args.cache.now in
    let inside : LiveParts = record { ledger = c.live.inside.ledger; writer = c.live.inside.writer } in
    let is : IsLiveOn setting format calls cache inside = subst (IsLiveOn setting format calls cache) (sym c.live.view_is) c.requires.live in
    let one : Over = over calls (g.B.Blob.failures c.args.blob.now) (g.B.Blob.left c.args.blob.now) cache in
    let read : IsReadable format one inside.writer = readable format calls cache inside is.live (g.B.Blob.failures c.args.blob.now)
    (g.B.Blob.left c.args.blob.now) c.requires.open c.requires.cache in
    let other : Over = over (g.B.Blob.calls c.value_at.new.self.blob.now) (g.B.Blob.failures c.value_at.new.self.blob.now)
    (g.B.Blob.left c.value_at.new.self.blob.now) c.value_at.new.self.cache.now in
    let error = c.in_err-value_at.field-0.0 in
    let p = err_from_is_err_and c.from_residual.result c.from_residual.ensures.1 in
    let refused = c.in_err-value_at.ensures.refused in
    let blob_is : c.blob-1.given.0 ≡ _ = c.blob-1.given.1 (sym refused.0) in
    let cache_is : c.cache-1.given.0 ≡ _ = c.cache-1.given.1 (sym refused.1) in
    (subst (λ (b : g.row.B.Denot). IsLiveOn setting format (g.B.Blob.calls b) c.cache-1.given.0 c.args.live.now) (sym blob_is)
    (subst (λ (k : Cache). IsLiveOn setting format (g.B.Blob.calls c.value_at.new.self.blob.now) k c.args.live.now) (sym cache_is)
    (subst (λ (p : LiveParts). IsLiveOn setting format other.calls other.cache p) c.live.view_is
    (keeps_on setting format calls cache inside is other refused.3.calls (refused.3.readable read)))))

pub returns-clause-live : goal.returns-clause-live
returns-clause-live g c =
    let format : Format = format_of (g.K.Read.after tt) (g.V.Read.after tt) g.K.FixedSize.SIZE g.V.FixedSize.SIZE in
    let setting : Setting = setting_of_width g.F.Family.merge_rule g.H.HashFunction.hash_of g.row.N in
    let calls : List Call = g.B.Blob.calls c.args.blob.now in
    let cache : Cache = c.args.cache.now in
    let inside : LiveParts = record { ledger = c.live.inside.ledger; writer = c.live.inside.writer } in
    let is : IsLiveOn setting format calls cache inside = subst (IsLiveOn setting format calls cache) (sym c.live.view_is) c.requires.live in
    let one : Over = over calls (g.B.Blob.failures c.args.blob.now) (g.B.Blob.left c.args.blob.now) cache in
    let read : IsReadable format one inside.writer = readable format calls cache inside is.live (g.B.Blob.failures c.args.blob.now)
    (g.B.Blob.left c.args.blob.now) c.requires.open c.requires.cache in
    let other : Over = over (g.B.Blob.calls c.value_at.new.self.blob.now) (g.B.Blob.failures c.value_at.new.self.blob.now)
    (g.B.Blob.left c.value_at.new.self.blob.now) c.value_at.new.self.cache.now in
    let led = c.in_ok-value_at.ensures.leads in
    let blob_is : c.blob-1.given.0 ≡ _ = c.blob-1.given.1 (sym led.0) in
    let cache_is : c.cache-1.given.0 ≡ _ = c.cache-1.given.1 (sym led.1) in
    (subst (λ (b : g.row.B.Denot). IsLiveOn setting format (g.B.Blob.calls b) c.cache-1.given.0 c.args.live.now) (sym blob_is)
    (subst (λ (k : Cache). IsLiveOn setting format (g.B.Blob.calls c.value_at.new.self.blob.now) k c.args.live.now) (sym cache_is)
    (subst (λ (p : LiveParts). IsLiveOn setting format other.calls other.cache p) c.live.view_is
    (keeps_on setting format calls cache inside is other led.3.calls (led.3.readable read)))))

pub returns-in_err-value_at-clause-cache : goal.returns-in_err-value_at-clause-cache
returns-in_err-value_at-clause-cache g c =
    let format : Format = format_of (g.K.Read.after tt) (g.V.Read.after tt) g.K.FixedSize.SIZE g.V.FixedSize.SIZE in
    let setting : Setting = setting_of_width g.F.Family.merge_rule g.H.HashFunction.hash_of g.row.N in
    let calls : List Call = g.B.Blob.calls c.args.blob.now in
    let cache : Cache = c.args.cache.now in
    let inside : LiveParts = record { ledger = c.live.inside.ledger; writer = c.live.inside.writer } in
    let is : IsLiveOn setting format calls cache inside = subst (IsLiveOn setting format calls cache) (sym c.live.view_is) c.requires.live in
    let one : Over = over calls (g.B.Blob.failures c.args.blob.now) (g.B.Blob.left c.args.blob.now) cache in
    let read : IsReadable format one inside.writer = readable format calls cache inside is.live (g.B.Blob.failures c.args.blob.now)
    (g.B.Blob.left c.args.blob.now) c.requires.open c.requires.cache in
    let other : Over = over (g.B.Blob.calls c.value_at.new.self.blob.now) (g.B.Blob.failures c.value_at.new.self.blob.now)
    (g.B.Blob.left c.value_at.new.self.blob.now) c.value_at.new.self.cache.now in
    let error = c.in_err-value_at.field-0.0 in
    let p = err_from_is_err_and c.from_residual.result c.from_residual.ensures.1 in
    let refused = c.in_err-value_at.ensures.refused in
    let blob_is : c.blob-1.given.0 ≡ _ = c.blob-1.given.1 (sym refused.0) in
    let cache_is : c.cache-1.given.0 ≡ _ = c.cache-1.given.1 (sym refused.1) in
    (subst (λ (b : g.row.B.Denot). IsCache c.cache-1.given.0) (sym blob_is)
    (subst (λ (k : Cache). IsCache k) (sym cache_is)
    (refused.3.readable read).cache))

pub returns-clause-cache : goal.returns-clause-cache
returns-clause-cache g c =
    let format : Format = format_of (g.K.Read.after tt) (g.V.Read.after tt) g.K.FixedSize.SIZE g.V.FixedSize.SIZE in
    let setting : Setting = setting_of_width g.F.Family.merge_rule g.H.HashFunction.hash_of g.row.N in
    let calls : List Call = g.B.Blob.calls c.args.blob.now in
    let cache : Cache = c.args.cache.now in
    let inside : LiveParts = record { ledger = c.live.inside.ledger; writer = c.live.inside.writer } in
    let is : IsLiveOn setting format calls cache inside = subst (IsLiveOn setting format calls cache) (sym c.live.view_is) c.requires.live in
    let one : Over = over calls (g.B.Blob.failures c.args.blob.now) (g.B.Blob.left c.args.blob.now) cache in
    let read : IsReadable format one inside.writer = readable format calls cache inside is.live (g.B.Blob.failures c.args.blob.now)
    (g.B.Blob.left c.args.blob.now) c.requires.open c.requires.cache in
    let other : Over = over (g.B.Blob.calls c.value_at.new.self.blob.now) (g.B.Blob.failures c.value_at.new.self.blob.now)
    (g.B.Blob.left c.value_at.new.self.blob.now) c.value_at.new.self.cache.now in
    let led = c.in_ok-value_at.ensures.leads in
    let blob_is : c.blob-1.given.0 ≡ _ = c.blob-1.given.1 (sym led.0) in
    let cache_is : c.cache-1.given.0 ≡ _ = c.cache-1.given.1 (sym led.1) in
    (subst (λ (b : g.row.B.Denot). IsCache c.cache-1.given.0) (sym blob_is)
    (subst (λ (k : Cache). IsCache k) (sym cache_is)
    (led.3.readable read).cache))

pub returns-in_err-value_at-clause-reads : goal.returns-in_err-value_at-clause-reads
returns-in_err-value_at-clause-reads g c =
    let format : Format = format_of (g.K.Read.after tt) (g.V.Read.after tt) g.K.FixedSize.SIZE g.V.FixedSize.SIZE in
    let setting : Setting = setting_of_width g.F.Family.merge_rule g.H.HashFunction.hash_of g.row.N in
    let calls : List Call = g.B.Blob.calls c.args.blob.now in
    let cache : Cache = c.args.cache.now in
    let inside : LiveParts = record { ledger = c.live.inside.ledger; writer = c.live.inside.writer } in
    let is : IsLiveOn setting format calls cache inside = subst (IsLiveOn setting format calls cache) (sym c.live.view_is) c.requires.live in
    let one : Over = over calls (g.B.Blob.failures c.args.blob.now) (g.B.Blob.left c.args.blob.now) cache in
    let read : IsReadable format one inside.writer = readable format calls cache inside is.live (g.B.Blob.failures c.args.blob.now)
    (g.B.Blob.left c.args.blob.now) c.requires.open c.requires.cache in
    let other : Over = over (g.B.Blob.calls c.value_at.new.self.blob.now) (g.B.Blob.failures c.value_at.new.self.blob.now)
    (g.B.Blob.left c.value_at.new.self.blob.now) c.value_at.new.self.cache.now in
    let error = c.in_err-value_at.field-0.0 in
    let p = err_from_is_err_and c.from_residual.result c.from_residual.ensures.1 in
    let refused = c.in_err-value_at.ensures.refused in
    let blob_is : c.blob-1.given.0 ≡ _ = c.blob-1.given.1 (sym refused.0) in
    let cache_is : c.cache-1.given.0 ≡ _ = c.cache-1.given.1 (sym refused.1) in
    subst (λ r. LeavesRead (refusal_of r) one (over (g.B.Blob.calls c.blob-1.given.0)
    (g.B.Blob.failures c.blob-1.given.0) (g.B.Blob.left c.blob-1.given.0) c.cache-1.given.0)) (sym p.1)
    (subst (λ (x : StoreError). LeavesRead (Some x) one
    (over (g.B.Blob.calls c.blob-1.given.0) (g.B.Blob.failures c.blob-1.given.0) (g.B.Blob.left c.blob-1.given.0)
    c.cache-1.given.0)) (sym p.2)
    (subst (λ (b : g.row.B.Denot). LeavesRead (Some (of_log error)) one
    (over (g.B.Blob.calls b) (g.B.Blob.failures b) (g.B.Blob.left b) c.cache-1.given.0)) (sym blob_is)
    (subst (λ (k : Cache). LeavesRead (Some (of_log error)) one
    (over (g.B.Blob.calls c.value_at.new.self.blob.now) (g.B.Blob.failures c.value_at.new.self.blob.now)
    (g.B.Blob.left c.value_at.new.self.blob.now) k)) (sym cache_is)
    (read_some format inside.writer one other error refused.3))))

pub returns-clause-reads : goal.returns-clause-reads
returns-clause-reads g c =
    let format : Format = format_of (g.K.Read.after tt) (g.V.Read.after tt) g.K.FixedSize.SIZE g.V.FixedSize.SIZE in
    let setting : Setting = setting_of_width g.F.Family.merge_rule g.H.HashFunction.hash_of g.row.N in
    let calls : List Call = g.B.Blob.calls c.args.blob.now in
    let cache : Cache = c.args.cache.now in
    let inside : LiveParts = record { ledger = c.live.inside.ledger; writer = c.live.inside.writer } in
    let is : IsLiveOn setting format calls cache inside = subst (IsLiveOn setting format calls cache) (sym c.live.view_is) c.requires.live in
    let one : Over = over calls (g.B.Blob.failures c.args.blob.now) (g.B.Blob.left c.args.blob.now) cache in
    let read : IsReadable format one inside.writer = readable format calls cache inside is.live (g.B.Blob.failures c.args.blob.now)
    (g.B.Blob.left c.args.blob.now) c.requires.open c.requires.cache in
    let other : Over = over (g.B.Blob.calls c.value_at.new.self.blob.now) (g.B.Blob.failures c.value_at.new.self.blob.now)
    (g.B.Blob.left c.value_at.new.self.blob.now) c.value_at.new.self.cache.now in
    let led = c.in_ok-value_at.ensures.leads in
    let blob_is : c.blob-1.given.0 ≡ _ = c.blob-1.given.1 (sym led.0) in
    let cache_is : c.cache-1.given.0 ≡ _ = c.cache-1.given.1 (sym led.1) in
    (subst (λ (b : g.row.B.Denot). LeavesRead None one (over (g.B.Blob.calls b) (g.B.Blob.failures b) (g.B.Blob.left b) c.cache-1.given.0)) (sym blob_is)
    (subst (λ (k : Cache). LeavesRead None one
    (over (g.B.Blob.calls c.value_at.new.self.blob.now) (g.B.Blob.failures c.value_at.new.self.blob.now)
    (g.B.Blob.left c.value_at.new.self.blob.now) k)) (sym cache_is)
    (read_all format inside.writer one other None refl refl led.3)))

pub returns-in_default-clause-reads : goal.returns-in_default-clause-reads
returns-in_default-clause-reads g c =
    let format : Format = format_of (g.K.Read.after tt) (g.V.Read.after tt) g.K.FixedSize.SIZE g.V.FixedSize.SIZE in
    let setting : Setting = setting_of_width g.F.Family.merge_rule g.H.HashFunction.hash_of g.row.N in
    let calls : List Call = g.B.Blob.calls c.args.blob.now in
    let cache : Cache = c.args.cache.now in
    let inside : LiveParts = record { ledger = c.live.inside.ledger; writer = c.live.inside.writer } in
    let is : IsLiveOn setting format calls cache inside = subst (IsLiveOn setting format calls cache) (sym c.live.view_is) c.requires.live in
    let one : Over = over calls (g.B.Blob.failures c.args.blob.now) (g.B.Blob.left c.args.blob.now) cache in
    let read : IsReadable format one inside.writer = readable format calls cache inside is.live (g.B.Blob.failures c.args.blob.now)
    (g.B.Blob.left c.args.blob.now) c.requires.open c.requires.cache in
    read_none one

pub returns-in_err-value_at-clause-refused : goal.returns-in_err-value_at-clause-refused
returns-in_err-value_at-clause-refused g c =
    let format : Format = format_of (g.K.Read.after tt) (g.V.Read.after tt) g.K.FixedSize.SIZE g.V.FixedSize.SIZE in
    let setting : Setting = setting_of_width g.F.Family.merge_rule g.H.HashFunction.hash_of g.row.N in
    let calls : List Call = g.B.Blob.calls c.args.blob.now in
    let cache : Cache = c.args.cache.now in
    let inside : LiveParts = record { ledger = c.live.inside.ledger; writer = c.live.inside.writer } in
    let is : IsLiveOn setting format calls cache inside = subst (IsLiveOn setting format calls cache) (sym c.live.view_is) c.requires.live in
    let one : Over = over calls (g.B.Blob.failures c.args.blob.now) (g.B.Blob.left c.args.blob.now) cache in
    let read : IsReadable format one inside.writer = readable format calls cache inside is.live (g.B.Blob.failures c.args.blob.now)
    (g.B.Blob.left c.args.blob.now) c.requires.open c.requires.cache in
    let other : Over = over (g.B.Blob.calls c.value_at.new.self.blob.now) (g.B.Blob.failures c.value_at.new.self.blob.now)
    (g.B.Blob.left c.value_at.new.self.blob.now) c.value_at.new.self.cache.now in
    let error = c.in_err-value_at.field-0.0 in
    let p = err_from_is_err_and c.from_residual.result c.from_residual.ensures.1 in
    let refused = c.in_err-value_at.ensures.refused in
    let blob_is : c.blob-1.given.0 ≡ _ = c.blob-1.given.1 (sym refused.0) in
    let cache_is : c.cache-1.given.0 ≡ _ = c.cache-1.given.1 (sym refused.1) in
    subst (λ r. IfErr r (IsReadRefusal one.failures (g.B.Blob.failures c.blob-1.given.0))) (sym p.1)
    (subst (λ (x : StoreError). IsReadRefusal one.failures (g.B.Blob.failures c.blob-1.given.0) x) (sym p.2)
    (subst (λ (b : g.row.B.Denot). IsReadRefusal one.failures (g.B.Blob.failures b) (of_log error)) (sym blob_is)
    (subst (λ (k : Cache). IsReadRefusal one.failures (g.B.Blob.failures c.value_at.new.self.blob.now) (of_log error)) (sym cache_is)
    (refused.3.cause read))))

pub returns-clause-ok : goal.returns-clause-ok
returns-clause-ok g c =
    let format : Format = format_of (g.K.Read.after tt) (g.V.Read.after tt) g.K.FixedSize.SIZE g.V.FixedSize.SIZE in
    let setting : Setting = setting_of_width g.F.Family.merge_rule g.H.HashFunction.hash_of g.row.N in
    let calls : List Call = g.B.Blob.calls c.args.blob.now in
    let cache : Cache = c.args.cache.now in
    let inside : LiveParts = record { ledger = c.live.inside.ledger; writer = c.live.inside.writer } in
    let is : IsLiveOn setting format calls cache inside = subst (IsLiveOn setting format calls cache) (sym c.live.view_is) c.requires.live in
    let one : Over = over calls (g.B.Blob.failures c.args.blob.now) (g.B.Blob.left c.args.blob.now) cache in
    let read : IsReadable format one inside.writer = readable format calls cache inside is.live (g.B.Blob.failures c.args.blob.now)
    (g.B.Blob.left c.args.blob.now) c.requires.open c.requires.cache in
    let log = log_in format calls inside.writer in
    let there : HasValueAt (g.K.Write.encoding c.args.key.now) (history_of log) c.in-Some.location = c.in-Some.ensures log is.ledger in
    let stands = ap (λ (l : List Operation). slice_get l c.in-Some.location) (log_is format calls cache inside is.live) ∙ there.stands in
    subst (λ (p : LiveParts). Some (g.V.Write.encoding c.in_ok-value_at.field-0) ≡ value_at (latest_map (live_on format calls p).history)
    (g.K.Write.encoding c.args.key.now)) c.live.view_is
    (ap Some (c.in_ok-value_at.ensures.value ∙ ap value_of stands) ∙ sym there.is)

pub value_at-requires : goal.value_at-requires
value_at-requires g c =
    let format : Format = format_of (g.K.Read.after tt) (g.V.Read.after tt) g.K.FixedSize.SIZE g.V.FixedSize.SIZE in
    let setting : Setting = setting_of_width g.F.Family.merge_rule g.H.HashFunction.hash_of g.row.N in
    let calls : List Call = g.B.Blob.calls c.args.blob.now in
    let cache : Cache = c.args.cache.now in
    let inside : LiveParts = record { ledger = c.live.inside.ledger; writer = c.live.inside.writer } in
    let is : IsLiveOn setting format calls cache inside = subst (IsLiveOn setting format calls cache) (sym c.live.view_is) c.requires.live in
    let one : Over = over calls (g.B.Blob.failures c.args.blob.now) (g.B.Blob.left c.args.blob.now) cache in
    let read : IsReadable format one inside.writer = readable format calls cache inside is.live (g.B.Blob.failures c.args.blob.now)
    (g.B.Blob.left c.args.blob.now) c.requires.open c.requires.cache in
    let log = log_in format calls inside.writer in
    let there : HasValueAt (g.K.Write.encoding c.args.key.now) (history_of log) c.in-Some.location = c.in-Some.ensures log is.ledger in
    let stands = ap (λ (l : List Operation). slice_get l c.in-Some.location) (log_is format calls cache inside is.live) ∙ there.stands in
    record {
      may = read;
      stands = (g.K.Write.encoding c.args.key.now, there.value, there.next, stands);
    }
