-- What a write or a resize leaves, made or failed.
use Rattle.std.proofs.Common.{◌≡◌, ℕ, ◌+◌, ◌<◌, min, Bool, Option, Some, List, length, refl, ap, ◌∙◌, arith}
use Rattle.rand_core.specs.Stream.{Stream}
use Rattle.fault_storage_parts.specs.declared.config.ResizeConfig.{ResizeConfig}
use Rattle.fault_storage_parts.specs.declared.config.WriteConfig.{WriteConfig}
use Rattle.fault_storage_parts.specs.Draws.{Rate, kept_bytes}
use Rattle.fault_storage_parts.specs.DrawsCode.{rate_of, mode_of}
use Rattle.fault_storage_parts.specs.Files.{Mutation, fixed, resized_to, resized, with_kept}
use Rattle.fault_storage_parts.specs.Revisions.{kept_of, shortened}
use Rattle.fault_storage.specs.declared.storage.WriteMode.{WriteMode}
use Rattle.fault_storage.specs.declared.storage.WriteMode.TheVariants.{Plain, Sync}
use Rattle.fault_storage.specs.Stores.{Store, Handle, issued, revised}
use Rattle.fault_storage.specs.Changes.{mutation_for, shown_after, made_write, failed_write, failed_length, failed_resize, resized_whole}
use Rattle.fault_storage.proofs.Revising.{revised-issued}

kept-fixed : (config : WriteConfig) (mode : WriteMode) (at : ℕ) (bytes : List ℕ) (kept : List Bool)
    → kept_of kept (mutation_for config mode at bytes) ≡ fixed at bytes kept
kept-fixed config Plain at bytes kept = refl
kept-fixed config Sync at bytes kept = refl

pub write-failed : (config : WriteConfig) (mode : WriteMode) (offset : ℕ) (bytes : List ℕ) (handle : Handle)
    (store with left : Store) (number start at : ℕ)
    (live room shown : List ℕ) (kept laid : List Bool) (words later : Stream) (mutation : Mutation)
    → record { number = number; offset = start; live = live } ≡ handle
    → at ≡ start + offset → mutation ≡ mutation_for config mode at bytes → with ≡ issued number mutation store
    → left ≡ revised number (kept_of kept) with
    → room ≡ live → laid ≡ kept → shown ≡ with_kept at bytes laid room
    → ◌≡◌ {A = List Bool × Stream} (kept, later) (kept_bytes (mode_of config.mode) (rate_of config.retention) (length bytes) words)
    → ◌≡◌ {A = (Handle × Store) × Stream} ((record { number = number; offset = start; live = shown }, left), later)
    (failed_write config offset bytes handle store words)
write-failed config mode offset bytes handle store with left number start at live room shown kept laid words later mutation view there is issues revises
    roomy lays shows draws =
    let lives : shown ≡ with_kept (start + offset) bytes kept live =
    shows ∙ ap (λ l. with_kept at bytes l room) lays ∙ ap (with_kept at bytes kept) roomy ∙ ap (λ a. with_kept a bytes kept live) there in
    let leaves : left ≡ issued number (fixed (start + offset) bytes kept) store =
    revises ∙ ap (revised number (kept_of kept)) issues ∙ revised-issued number (kept_of kept) mutation store
    ∙ ap (λ m. issued number (kept_of kept m) store) is ∙ ap (λ m. issued number m store) (kept-fixed config mode at bytes kept)
    ∙ ap (λ a. issued number (fixed a bytes kept) store) there in
    ap (λ l. ((record { number = number; offset = start; live = l }, left), later)) lives
    ∙ ap (λ s. ((record { number = number; offset = start; live = with_kept (start + offset) bytes kept live }, s), later)) leaves
    ∙ ap (λ (d : List Bool × Stream). (
      (
        record { number = number; offset = start; live = with_kept (start + offset) bytes d.0 live },
        issued number
            (fixed (start + offset) bytes d.0) store,
      ),
      d.1,
    )) draws
    ∙ ap (λ h. failed_write config offset bytes h store words) view

made-as : (config : WriteConfig) (mode : WriteMode) (offset : ℕ) (bytes : List ℕ) (store : Store) (number start : ℕ) (live : List ℕ)
    → ◌≡◌ {A = Handle × Store} (
      record { number = number; offset = start; live = shown_after mode (start + offset) bytes live },
      issued number
          (mutation_for config mode (start + offset) bytes) store,
    )
    (made_write config mode offset bytes (record { number = number; offset = start; live = live }) store)
made-as config Plain offset bytes store number start live = refl
made-as config Sync offset bytes store number start live = refl

pub write-made : (config : WriteConfig) (mode : WriteMode) (offset : ℕ) (bytes : List ℕ) (handle : Handle) (store left : Store) (number start at : ℕ)
    (live room shown : List ℕ) (mutation : Mutation) → record { number = number; offset = start; live = live } ≡ handle
    → at ≡ start + offset → mutation ≡ mutation_for config mode at bytes → left ≡ issued number mutation store → room ≡ live
    → shown ≡ shown_after mode at bytes room
    → ◌≡◌ {A = Handle × Store} (record { number = number; offset = start; live = shown }, left) (made_write config mode offset bytes handle store)
write-made config mode offset bytes handle store left number start at live room shown mutation view there is issues roomy shows =
    let lives : shown ≡ shown_after mode (start + offset) bytes live = shows ∙ ap (shown_after mode at bytes) roomy
    ∙ ap (λ a. shown_after mode a bytes live) there in
    let leaves : left ≡ issued number (mutation_for config mode (start + offset) bytes) store =
    issues ∙ ap (λ m. issued number m store) is ∙ ap (λ a. issued number (mutation_for config mode a bytes) store) there in
    ap (λ l. (record { number = number; offset = start; live = l }, left)) lives
    ∙ ap (λ s. (record { number = number; offset = start; live = shown_after mode (start + offset) bytes live }, s)) leaves
    ∙ made-as config mode offset bytes store number start live
    ∙ ap (λ h. made_write config mode offset bytes h store) view

-- a resize that was issued to the furthest of two lengths, and then to one that is no further
pub shortened-issued : (number furthest size : ℕ) (rate : Rate) (store with left : Store) → size < furthest + 1
    → with ≡ issued number (resized_to furthest rate) store
    → left ≡ revised number (shortened size) with → left ≡ issued number (resized_to size rate) store
shortened-issued number furthest size rate store with left le issues revises =
    let same : min furthest size ≡ size = omega arith in
    revises ∙ ap (revised number (shortened size)) issues ∙ revised-issued number (shortened size) (resized_to furthest rate) store
    ∙ ap (λ n. issued number (resized_to n rate) store) same

pub resize-made : (rate : Rate) (handle : Handle) (store left : Store) (number start size all : ℕ) (live room shown : List ℕ)
    → record { number = number; offset = start; live = live } ≡ handle
    → all ≡ start + size → left ≡ issued number (resized_to all rate) store → room ≡ live → shown ≡ resized all room
    → ◌≡◌ {A = Handle × Store} (record { number = number; offset = start; live = shown }, left)
    (resized_whole (Some (handle.offset + size)) rate handle store)
resize-made rate handle store left number start size all live room shown view there issues roomy shows =
    ap (λ l. (record { number = number; offset = start; live = l }, left)) (shows ∙ ap (resized all) roomy)
    ∙ ap (λ s. (record { number = number; offset = start; live = resized all live }, s)) issues
    ∙ ap (λ a. (record { number = number; offset = start; live = resized a live }, issued number (resized_to a rate) store)) there
    ∙ ap (λ (h : Handle). resized_whole (Some (h.offset + size)) rate h store) view

-- a resize that failed, where it is drawn how far it goes
pub resize-failed : (config : ResizeConfig) (handle : Handle) (store left : Store) (number start size old all : ℕ)
    (live shown : List ℕ) (reached : Option ℕ)
    (words later : Stream)
    → record { number = number; offset = start; live = live } ≡ handle → old ≡ length live → all ≡ start + size
    → ◌≡◌ {A = Option ℕ × Stream} (reached, later) (failed_length (rate_of config.retention) old all words)
    → ◌≡◌ {A = Handle × Store} (record { number = number; offset = start; live = shown }, left)
    (resized_whole reached (rate_of config.retention) (record { number = number; offset = start; live = live }) store)
    → ◌≡◌ {A = (Handle × Store) × Stream} ((record { number = number; offset = start; live = shown }, left), later)
    (failed_resize config size handle store words)
resize-failed config handle store left number start size old all live shown reached words later view had there draws goes =
    ap (λ p. (p, later)) goes
    ∙ ap (λ (d : Option ℕ × Stream). (resized_whole d.0 (rate_of config.retention) (record { number = number; offset = start; live = live }) store, d.1))
    (draws ∙ ap (λ n. failed_length (rate_of config.retention) n all words) had
    ∙ ap (λ n. failed_length (rate_of config.retention) (length live) n words) there)
    ∙ ap (λ h. failed_resize config size h store words) view
