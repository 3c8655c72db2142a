-- Calls that may fail. `Answers` says what the store below answers, and which store it leaves.
use Rattle.std.specs.Prelude.{◌≡◌, ℕ, ◌+◌, ◌-◌, ◌^◌, ◌<◌, ◌⊎◌, true, false, Result, Ok, Err, List}
use Rattle.rand_core.specs.Stream.{Stream}
use Rattle.fault_storage_parts.specs.declared.error.Call.{Call}
use Rattle.fault_storage_parts.specs.declared.error.Error.{Error}
use Rattle.fault_storage_parts.specs.declared.error.Error.TheVariants.{Injected, NumberEnded, Memory}
use Rattle.fault_storage.specs.declared.faulty.Blob.{Blob}
use Rattle.fault_storage.specs.declared.faulty.Storage.{Storage}
use Rattle.fault_storage_parts.specs.declared.header.Versions.{Versions}
use Rattle.fault_storage.specs.declared.storage.Opened.{Opened}
use Rattle.fault_storage.specs.Stores.{Store, Handle}
use Rattle.fault_storage.specs.Directory.{MemoryOpens}
use Rattle.fault_storage_parts.specs.declared.probability.Probability.{Probability}
use Rattle.fault_storage_parts.specs.Draws.{sample}
use Rattle.fault_storage_parts.specs.DrawsCode.{rate_of}

-- the call is refused as not made
abbrev pub IsNotMade : {T : Type 0} → Result T Error → Type 0
IsNotMade result = (result ≡ Err NumberEnded) ⊎ (result ≡ Err Memory)

-- A call of a store beside a generator. Refused as not made it takes no word; else one draw decides whether a fault is
-- injected or the store answers.
abbrev pub IsDrawnCall : {S R T : Type 0} → (R → Stream) → Call → Probability → (S → Result T Error → S → Type 0)
    → S → R → Result T Error → S → R → Type 0
IsDrawnCall stream call rate Answers old rng result new left = let drawn = sample (rate_of rate) (stream rng) in
    (IsNotMade result × Answers old result old × (new ≡ old) × (left ≡ rng))
    ⊎ ((drawn.0 ≡ true) × (result ≡ Err (Injected call)) × (new ≡ old) × (stream left ≡ drawn.1))
    ⊎ ((drawn.0 ≡ false) × (IsNotMade result → ⊥) × Answers old result new × (stream left ≡ drawn.1))

-- A call that may fail. Where the count of faults has ended, it is not made; nor where the store below refuses it so:
-- no word is taken. Else one draw decides: it injects a fault, which is counted, and the store below stays, or that
-- store answers.
abbrev pub IsFaultyCall : {S R T : Type 0} → (R → Stream) → Call → Probability → (S → Result T Error → S → Type 0)
    → Storage S R → Result T Error → Storage S R → Type 0
IsFaultyCall stream call rate Answers old result new = let drawn = sample (rate_of rate) (stream old.rng) in
    ((old.injections ≡ 2 ^ 64 - 1) × (result ≡ Err NumberEnded) × (new ≡ old))
    ⊎ ((old.injections < 2 ^ 64 - 1) × IsNotMade result × Answers old.inner result old.inner × (new ≡ old))
    ⊎ ((old.injections < 2 ^ 64 - 1) × (drawn.0 ≡ true) × (result ≡ Err (Injected call))
    × (new ≡ record old { rng = new.rng; injections = old.injections + 1 }) × (stream new.rng ≡ drawn.1))
    ⊎ ((old.injections < 2 ^ 64 - 1) × (drawn.0 ≡ false) × (IsNotMade result → ⊥) × Answers old.inner result new.inner
    × (new ≡ record old { inner = new.inner; rng = new.rng }) × (stream new.rng ≡ drawn.1))

-- what was opened, as the store below opened it
abbrev pub unwrapped : Opened (Blob Handle) → Opened Handle
unwrapped opened = record { blob = opened.blob.inner; size = opened.size; version = opened.version }

-- an opening of the store in memory, told of blobs of the store that fails
abbrev pub FaultyOpens : List ℕ → List ℕ → Versions → Store → Result (Opened (Blob Handle)) Error → Store → Type 0
FaultyOpens partition name versions old (Ok opened) new =
    MemoryOpens old partition name versions (Ok (unwrapped opened)) new
FaultyOpens partition name versions old (Err e) new = MemoryOpens old partition name versions (Err e) new

-- The store below answers: no word is taken, and no fault is counted.
abbrev pub IsPlainCall : {S R T : Type 0} → (R → Stream) → (S → Result T Error → S → Type 0) → Storage S R
    → Result T Error → Storage S R → Type 0
IsPlainCall stream Answers old result new =
    Answers old.inner result new.inner × (stream new.rng ≡ stream old.rng) × (new.injections ≡ old.injections)
    × (new.config ≡ old.config)

-- A fault is told of exactly where it is counted.
abbrev pub IsCounted : {S R T : Type 0} → Call → Storage S R → Result T Error → Storage S R → Type 0
IsCounted call old result new =
    ((result ≡ Err (Injected call)) × (new.injections ≡ old.injections + 1))
    ⊎ (((other : Call) → result ≡ Err (Injected other) → ⊥) × (new.injections ≡ old.injections))
