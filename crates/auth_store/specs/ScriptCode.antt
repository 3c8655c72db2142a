-- A script's run, as the code holds it.
use Rattle.std.specs.Prelude.{◌≡◌, ⊤, ℕ, ◌++◌, List, [], Option, None, Some, Result, Ok, Err, option_map}
use Rattle.std.specs.Io.KnownBytes.{Appends}
use Rattle.merkle_forest.specs.declared.codec.fixed_bytes.FixedBytes.{FixedBytes}
use Rattle.rand_pcg.specs.Lcg.{Lcg}
use Rattle.fault_storage_parts.specs.declared.config.Config as settings
use Rattle.auth_store_device.specs.Devices.{DeviceState}
use Rattle.auth_store_device.specs.Settings.{IsNew}
use Rattle.auth_store_parts.specs.Batch.{meanings}
use Rattle.auth_store_parts.specs.declared.script.line.Line.{Line}
use Rattle.auth_store_parts.specs.declared.script.words.TreeFamily.{TreeFamily}
use Rattle.auth_store_parts.specs.declared.script.words.TreeFamily.TheVariants as families
use Rattle.auth_store_client.specs.Claims.{Claim}
use Rattle.auth_store_machine.specs.Machine.{Answer}
use Rattle.auth_store_session.specs.MachineCode.{request_of}
use Rattle.auth_store_machine.specs.Standing.{SessionState, Runs, config_in, page_size_in}
use Rattle.auth_store_session.specs.declared.session.Step.{Step}
use Rattle.auth_store_session.specs.declared.session.Step.TheVariants.{Config}
use Rattle.auth_store.specs.ScriptLines.{Exchange, Progress, AsksStep, ChecksClaim, Sets, Does, IsQuiet, asked}
use Rattle.auth_store.specs.ScriptLines.{answered, settings_after, bytes_of, value_of, script_machine, script_format}
use Rattle.auth_store.specs.ScriptRun.{LineDoes, script_cache, seeded_by}
use Rattle.auth_store.specs.declared.script.end.End.{End}
use Rattle.auth_store.specs.declared.script.end.End.TheVariants.{BadLine, Memory, Io}
use Rattle.auth_store.specs.declared.script.progress.Kept.{Kept}
use Rattle.auth_store.specs.declared.script.progress.Progress as code
use Rattle.auth_store.specs.declared.script.running.Running.{Running}
use Rattle.auth_store.specs.declared.script.running.Running.TheVariants as running

-- ---- what is kept

-- the kept bytes of a proof, and the root of the moment at which it was made
abbrev pub kept_of : Option Kept → Option (List ℕ × List ℕ)
kept_of kept = option_map (λ k. (k.bytes.items, k.root.bytes)) kept

-- what a script keeps
abbrev pub progress_of : {F P : Type 0} → TreeFamily → code.Progress F P → Progress
progress_of family p = record {
  family = family;
  seed = p.seed;
  settings = p.settings;
  words = meanings bytes_of value_of p.batch.words.items;
  kept = kept_of p.kept;
}

-- where a script stands: what it keeps, and its session
pub record Now : Type 0 where
  pub progress : Progress
  pub session : SessionState Lcg

abbrev pub now_of : {F P : Type 0} → TreeFamily → code.Progress F P → Now
now_of family p = record { progress = progress_of family p; session = p.session }

-- over either family
abbrev pub now_in : Running → Now
now_in (running.Mmr p) = now_of families.Mmr p
now_in (running.Mmb p) = now_of families.Mmb p

-- ---- what is asked

-- the settings that a step puts in place
abbrev pub settings_in : {K V : Type 0} → Step K V → Option settings.Config
settings_in (Config config) = Some config
settings_in step = None

-- a step and its answer
abbrev pub exchange_of : Step (FixedBytes 8) ℕ → Answer → Exchange
exchange_of step answer =
    record { request = request_of bytes_of value_of step; settings = settings_in step; answer = answer }

-- The session came to where it is by a run of these exchanges, in pages of 64 bytes, and its device has the settings
-- that they put in place.
pub record HasRun (family : TreeFamily) (first : SessionState Lcg) (exchanges : List Exchange) (now : SessionState Lcg)
    : Type 0 where
  pub paged : page_size_in now.parts now.store ≡ 64
  pub set : (before : settings.Config) → config_in first.parts first.store ≡ Some before
      → config_in now.parts now.store ≡ Some (settings_after exchanges before)
  pub runs : Runs (script_machine family) script_format first (asked exchanges) (answered exchanges) now

-- these exchanges lead from one state of the session to the next
abbrev pub Goes : TreeFamily → SessionState Lcg → List Exchange → SessionState Lcg → Type 0
Goes family old exchanges new = (first : SessionState Lcg) (earlier : List Exchange)
    → HasRun family first earlier old → HasRun family first (earlier ++ exchanges) new

-- ---- what a line does

-- What was made of a line: it was taken, with what it prints behind what was printed; or it is out of place, and prints
-- nothing; or there was no memory, or writing failed.
abbrev pub Handled : (Option (List ℕ) → List Exchange → Type 0) → Option (List ℕ) → Option (List ℕ)
    → Result Unit End → Type 0
Handled Did before after (Ok _) =
    (exchanges : List Exchange) × (printed : List ℕ) × Did (Some printed) exchanges × Appends before after printed
Handled Did before after (Err BadLine) = (exchanges : List Exchange) × Did None exchanges × Appends before after []
Handled Did before after (Err Memory) = ⊤
Handled Did before after (Err Io) = ⊤

-- what a line does between two places where a script stands
abbrev pub DoesLine : Now → Line → Now → Option (List ℕ) → List Exchange → Type 0
DoesLine old line new printed exchanges =
    Does old.progress line exchanges printed new.progress × Goes old.progress.family old.session exchanges new.session

abbrev pub TakesLine : {F P : Type 0} → TreeFamily → code.Progress F P → Line → code.Progress F P
    → Option (List ℕ) → List Exchange → Type 0
TakesLine family old line new = DoesLine (now_of family old) line (now_of family new)

-- one step is taken, its answer is said, and what is kept stays
abbrev pub Says : {F P : Type 0} → TreeFamily → code.Progress F P → Step (FixedBytes 8) ℕ → code.Progress F P
    → Option (List ℕ) → List Exchange → Type 0
Says family old step new printed exchanges =
    (AsksStep (exchange_of step) exchanges printed × (progress_of family new ≡ progress_of family old))
    × Goes family old.session exchanges new.session

-- settings are put in place and kept
abbrev pub SetsTo : {F P : Type 0} → TreeFamily → code.Progress F P → settings.Config → code.Progress F P
    → Option (List ℕ) → List Exchange → Type 0
SetsTo family old config new printed exchanges =
    Sets config (progress_of family old) exchanges printed (progress_of family new)
    × Goes family old.session exchanges new.session

-- the kept bytes are checked, and all stays
abbrev pub ChecksKept : {F P : Type 0} → TreeFamily → code.Progress F P → Claim → Option (List ℕ)
    → List Exchange → Type 0
ChecksKept family now claim printed exchanges =
    ChecksClaim (progress_of family now) claim exchanges printed (progress_of family now)
    × Goes family now.session exchanges now.session

-- ---- a run

-- a run so far: nothing was asked before it began; then a whole run of the session, over a new device and an empty
-- cache
abbrev pub IsRunning : List Exchange → Option Now → Type 0
IsRunning exchanges None = IsQuiet exchanges
IsRunning exchanges (Some now) = (device : DeviceState Lcg) × IsNew (seeded_by now.progress.seed) device
    × HasRun now.progress.family (record { parts = Some (device, script_cache); store = None }) exchanges now.session

-- what is kept of it
abbrev pub kept_in : Option Now → Option Progress
kept_in now = option_map (λ (n : Now). n.progress) now

-- so a line of a run
abbrev pub DoesText : Option Now → Option Line → Option Now → Option (List ℕ) → List Exchange → Type 0
DoesText old line new printed exchanges =
    LineDoes (kept_in old) line exchanges printed (kept_in new)
    × ((earlier : List Exchange) → IsRunning earlier old → IsRunning (earlier ++ exchanges) new)
