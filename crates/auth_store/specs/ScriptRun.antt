-- What a whole run of a script prints, and what it asks of its session.
use Rattle.std.specs.Prelude.{◌≡◌, ◌+◌, ◌==◌, ℕ, ◌++◌, ◌∷◌, List, [], codes, length, Option, None, Some}
use Rattle.std.specs.Fmt.{decimal}
use Rattle.std.specs.List.{slice_split}
use Rattle.std.specs.Io.KnownBytes.{Appends}
use Rattle.rand_core.specs.Pcg32Seed.{pcg32_seed}
use Rattle.rand_pcg.specs.Lcg.{Lcg}
use Rattle.rand_pcg.specs.Pcg.{pcg32_of_seed}
use Rattle.paged_blob_parts.specs.Caches.{Cache}
use Rattle.auth_store_device.specs.Devices.{DeviceState}
use Rattle.auth_store_device.specs.Settings.{AreFirst, IsNew}
use Rattle.fault_storage_parts.specs.declared.config.Config.{Config}
use Rattle.auth_store_parts.specs.Line.{line_of}
use Rattle.auth_store_parts.specs.Report.{reported}
use Rattle.auth_store_parts.specs.declared.script.line.Line.{Line}
use Rattle.auth_store_parts.specs.declared.script.line.Line.TheVariants.{Empty, New}
use Rattle.auth_store_machine.specs.Standing.{RunsWhole}
use Rattle.auth_store.specs.ScriptLines.{Exchange, Progress, Does, IsQuiet, asked, answered, settings_after}
use Rattle.auth_store.specs.ScriptLines.{new_progress, script_machine, script_format}

-- What a line does in a run. The first that isn't empty begins it, with the settings of a new device. A text that
-- spells no line is out of place, and so is before the run begins each line but an empty one or `new`.
abbrev pub LineDoes : Option Progress → Option Line → List Exchange → Option (List ℕ) → Option Progress → Type 0
LineDoes now None exchanges printed next = IsQuiet exchanges × (printed ≡ None) × (next ≡ now)
LineDoes (Some now) (Some line) exchanges printed next =
    (later : Progress) × (next ≡ Some later) × Does now line exchanges printed later
LineDoes None (Some Empty) exchanges printed next = IsQuiet exchanges × (printed ≡ Some []) × (next ≡ None)
LineDoes None (Some (New family seed)) exchanges printed next =
    IsQuiet exchanges × (printed ≡ Some (reported (codes "new")))
    × ((first : Config) × AreFirst first × (next ≡ Some (new_progress family seed first)))
LineDoes None (Some line) exchanges printed next = IsQuiet exchanges × (printed ≡ None) × (next ≡ None)

-- lines that are taken, one after the other, all that they ask and all that they print
abbrev pub HasTaken : Option Progress → List (List ℕ) → List Exchange → List ℕ → Option Progress → Type 0
HasTaken first [] exchanges printed last = IsQuiet exchanges × (printed ≡ []) × (last ≡ first)
HasTaken first (text ∷ texts) exchanges printed last =
    (next : Option Progress) × (here later : List Exchange) × (exchanges ≡ here ++ later)
    × (line rest : List ℕ) × (printed ≡ line ++ rest)
    × LineDoes first (line_of text) here (Some line) next × HasTaken next texts later rest last

-- the lines of a script: what stands between newline bytes
abbrev pub lines_of : List ℕ → List (List ℕ)
lines_of script = slice_split (λ byte. byte == 10) script

-- some lines are taken, and the next is out of place: its number is printed last, counted from 1
pub record StopsAt (script : List ℕ) (exchanges : List Exchange) (printed : List ℕ)
    (last : Option Progress) : Type 0 where
  pub before : List (List ℕ)
  pub text : List ℕ
  pub later : List (List ℕ)
  pub now : Option Progress
  pub earlier : List Exchange
  pub here : List Exchange
  pub said : List ℕ
  pub lines : lines_of script ≡ before ++ text ∷ later
  pub taken : HasTaken None before earlier said now
  pub bad : LineDoes now (line_of text) here None last
  pub whole : exchanges ≡ earlier ++ here
  pub is : printed ≡ said ++ reported (codes "bad line " ++ decimal (length before + 1))

-- what is printed is a text that fits
abbrev pub Prints : Option (List ℕ) → Option (List ℕ) → (List ℕ → Type 0) → Type 0
Prints before later Fits = (printed : List ℕ) × Appends before later printed × Fits printed

-- the generator that a number seeds
abbrev pub seeded_by : ℕ → Lcg
seeded_by seed = pcg32_of_seed (pcg32_seed 16 seed)

-- the cache with which a script begins: no page is kept and no name is given yet
abbrev pub script_cache : Cache
script_cache = record { page_size = 52; capacity = 8; next_id = 0; pages = [] }

-- A whole run of the session asked these things, over trees of the family of the script's first line, of a device that
-- had no file and was seeded by that line's number, and of an empty cache; the device has the settings that were put in
-- place last. Without that line there is no device, and nothing was asked.
abbrev pub IsRunOf : Option Progress → Option (DeviceState Lcg) → List Exchange → Type 0
IsRunOf None None exchanges = IsQuiet exchanges
IsRunOf (Some progress) (Some device) exchanges =
    (first : DeviceState Lcg) × (now : Cache) × IsNew (seeded_by progress.seed) first
    × (device.storage.config ≡ settings_after exchanges first.storage.config)
    × RunsWhole (script_machine progress.family) script_format first script_cache (asked exchanges) (answered exchanges)
    device now
IsRunOf _ _ exchanges = ⊥

-- the script runs to its end
abbrev pub Ends : List ℕ → Option (DeviceState Lcg) → List ℕ → Type 0
Ends script device printed = (exchanges : List Exchange) × (last : Option Progress)
    × HasTaken None (lines_of script) exchanges printed last × IsRunOf last device exchanges

-- it runs to a line that is out of place
abbrev pub Stops : List ℕ → Option (DeviceState Lcg) → List ℕ → Type 0
Stops script device printed = (exchanges : List Exchange) × (last : Option Progress)
    × StopsAt script exchanges printed last × IsRunOf last device exchanges
