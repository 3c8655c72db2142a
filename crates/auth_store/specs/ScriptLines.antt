-- What each line of a script asks of the store's session, what it prints, and what is kept after it.
use Rattle.std.specs.Prelude.{◌≡◌, ◌<◌, ◌≤◌, ◌⊎◌, ℕ, ◌++◌, ◌∷◌, Bool, true, false, List, [], length, codes, map}
use Rattle.std.specs.Prelude.{MatchOption, Option, None, Some, IfSome, unwrap_or, Result, Ok, Err, option_map}
use Rattle.std.specs.Prelude.{if◌then◌else◌}
use Rattle.std.specs.Fmt.{decimal}
use Rattle.std.specs.Int.{w64, to_be_bytes, from_be_bytes}
use Rattle.hex.specs.Hex.{encode_lower}
use Rattle.merkle_forest.specs.declared.codec.fixed_bytes.FixedBytes.{FixedBytes}
use Rattle.merkle_forest.specs.Codec.{after_fixed, option_encoding}
use Rattle.merkle_forest.specs.Forest.{Rule, mmr_rule, mmb_rule}
use Rattle.sha2.specs.Sha256.{sha256}
use Rattle.fault_storage_parts.specs.declared.config.Config.{Config}
use Rattle.fault_storage_parts.specs.declared.draws.PartialWriteMode.{PartialWriteMode}
use Rattle.fault_storage_parts.specs.declared.draws.PartialWriteMode.TheVariants as modes
use Rattle.fault_storage_parts.specs.declared.probability.Probability.{Probability}
use Rattle.auth_store_parts.specs.Batch.{Word, put, delete}
use Rattle.auth_store_parts.specs.Report.{reported}
use Rattle.auth_store_parts.specs.declared.script.line.Line.{Line}
use Rattle.auth_store_parts.specs.declared.script.line.Line.TheVariants.{Empty, New, Open, Put, Delete, Commit, Get}
use Rattle.auth_store_parts.specs.declared.script.line.Line.TheVariants.{Root, Floor, Len, Prune, Prove, Proof}
use Rattle.auth_store_parts.specs.declared.script.line.Line.TheVariants.{CheckValue, CheckAbsent, Cut, Mode, Fault}
use Rattle.auth_store_parts.specs.declared.script.line.Line.TheVariants.{Close, Crash}
use Rattle.auth_store_parts.specs.declared.script.words.FaultKind.{FaultKind}
use Rattle.auth_store_parts.specs.declared.script.words.FaultKind.TheVariants as kinds
use Rattle.auth_store_parts.specs.declared.script.words.TornMode.{TornMode}
use Rattle.auth_store_parts.specs.declared.script.words.TornMode.TheVariants.{Prefix, Subset}
use Rattle.auth_store_parts.specs.declared.script.words.TreeFamily.{TreeFamily}
use Rattle.auth_store_parts.specs.declared.script.words.TreeFamily.TheVariants.{Mmr, Mmb}
use Rattle.auth_store_log.specs.Records.{Format, format_of}
use Rattle.auth_store_client.specs.Claims.{Claim, Terms, Shows, terms, has_value, is_absent}
use Rattle.auth_store_proving.specs.Proving.{KeyAnswer, proved_value, proved_absent}
use Rattle.auth_store_machine.specs.Machine.{Machine, Request, Answer, machine, is_opened, is_root_of_commit}
use Rattle.auth_store_machine.specs.Machine.{ask_open, ask_commit, ask_get, ask_root, ask_commits, ask_floor, ask_len}
use Rattle.auth_store_machine.specs.Machine.{ask_prune, ask_proof, of_key, key_is}
use Rattle.auth_store_machine.specs.Machine.{ask_close, ask_crash, ask_config, ask_cut}
use Rattle.auth_store_machine.specs.Machine.{value, root_is, commits_are, floor_is, len_is, pruned_to, proof}
use Rattle.auth_store_machine.specs.Machine.{has_closed, has_crashed, is_set, refused}
use Rattle.auth_store_machine.specs.Refusals.{number_of}
use Rattle.auth_store_machine.specs.declared.error.StoreError.{StoreError}
use Rattle.auth_store_machine.specs.declared.error.StoreError.TheVariants.{Memory}

-- ---- what is asked

-- a step that a line asked of the session, with the settings that it puts in place, and its answer
pub record Exchange : Type 0 where
  pub request : Request
  pub settings : Option Config
  pub answer : Answer

-- one that puts no settings in place, and one that does
abbrev pub exchange : Request → Answer → Exchange
exchange request answer = record { request = request; settings = None; answer = answer }

abbrev pub setting : Config → Answer → Exchange
setting settings answer = record { request = ask_config; settings = Some settings; answer = answer }

-- what was asked, and what was answered, in the order of time
abbrev pub asked : List Exchange → List Request
asked exchanges = map (λ e. e.request) exchanges

abbrev pub answered : List Exchange → List Answer
answered exchanges = map (λ e. e.answer) exchanges

-- the settings in place after it: the last that were put there
abbrev pub settings_after : List Exchange → Config → Config
settings_after [] now = now
settings_after (e ∷ exchanges) now = settings_after exchanges (unwrap_or e.settings now)

-- ---- the settings

-- settings with this rate for a kind of calls, and all else as it was
abbrev pub with_rate : FaultKind → Probability → Config → Config
with_rate kinds.Open rate settings = record settings { «open» = rate }
with_rate kinds.Read rate settings = record settings { read = rate }
with_rate kinds.Write rate settings = record settings { write = record settings.write { rate = rate } }
with_rate kinds.Sync rate settings = record settings { sync = rate }
with_rate kinds.Resize rate settings = record settings { resize = record settings.resize { rate = rate } }

abbrev pub torn_mode : TornMode → PartialWriteMode
torn_mode Prefix = modes.Prefix
torn_mode Subset = modes.Subset

-- settings with this mode of writes, and all else as it was
abbrev pub with_mode : TornMode → Config → Config
with_mode mode settings = record settings { write = record settings.write { mode = torn_mode mode } }

-- ---- the families

-- the merge rule of a family's trees
abbrev pub rule_of : TreeFamily → Rule
rule_of Mmr = mmr_rule
rule_of Mmb = mmb_rule

-- which pending digests a proof may hold, and how they are encoded: none in an MMR, one of 32 bytes or none in an MMB
abbrev pub IsPendingOf : TreeFamily → Option (List ℕ) → Type 0
IsPendingOf Mmr = λ digest. digest ≡ None
IsPendingOf Mmb = λ digest. IfSome digest (λ bytes. length bytes ≡ 32)

abbrev pub pending_of : TreeFamily → Option (List ℕ) → List ℕ
pending_of Mmr = λ _. []
pending_of Mmb = option_encoding (λ bytes. bytes)

-- the encoding of a key or of a digest
abbrev pub bytes_of : {M : ℕ} → FixedBytes M → List ℕ
bytes_of fixed = fixed.bytes

-- the encoding of a value
abbrev pub value_of : ℕ → List ℕ
value_of number = to_be_bytes w64 number

-- the machine of a script: SHA-256, chunks of one byte, keys and values of eight, pages of 64
abbrev pub script_machine : TreeFamily → Machine
script_machine family = machine (rule_of family) sha256 (pending_of family) 1 8 8 64

-- how its keys and values are read
abbrev pub script_format : Format
script_format = format_of (after_fixed 8) (after_fixed 8) 8 8

-- the terms of its proofs
abbrev pub script_terms : TreeFamily → Terms
script_terms family =
    terms (rule_of family) sha256 1 32 (IsPendingOf family) (pending_of family) (after_fixed 8) (after_fixed 8) 8 8

-- ---- what is kept

-- What a script keeps beside its session: the family of its trees, the number that its device is seeded by, the
-- settings that are in place, the words of its batch, and the bytes of its last proof with the root of the moment at
-- which it was made.
pub record Progress : Type 0 where
  pub family : TreeFamily
  pub seed : ℕ
  pub settings : Config
  pub words : List Word
  pub kept : Option (List ℕ × List ℕ)

-- what the first line begins with
abbrev pub new_progress : TreeFamily → ℕ → Config → Progress
new_progress family seed settings =
    record { family = family; seed = seed; settings = settings; words = []; kept = None }

-- the same with other settings or words, or with another proof
abbrev pub with_settings : Config → Progress → Progress
with_settings settings now = record now { settings = settings }

abbrev pub with_words : List Word → Progress → Progress
with_words words now = record now { words = words }

abbrev pub with_kept : Option (List ℕ × List ℕ) → Progress → Progress
with_kept kept now = record now { kept = kept }

-- ---- what is printed

-- a value as a decimal number
abbrev pub spelled : List ℕ → List ℕ
spelled bytes = decimal (from_be_bytes w64 bytes)

-- a key's value, or that it has none
abbrev pub value_line : Option (List ℕ) → List ℕ
value_line (Some bytes) = codes "value " ++ spelled bytes
value_line None = codes "none"

abbrev pub root_line : List ℕ → List ℕ
root_line digest = codes "root " ++ encode_lower digest

abbrev pub floor_line : ℕ → List ℕ
floor_line location = codes "floor " ++ decimal location

abbrev pub len_line : ℕ → List ℕ
len_line count = codes "len " ++ decimal count

abbrev pub pruned_line : ℕ → List ℕ
pruned_line chunks = codes "pruned " ++ decimal chunks

abbrev pub refusal_line : StoreError → List ℕ
refusal_line error = codes "error " ++ number_of error

-- the line that says an answer: any other has none, and where it comes the script's line is out of place
abbrev pub answer_line : Answer → Option (List ℕ)
answer_line (value found) = Some (value_line found)
answer_line (root_is digest) = Some (root_line digest)
answer_line (floor_is location) = Some (floor_line location)
answer_line (len_is count) = Some (len_line count)
answer_line (pruned_to chunks) = Some (pruned_line chunks)
answer_line has_closed = Some (codes "closed")
answer_line has_crashed = Some (codes "crashed")
answer_line is_set = Some (codes "ok")
answer_line (refused error) = Some (refusal_line error)
answer_line _ = None

-- the same where commits are counted: their number behind a word
abbrev pub count_line : List ℕ → Answer → Option (List ℕ)
count_line word (commits_are count) = Some (word ++ decimal count)
count_line word answer = answer_line answer

-- what a proof says of its key
abbrev pub proved_line : KeyAnswer → List ℕ
proved_line (proved_value bytes shown) = codes "present " ++ spelled bytes
proved_line (proved_absent shown) = codes "absent"

-- the bytes of a proof
abbrev pub proof_bytes : KeyAnswer → List ℕ
proof_bytes (proved_value bytes shown) = shown
proof_bytes (proved_absent shown) = shown

-- the same where a proof waits for the root
abbrev pub found_line : KeyAnswer → Answer → Option (List ℕ)
found_line found (root_is digest) = Some (proved_line found)
found_line found answer = answer_line answer

-- its bytes are kept with the root, where the root is answered
abbrev pub kept_after : List ℕ → Answer → Option (List ℕ × List ℕ) → Option (List ℕ × List ℕ)
kept_after bytes (root_is digest) kept = Some (bytes, digest)
kept_after bytes answer kept = kept

-- the proof of a key in an answer
abbrev pub proof_in : Answer → Option KeyAnswer
proof_in (proof (key_is found)) = Some found
proof_in _ = None

-- the line that says what a check answers: it is only refused where it is out of memory
abbrev pub checked_line : {E : Type 0} → Result Bool E → List ℕ
checked_line (Ok holds) = if holds then codes "yes" else codes "no"
checked_line (Err e) = refusal_line Memory

-- what a check prints: `yes` only where the claim is shown, `no` only where it is not, or that it is out of memory
abbrev pub Checks : Type 0 → List ℕ → Type 0
Checks Shown printed = ((printed ≡ reported (codes "yes")) × Shown)
    ⊎ ((printed ≡ reported (codes "no")) × (Shown → ⊥))
    ⊎ (printed ≡ reported (refusal_line Memory))

-- ---- what a line does

-- nothing is asked
abbrev pub IsQuiet : List Exchange → Type 0
IsQuiet exchanges = exchanges ≡ []

-- one step is asked, and the line says its answer
abbrev pub AsksStep : (Answer → Exchange) → List Exchange → Option (List ℕ) → Type 0
AsksStep step exchanges printed = (answer : Answer) × (exchanges ≡ step answer ∷ [])
    × (printed ≡ option_map reported (answer_line answer))

-- one that puts no settings in place
abbrev pub Asks : Request → List Exchange → Option (List ℕ) → Type 0
Asks request exchanges printed = AsksStep (exchange request) exchanges printed

-- settings are put in place and kept
abbrev pub Sets : Config → Progress → List Exchange → Option (List ℕ) → Progress → Type 0
Sets settings now exchanges printed next =
    AsksStep (setting settings) exchanges printed × (next ≡ with_settings settings now)

-- a fraction that is a rate: at most one
abbrev pub IsRate : ℕ → ℕ → Type 0
IsRate numerator denominator = (0 < denominator) × (numerator ≤ denominator)

-- one thing is asked, and where it is done the number of commits besides
abbrev pub Counts : Request → (Answer → Bool) → List ℕ → List Exchange → Option (List ℕ) → Type 0
Counts request is_done word exchanges printed =
    ((answer : Answer) × (is_done answer ≡ false) × (exchanges ≡ exchange request answer ∷ [])
    × (printed ≡ option_map reported (answer_line answer)))
    ⊎ ((done answer : Answer) × (is_done done ≡ true) × (exchanges
    ≡ exchange request done ∷ exchange ask_commits answer ∷ [])
    × (printed ≡ option_map reported (count_line word answer)))

-- A proof is asked for, of the key's value or of its absence, and where it is answered the root besides, with which it
-- is kept.
abbrev pub Proves : Progress → List ℕ → List Exchange → Option (List ℕ) → Progress → Type 0
Proves now key exchanges printed next =
    ((answer : Answer) × (proof_in answer ≡ None) × (exchanges ≡ exchange (ask_proof (of_key key)) answer ∷ [])
    × (next ≡ now)
    × (printed ≡ option_map reported (answer_line answer)))
    ⊎ ((found : KeyAnswer) × (answer : Answer)
    × (exchanges ≡ exchange (ask_proof (of_key key)) (proof (key_is found)) ∷ exchange ask_root answer ∷ [])
    × (next ≡ with_kept (kept_after (proof_bytes found) answer now.kept) now)
    × (printed ≡ option_map reported (found_line found answer)))

-- The kept bytes are checked against the kept root: before any were kept the line is out of place.
abbrev pub ChecksClaim : Progress → Claim → List Exchange → Option (List ℕ) → Progress → Type 0
ChecksClaim now claim exchanges printed next =
    IsQuiet exchanges × (next ≡ now) × MatchOption now.kept (printed ≡ None)
    (λ kept. (text : List ℕ) × (printed ≡ Some text)
    × Checks (Shows (script_terms now.family) claim kept.1 kept.0) text)

-- What a line asks, what it prints, and what is kept after it. A line that prints nothing at all, not even an empty
-- text, is out of place.
abbrev pub Does : Progress → Line → List Exchange → Option (List ℕ) → Progress → Type 0
Does now Empty exchanges printed next = IsQuiet exchanges × (printed ≡ Some []) × (next ≡ now)
Does now (New family seed) exchanges printed next = IsQuiet exchanges × (printed ≡ None) × (next ≡ now)
Does now Open exchanges printed next = Counts ask_open is_opened (codes "open ") exchanges printed × (next ≡ now)
Does now (Put key number) exchanges printed next =
    IsQuiet exchanges × (printed ≡ Some [])
    × (next ≡ with_words (now.words ++ put key.bytes (value_of number) ∷ []) now)
Does now (Delete key) exchanges printed next =
    IsQuiet exchanges × (printed ≡ Some []) × (next ≡ with_words (now.words ++ delete key.bytes ∷ []) now)
Does now (Commit metadata) exchanges printed next =
    Counts (ask_commit now.words (option_map value_of metadata)) is_root_of_commit (codes "commit ") exchanges printed
    × (next ≡ with_words [] now)
Does now (Get key) exchanges printed next = Asks (ask_get key.bytes) exchanges printed × (next ≡ now)
Does now Root exchanges printed next = Asks ask_root exchanges printed × (next ≡ now)
Does now Floor exchanges printed next = Asks ask_floor exchanges printed × (next ≡ now)
Does now Len exchanges printed next = Asks ask_len exchanges printed × (next ≡ now)
Does now (Prune location) exchanges printed next = Asks (ask_prune location) exchanges printed × (next ≡ now)
Does now (Prove key) exchanges printed next = Proves now key.bytes exchanges printed next
Does now Proof exchanges printed next =
    IsQuiet exchanges × (printed ≡ option_map (λ kept. reported (codes "proof " ++ encode_lower kept.0)) now.kept)
    × (next ≡ now)
Does now (CheckValue key number) exchanges printed next =
    ChecksClaim now (has_value key.bytes (value_of number)) exchanges printed next
Does now (CheckAbsent key) exchanges printed next = ChecksClaim now (is_absent key.bytes) exchanges printed next
Does now (Cut calls) exchanges printed next = Asks (ask_cut calls) exchanges printed × (next ≡ now)
Does now (Mode mode) exchanges printed next = Sets (with_mode mode now.settings) now exchanges printed next
Does now (Fault kind numerator denominator) exchanges printed next =
    ((rate : Probability) × (rate.numerator ≡ numerator) × (rate.denominator ≡ denominator)
    × Sets (with_rate kind rate now.settings) now exchanges printed next)
    ⊎ ((IsRate numerator denominator → ⊥) × IsQuiet exchanges × (printed ≡ None) × (next ≡ now))
Does now Close exchanges printed next = Asks ask_close exchanges printed × (next ≡ now)
Does now Crash exchanges printed next = Asks ask_crash exchanges printed × (next ≡ now)
