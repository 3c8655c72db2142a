-- How each line is spelled: its words, with one space between them.
use Rattle.std.specs.Prelude.{◌≡◌, ℕ, List, [], ◌++◌, codes, Some, None, Ok}
use Rattle.hex.specs.Hex.{decode_of}
use Rattle.merkle_forest_parts.specs.declared.codec.fixed_bytes.FixedBytes.{FixedBytes}
use Rattle.auth_store_parts.specs.Script.{IsKey, IsNumber, decimal_value}
use Rattle.auth_store_parts.specs.declared.script.line.Line.{Line}
use Rattle.auth_store_parts.specs.declared.script.line.Line.TheVariants.{Empty, New, Open, Put, Delete, Commit, Get}
use Rattle.auth_store_parts.specs.declared.script.line.Line.TheVariants.{Root, Floor, Len, Prune, Prove, Proof}
use Rattle.auth_store_parts.specs.declared.script.line.Line.TheVariants.{CheckValue, CheckAbsent, Cut, Mode, Fault}
use Rattle.auth_store_parts.specs.declared.script.line.Line.TheVariants.{Close, Crash}
use Rattle.auth_store_parts.specs.declared.script.words.FaultKind.{FaultKind}
use Rattle.auth_store_parts.specs.declared.script.words.FaultKind.TheVariants as kinds
use Rattle.auth_store_parts.specs.declared.script.words.TornMode.{TornMode}
use Rattle.auth_store_parts.specs.declared.script.words.TornMode.TheVariants.{Prefix, Subset}
use Rattle.auth_store_parts.specs.declared.script.words.TreeFamily.{TreeFamily}
use Rattle.auth_store_parts.specs.declared.script.words.TreeFamily.TheVariants.{Mmr, Mmb}

-- the word for a family of trees
abbrev pub word_of_family : TreeFamily → List ℕ
word_of_family Mmr = codes "mmr"
word_of_family Mmb = codes "mmb"

-- the word for what is kept of a torn write
abbrev pub word_of_mode : TornMode → List ℕ
word_of_mode Prefix = codes "prefix"
word_of_mode Subset = codes "subset"

-- the word for a kind of calls
abbrev pub word_of_kind : FaultKind → List ℕ
word_of_kind kinds.Open = codes "open"
word_of_kind kinds.Read = codes "read"
word_of_kind kinds.Write = codes "write"
word_of_kind kinds.Sync = codes "sync"
word_of_kind kinds.Resize = codes "resize"

-- hexadecimal digits of a key's bytes
abbrev pub SpellsKey : FixedBytes 8 → List ℕ → Type 0
SpellsKey key text = IsKey text × (decode_of text ≡ Ok key.bytes)

-- decimal digits of a number
abbrev pub SpellsNumber : ℕ → List ℕ → Type 0
SpellsNumber n text = IsNumber text × (decimal_value text ≡ n)

-- these words, and after them more
abbrev pub Begins : List ℕ → (List ℕ → Type 0) → List ℕ → Type 0
Begins words P text = (rest : List ℕ) × (text ≡ words ++ rest) × P rest

-- a key and a number
abbrev pub SpellsBoth : FixedBytes 8 → ℕ → List ℕ → Type 0
SpellsBoth key n text = (k : List ℕ) × SpellsKey key k × Begins (k ++ codes " ") (SpellsNumber n) text

-- two numbers
abbrev pub SpellsTwo : ℕ → ℕ → List ℕ → Type 0
SpellsTwo first second text =
    (digits : List ℕ) × SpellsNumber first digits × Begins (digits ++ codes " ") (SpellsNumber second) text

-- the text of a line
abbrev pub Spells : Line → List ℕ → Type 0
Spells Empty text = text ≡ []
Spells (New family seed) text = Begins (codes "new " ++ word_of_family family ++ codes " ") (SpellsNumber seed) text
Spells Open text = text ≡ codes "open"
Spells (Put key value) text = Begins (codes "put ") (SpellsBoth key value) text
Spells (Delete key) text = Begins (codes "del ") (SpellsKey key) text
Spells (Commit None) text = text ≡ codes "commit"
Spells (Commit (Some metadata)) text = Begins (codes "commit ") (SpellsNumber metadata) text
Spells (Get key) text = Begins (codes "get ") (SpellsKey key) text
Spells Root text = text ≡ codes "root"
Spells Floor text = text ≡ codes "floor"
Spells Len text = text ≡ codes "len"
Spells (Prune location) text = Begins (codes "prune ") (SpellsNumber location) text
Spells (Prove key) text = Begins (codes "prove ") (SpellsKey key) text
Spells Proof text = text ≡ codes "proof"
Spells (CheckValue key value) text = Begins (codes "check value ") (SpellsBoth key value) text
Spells (CheckAbsent key) text = Begins (codes "check absent ") (SpellsKey key) text
Spells (Cut calls) text = Begins (codes "cut ") (SpellsNumber calls) text
Spells (Mode mode) text = text ≡ codes "mode " ++ word_of_mode mode
Spells (Fault kind numerator denominator) text =
    Begins (codes "fault " ++ word_of_kind kind ++ codes " ") (SpellsTwo numerator denominator) text
Spells Close text = text ≡ codes "close"
Spells Crash text = text ≡ codes "crash"
