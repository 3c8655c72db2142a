-- What a line of a script asks for.
use Rattle.std.specs.Prelude.{ℕ, ◌+◌, ◌^◌, ◌==◌, nat_lt, ◌&&◌, Bool, if◌then◌else◌, List, [], ◌∷◌, length, take, drop}
use Rattle.std.specs.Prelude.{position, codes, Option, Some, None, option_map, Result, Ok, Err}
use Rattle.std.specs.Char.{is_ascii_digit}
use Rattle.std.specs.List.{list_all}
use Rattle.std.specs.Str.{bytes_eq}
use Rattle.hex.specs.Hex.{decode_of}
use Rattle.hex.specs.declared.error.FromHexError.{FromHexError}
use Rattle.merkle_forest_parts.specs.declared.codec.fixed_bytes.FixedBytes.{FixedBytes}
use Rattle.auth_store_parts.specs.Script.{decimal_value}
use Rattle.auth_store_parts.specs.declared.script.line.Line.{Line}
use Rattle.auth_store_parts.specs.declared.script.line.Line.TheVariants.{Empty, New, Open, Put, Delete, Commit, Get}
use Rattle.auth_store_parts.specs.declared.script.line.Line.TheVariants.{Root, Floor, Len, Prune, Prove, Proof}
use Rattle.auth_store_parts.specs.declared.script.line.Line.TheVariants.{CheckValue, CheckAbsent, Cut, Mode, Fault}
use Rattle.auth_store_parts.specs.declared.script.line.Line.TheVariants.{Close, Crash}
use Rattle.auth_store_parts.specs.declared.script.words.FaultKind.{FaultKind}
use Rattle.auth_store_parts.specs.declared.script.words.FaultKind.TheVariants as kinds
use Rattle.auth_store_parts.specs.declared.script.words.TornMode.{TornMode}
use Rattle.auth_store_parts.specs.declared.script.words.TornMode.TheVariants.{Prefix, Subset}
use Rattle.auth_store_parts.specs.declared.script.words.TreeFamily.TheVariants.{Mmr, Mmb}

-- the key of these bytes, if they are there
abbrev pub key_from : Result (List ℕ) FromHexError → Option (FixedBytes 8)
key_from (Ok bytes) = Some (record { bytes = bytes })
key_from (Err e) = None

-- the key that a text spells
unfoldable pub key_of : List ℕ → Option (FixedBytes 8)
key_of text = if length text == 16 then key_from (decode_of text) else None

-- whether a text is a number: one or more decimal digits of a value of 64 bits
abbrev pub is_number : List ℕ → Bool
is_number text = nat_lt 0 (length text) && list_all is_ascii_digit text && nat_lt (decimal_value text) (2 ^ 64)

-- the number that a text spells
unfoldable pub number_of : List ℕ → Option ℕ
number_of text = if is_number text then Some (decimal_value text) else None

-- the second part, if the first is there
infixl 10 ◌>>=◌
abbrev pub ◌>>=◌ : {A B : Type 0} → Option A → (A → Option B) → Option B
None >>= f = None
(Some x) >>= f = f x

-- what stands after these words at the front of a text
unfoldable pub after : List ℕ → List ℕ → Option (List ℕ)
after [] text = Some text
after (c ∷ words) [] = None
after (c ∷ words) (b ∷ text) = if b == c then after words text else None

-- a key, a space and a number
unfoldable pub key_and_number : List ℕ → Option (FixedBytes 8 × ℕ)
key_and_number text = do
  digits ← after (codes " ") (drop 16 text)
  key ← key_of (take 16 text)
  number ← number_of digits
  Some (key, number)

-- the first word of a text, and what stands after the space behind it
unfoldable pub first_word : List ℕ → Option (List ℕ × List ℕ)
first_word text = option_map (λ end. (take end text, drop (end + 1) text)) (position (λ byte. byte == 32) text)

-- two numbers with a space between
unfoldable pub two_numbers : List ℕ → Option (ℕ × ℕ)
two_numbers text = do
  words ← first_word text
  first ← number_of words.0
  second ← number_of words.1
  Some (first, second)

-- what these words alone are, or another
abbrev pub is_all : {A : Type 0} → List ℕ → List ℕ → A → Option A → Option A
is_all words text this other = if bytes_eq text words then Some this else other

-- the kind of calls that a word names
abbrev pub kind_of : List ℕ → Option FaultKind
kind_of word =
    is_all (codes "open") word kinds.Open (
    is_all (codes "read") word kinds.Read (
    is_all (codes "write") word kinds.Write (
    is_all (codes "sync") word kinds.Sync (
    is_all (codes "resize") word kinds.Resize
    None))))

-- what is kept of a torn write, as a word names it
abbrev pub mode_of : List ℕ → Option TornMode
mode_of word = is_all (codes "prefix") word Prefix (is_all (codes "subset") word Subset None)

-- a kind of calls and two numbers, with a space between
unfoldable pub fault_of : List ℕ → Option (FaultKind × (ℕ × ℕ))
fault_of text = do
  words ← first_word text
  kind ← kind_of words.0
  rate ← two_numbers words.1
  Some (kind, rate)

-- a line that begins with these words and goes on so, or another
abbrev pub begins : Option (List ℕ) → (List ℕ → Option Line) → Option Line → Option Line
begins None found other = other
begins (Some rest) found other = found rest

-- a line of more than one word that is for the device
abbrev pub device_line : List ℕ → Option Line
device_line text =
    begins (after (codes "cut ") text) (λ calls. number_of calls >>= λ n. Some (Cut n)) (
    begins (after (codes "mode ") text) (λ word. mode_of word >>= λ m. Some (Mode m)) (
    begins (after (codes "fault ") text) (λ words. fault_of words >>= λ f. Some (Fault f.0 f.1.0 f.1.1))
    None))

-- a line of more than one word that makes a proof or checks it, or is for the device
abbrev pub proof_line : List ℕ → Option Line
proof_line text =
    begins (after (codes "prove ") text) (λ key. key_of key >>= λ k. Some (Prove k)) (
    begins (after (codes "check value ") text) (λ words. key_and_number words >>= λ p. Some (CheckValue p.0 p.1)) (
    begins (after (codes "check absent ") text) (λ key. key_of key >>= λ k. Some (CheckAbsent k)) (
    device_line text)))

-- a line of more than one word
abbrev pub line_with_words : List ℕ → Option Line
line_with_words text =
    begins (after (codes "new mmr ") text) (λ seed. number_of seed >>= λ n. Some (New Mmr n)) (
    begins (after (codes "new mmb ") text) (λ seed. number_of seed >>= λ n. Some (New Mmb n)) (
    begins (after (codes "put ") text) (λ words. key_and_number words >>= λ p. Some (Put p.0 p.1)) (
    begins (after (codes "del ") text) (λ key. key_of key >>= λ k. Some (Delete k)) (
    begins (after (codes "commit ") text) (λ metadata. number_of metadata >>= λ n. Some (Commit (Some n))) (
    begins (after (codes "get ") text) (λ key. key_of key >>= λ k. Some (Get k)) (
    begins (after (codes "prune ") text) (λ location. number_of location >>= λ n. Some (Prune n)) (
    proof_line text)))))))

-- the line that a text spells
abbrev pub line_of : List ℕ → Option Line
line_of text =
    is_all [] text Empty (
    is_all (codes "open") text Open (
    is_all (codes "commit") text (Commit None) (
    is_all (codes "root") text Root (
    is_all (codes "floor") text Floor (
    is_all (codes "len") text Len (
    is_all (codes "proof") text Proof (
    is_all (codes "close") text Close (
    is_all (codes "crash") text Crash (
    line_with_words text)))))))))
