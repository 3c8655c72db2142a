-- The codec's grammar. Bytes are a list of numbers.
use Rattle.std.specs.Prelude.{◌≡◌, ℕ, zero, suc, Bool, if◌then◌else◌, nat_lt, List, [], ◌∷◌, ◌++◌, length, drop, Option}
use Rattle.std.specs.Prelude.{Some, None, Result, Ok, Err}
use Rattle.merkle_forest_parts.specs.declared.codec.error.Error.{Error}
use Rattle.merkle_forest_parts.specs.declared.codec.error.Error.TheVariants.{EndOfBuffer, ExtraData, InvalidBool}
use Rattle.merkle_forest_parts.specs.declared.codec.error.Error.TheVariants.{Memory}

-- the second step, if the first found no fault
infixl 10 ◌>>=◌
abbrev pub ◌>>=◌ : {A B : Type 0} → Result A Error → (A → Result B Error) → Result B Error
(Ok x) >>= f = f x
(Err e) >>= f = Err e

-- the bytes after an item, or the first fault of the item
abbrev pub Outcome : Type 0
Outcome = Result (List ℕ) Error

-- the new bytes are the old ones and perhaps more
abbrev pub Extends : List ℕ → List ℕ → Type 0
Extends old new = (more : List ℕ) × (new ≡ old ++ more)

-- a refusal is the fault that the grammar names, or out of memory where memory may be lacking
abbrev pub Refuses : {A : Type 0} → Type 0 → Error → Result A Error → Type 0
Refuses lacks Memory expected = lacks
Refuses lacks e expected = expected ≡ Err e

-- a reader went from the old bytes to the new ones over the encoding of its value, as the grammar says
abbrev pub Reads : {T : Type 0} → (T → List ℕ) → List ℕ → List ℕ → Outcome → Type 0 → Result T Error → Type 0
Reads encoding old new expected lacks (Ok value) = (expected ≡ Ok new) × (old ≡ encoding value ++ new)
Reads encoding old new expected lacks (Err e) = Refuses lacks e expected

-- memory may be lacking after an item that has no fault
abbrev pub LacksAfter : Outcome → (List ℕ → Type 0) → Type 0
LacksAfter (Ok rest) lacks = lacks rest
LacksAfter (Err e) lacks = ⊥

-- nothing may stand after the item
abbrev pub ended : List ℕ → Outcome
ended [] = Ok []
ended (b ∷ bytes) = Err ExtraData

-- an item that is all of the bytes
abbrev pub whole : Outcome → Outcome
whole outcome = outcome >>= ended

-- after `count` bytes of any kind
abbrev pub after_fixed : ℕ → List ℕ → Outcome
after_fixed count bytes = if nat_lt (length bytes) count then Err EndOfBuffer else Ok (drop count bytes)

-- after a bool
abbrev pub after_bool : List ℕ → Outcome
after_bool [] = Err EndOfBuffer
after_bool (zero ∷ bytes) = Ok bytes
after_bool (suc zero ∷ bytes) = Ok bytes
after_bool (b ∷ bytes) = Err InvalidBool

-- a bool's byte
abbrev pub bool_byte : Bool → List ℕ
bool_byte b = (if b then 1 else 0) ∷ []

-- a flag, and the value where there is one
abbrev pub option_encoding : {T : Type 0} → (T → List ℕ) → Option T → List ℕ
option_encoding encoding None = 0 ∷ []
option_encoding encoding (Some value) = 1 ∷ encoding value

-- after a flag, and after a value where the flag says so
abbrev pub after_option : (List ℕ → Outcome) → List ℕ → Outcome
after_option after [] = Err EndOfBuffer
after_option after (zero ∷ bytes) = Ok bytes
after_option after (suc zero ∷ bytes) = after bytes
after_option after (b ∷ bytes) = Err InvalidBool

-- memory may be lacking for the value of which the flag says that it is there
abbrev pub OptionLacks : (List ℕ → Type 0) → List ℕ → Type 0
OptionLacks lacks [] = ⊥
OptionLacks lacks (zero ∷ bytes) = ⊥
OptionLacks lacks (suc zero ∷ bytes) = lacks bytes
OptionLacks lacks (b ∷ bytes) = ⊥
