-- Batches: words about keys, in the order in which they were said.
use Rattle.std.specs.Prelude.{ℕ, List, [], ◌∷◌, map}
use Rattle.auth_store_parts.specs.Map.{Map, with_entry, without_key}
use Rattle.auth_store_parts.specs.declared.batch.Word as code
use Rattle.auth_store_parts.specs.declared.batch.Word.TheVariants.{Put, Delete}

-- what a batch says of a key: it has this value, or it is gone
pub data Word : Type 0 where
  put : List ℕ → List ℕ → Word
  delete : List ℕ → Word

-- what a word of the code says, given how its keys and its values are encoded
abbrev pub meaning_of : {K V : Type 0} → (K → List ℕ) → (V → List ℕ) → code.Word K V → Word
meaning_of key value (Put k v) = put (key k) (value v)
meaning_of key value (Delete k) = delete (key k)

-- what words of the code say
abbrev pub meanings : {K V : Type 0} → (K → List ℕ) → (V → List ℕ) → List (code.Word K V) → List Word
meanings key value words = map (meaning_of key value) words

-- the state after a word
abbrev pub after_word : Word → Map → Map
after_word (put key value) state = with_entry state key value
after_word (delete key) state = without_key state key

-- the state after all words, one after the other: on each key the last one wins
abbrev pub map_after : List Word → Map → Map
map_after [] state = state
map_after (word ∷ words) state = map_after words (after_word word state)
