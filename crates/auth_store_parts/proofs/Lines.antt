-- Keys, numbers and words of a line.
use Rattle.std.proofs.Common.{◌≡◌, ◌≢◌, codes, ℕ, ◌^◌, ltb, Bool, true, false, cond, ◌&&◌, List, [], ◌∷◌, ◌++◌}
use Rattle.std.proofs.Common.{length, Option, None, Some, MatchOption, Result, Ok, Err, Bor, refl, ◌∙◌, ap, arith}
use Rattle.std.specs.Char.{is_ascii_digit}
use Rattle.std.proofs.lemmas.Bool.Decides.{Decides-eqb}
use Rattle.std.proofs.lemmas.List.Sums.{AllPass-from_list_all, list_all-from_AllPass}
use Rattle.std.proofs.Math.Dec.{eqb}
use borrow.Author.Tests.{ltb-true}
use Rattle.hex.specs.Hex.{decode_of}
use Rattle.hex.specs.declared.error.FromHexError.{FromHexError}
use Rattle.hex.proofs.HexLemmas.{decode_of-ok}
use Rattle.merkle_forest_parts.specs.declared.codec.fixed_bytes.FixedBytes.{FixedBytes}
use Rattle.auth_store_parts.specs.Script.{IsKey, IsNumber, decimal_value}
use Rattle.auth_store_parts.specs.Line.{◌>>=◌, key_from, key_of, is_number, number_of, after, begins, device_line, proof_line}
use Rattle.auth_store_parts.specs.declared.script.line.Line.TheVariants.{CheckAbsent}

otherwise : (b : Bool) → (b ≡ true → ⊥) → b ≡ false
otherwise true h = absurd (h refl)
otherwise false h = refl

all_three : (a b c : Bool) → (a && b && c) ≡ true → (a ≡ true) × (b ≡ true) × (c ≡ true)
all_three true true true h = (refl, refl, refl)
all_three true true false h = cc
all_three true false c h = cc
all_three false b c h = cc

number_passes : (text : List ℕ) → IsNumber text → is_number text ≡ true
number_passes text h =
    let some : ltb 0 (length text) ≡ true = grind arith in
    let small : ltb (decimal_value text) (2 ^ 64) ≡ true = grind arith in
    rw (some, list_all-from_AllPass is_ascii_digit text h.1, small) refl

pub passes_number : (text : List ℕ) → is_number text ≡ true → IsNumber text
passes_number text h =
    let parts = all_three _ _ _ h in
    (ltb-true _ _ parts.0, AllPass-from_list_all is_ascii_digit text parts.1, ltb-true _ _ parts.2)

pub number_some : (text : List ℕ) → IsNumber text → number_of text ≡ Some (decimal_value text)
unfolding number_of
number_some text h = ap (λ b. cond b (Some (decimal_value text)) None) (number_passes text h)

pub number_none : (text : List ℕ) → (IsNumber text → ⊥) → number_of text ≡ None
unfolding number_of
number_none text h = ap (λ b. cond b (Some (decimal_value text)) None) (otherwise _ (λ t. h (passes_number text t)))

pub key_some : (text : List ℕ) (key : FixedBytes 8) → IsKey text → decode_of text ≡ Ok key.bytes
    → key_of text ≡ Some key
unfolding key_of
key_some text key is decoded =
    ap (λ b. cond b (key_from (decode_of text)) None) ((Decides-eqb (length text) 16).1 is.0) ∙ ap key_from decoded

undecoded : (text : List ℕ) (decoded : Result (List ℕ) FromHexError) → decode_of text ≡ decoded → (IsKey text → ⊥)
    → length text ≡ 16 → key_from decoded ≡ None
undecoded text (Err e) is h sized = refl
undecoded text (Ok bytes) is h sized = absurd (h (sized, (decode_of-ok text bytes is).1))

pub key_none : (text : List ℕ) → (IsKey text → ⊥) → key_of text ≡ None
unfolding key_of
key_none text h =
    let step : (b : Bool) → (b ≡ true → length text ≡ 16) → cond b (key_from (decode_of text)) None ≡ None =
    λ b sized. elim b as (λ v. (v ≡ true → length text ≡ 16) → cond v (key_from (decode_of text)) None ≡ None) [
      | true ↦ λ s. undecoded text _ refl h (s refl)
      | false ↦ λ s. refl
    ] sized
    in step (eqb (length text) 16) ((Decides-eqb (length text) 16).0)

-- ---- words at the front

pub after-append : (words rest : List ℕ) → after words (words ++ rest) ≡ Some rest
unfolding after
after-append [] rest = refl
after-append (c ∷ words) rest =
    ap (λ b. cond b (after words (words ++ rest)) None) ((Decides-eqb c c).1 refl) ∙ after-append words rest

one_more : (b c : ℕ) (text words rest : List ℕ) (o : Option (List ℕ)) → (o ≡ Some rest → text ≡ words ++ rest)
    → (t : Bool) → (t ≡ true → b ≡ c) → cond t o None ≡ Some rest → b ∷ text ≡ c ∷ (words ++ rest)
one_more b c text words rest o more true same h = let head = same refl in let tail = more h in cc
one_more b c text words rest o more false same h = cc

pub after-some : (words text rest : List ℕ) → after words text ≡ Some rest → text ≡ words ++ rest
unfolding after
after-some [] text rest h = cc
after-some (c ∷ words) [] rest h = cc
after-some (c ∷ words) (b ∷ text) rest h =
    one_more b c text words rest (after words text) (after-some words text rest) (eqb b c) ((Decides-eqb b c).0) h

never : {A : Type 0} (o : Option A) → ((x : A) → o ≡ Some x → ⊥) → o ≡ None
never None h = refl
never (Some x) h = absurd (h x refl)

pub after-none : (words text : List ℕ) → ((rest : List ℕ) → text ≢ words ++ rest) → after words text ≡ None
after-none words text h = never (after words text) (λ rest found. h rest (after-some words text rest found))

pub after_is : (words text : List ℕ) (r : Option (Bor (List ℕ)))
    → MatchOption r ((rest : List ℕ) → text ≢ words ++ rest) (λ x. text ≡ words ++ x.now)
    → MatchOption r (after words text ≡ None) (λ x. after words text ≡ Some x.now)
after_is words text None h = after-none words text h
after_is words text (Some x) h = ap (after words) h ∙ after-append words x.now

-- ---- a line that checks an absence

before_absent : (text : List ℕ) (o : Option (List ℕ)) → after (codes "prove ") text ≡ None → after (codes "check value ") text ≡ None
    → after (codes "check absent ") text ≡ o
    → proof_line text ≡ begins o (λ key. key_of key >>= λ k. Some (CheckAbsent k)) (device_line text)
before_absent text o proves values absences = rw (proves, values, absences) refl

-- it is read as such a line where a key stands behind its words
pub absent_line : (text rest : List ℕ) (key : FixedBytes 8) → after (codes "prove ") text ≡ None
    → after (codes "check value ") text ≡ None → after (codes "check absent ") text ≡ Some rest → key_of rest ≡ Some key
    → proof_line text ≡ Some (CheckAbsent key)
absent_line text rest key proves values absences is =
    before_absent text (Some rest) proves values absences ∙ ap (λ (o : Option (FixedBytes 8)). o >>= λ k. Some (CheckAbsent k)) is

-- and as no line where none does
pub absent_none : (text rest : List ℕ) → after (codes "prove ") text ≡ None → after (codes "check value ") text ≡ None
    → after (codes "check absent ") text ≡ Some rest → key_of rest ≡ None → proof_line text ≡ None
absent_none text rest proves values absences is =
    before_absent text (Some rest) proves values absences ∙ ap (λ (o : Option (FixedBytes 8)). o >>= λ k. Some (CheckAbsent k)) is

-- a line that neither makes a proof nor checks one is for the device
pub no_proof_line : (text : List ℕ) → after (codes "prove ") text ≡ None → after (codes "check value ") text ≡ None
    → after (codes "check absent ") text ≡ None → proof_line text ≡ device_line text
no_proof_line text proves values absences = before_absent text None proves values absences
