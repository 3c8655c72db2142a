-- What was encoded is read again.
use Rattle.std.proofs.Common.{◌≡◌, ℕ, ltb, Bool, true, false, List, ◌++◌, length, Option, None, Some, Ok, refl, sym}
use Rattle.std.proofs.Common.{◌∙◌, ap, arith}
use Rattle.std.specs.Int.{Width, byte_len, to_be_bytes}
use Rattle.std.proofs.lemmas.Bool.{le-ltb}
use Rattle.std.proofs.lemmas.List.{drop_at, length-append, append_cancel_right}
use Rattle.std.specs.Prelude.{IfSome, Result, Err}
use Rattle.merkle_forest_parts.specs.Codec.{◌>>=◌, Outcome, Refuses, after_fixed, after_bool, bool_byte}
use Rattle.merkle_forest_parts.specs.Codec.{option_encoding, after_option}
use Rattle.merkle_forest_parts.specs.declared.codec.error.Error.{Error}
use Rattle.merkle_forest_parts.specs.declared.codec.error.Error.TheVariants.{EndOfBuffer, ExtraData, InvalidVarint}
use Rattle.merkle_forest_parts.specs.declared.codec.error.Error.TheVariants.{InvalidBool, InvalidEnum, InvalidLength}
use Rattle.merkle_forest_parts.specs.declared.codec.error.Error.TheVariants.{Invalid, Memory}

-- bytes of a known length are read again, whatever follows
pub fixed_again : (count : ℕ) (bytes rest : List ℕ) → length bytes ≡ count → after_fixed count (bytes ++ rest) ≡ Ok rest
fixed_again count bytes rest sized =
    let long : ltb (length (bytes ++ rest)) count ≡ false = le-ltb _ _ (omega (arith, length-append bytes rest)) in
    rw (long, drop_at bytes rest count sized) refl

pub number_again : (w : Width) (n : ℕ) (rest : List ℕ) → length (to_be_bytes w n) ≡ byte_len w
    → after_fixed (byte_len w) (to_be_bytes w n ++ rest) ≡ Ok rest
number_again w n rest sized = fixed_again (byte_len w) (to_be_bytes w n) rest sized

pub bool_again : (b : Bool) (rest : List ℕ) → after_bool (bool_byte b ++ rest) ≡ Ok rest
bool_again true rest = refl
bool_again false rest = refl

pub option_again : {T : Type 0} (encoding : T → List ℕ) (after : List ℕ → Outcome) (is_value is_within : T → Type 0)
    → ((v : T) (rest : List ℕ) → is_value v → is_within v → after (encoding v ++ rest) ≡ Ok rest)
    → (v : Option T) (rest : List ℕ) → IfSome v is_value → IfSome v is_within
    → after_option after (option_encoding encoding v ++ rest) ≡ Ok rest
option_again encoding after is_value is_within again None rest value within = refl
option_again encoding after is_value is_within again (Some v) rest value within = again v rest value within

-- what is read again: no encoding begins another, so equal bytes have equal encodings at the front and equal rests
pub one_encoding : {T : Type 0} (encoding : T → List ℕ) (after : List ℕ → Outcome) (is_read : T → Type 0)
    → ((v : T) (rest : List ℕ) → is_read v → after (encoding v ++ rest) ≡ Ok rest)
    → (v w : T) (x y : List ℕ) → is_read v → is_read w → encoding v ++ x ≡ encoding w ++ y
    → (encoding v ≡ encoding w) × (x ≡ y)
one_encoding encoding after is_read again v w x y reads_v reads_w same =
    let first = again v x reads_v in
    let second = again w y reads_w in
    let both : after (encoding v ++ x) ≡ after (encoding w ++ y) = ap after same in
    let rests : x ≡ y = cc in
    (append_cancel_right (encoding v) (encoding w) y (sym (ap (λ rest. encoding v ++ rest) rests) ∙ same), rests)

-- a refusal holds of what fails alike
pub refuses_as : {A B : Type 0} (lacks more : Type 0) (e : Error) (x : Result A Error) (y : Result B Error)
    → (lacks → more)
    → ((f : Error) → x ≡ Err f → y ≡ Err f) → Refuses lacks e x → Refuses more e y
refuses_as lacks more EndOfBuffer x y weaker alike refused = alike _ refused
refuses_as lacks more ExtraData x y weaker alike refused = alike _ refused
refuses_as lacks more InvalidVarint x y weaker alike refused = alike _ refused
refuses_as lacks more InvalidBool x y weaker alike refused = alike _ refused
refuses_as lacks more (InvalidEnum tag) x y weaker alike refused = alike _ refused
refuses_as lacks more InvalidLength x y weaker alike refused = alike _ refused
refuses_as lacks more Invalid x y weaker alike refused = alike _ refused
refuses_as lacks more Memory x y weaker alike refused = weaker refused

-- what refuses the first step refuses both
pub refuses_first : {A B : Type 0} (lacks more : Type 0) (e : Error) (first : Result A Error)
    (second : A → Result B Error)
    → (lacks → more) → Refuses lacks e first → Refuses more e (first >>= second)
refuses_first lacks more e first second weaker refused =
    refuses_as lacks more e first (first >>= second) weaker (λ f failed. rw failed refl) refused

-- after a first step without a fault, what refuses the second refuses both
pub refuses_second : {A B : Type 0} (lacks more : Type 0) (e : Error) (first : Result A Error)
    (second : A → Result B Error) (x : A)
    → first ≡ Ok x → (lacks → more) → Refuses lacks e (second x) → Refuses more e (first >>= second)
refuses_second lacks more e first second x found weaker refused =
    refuses_as lacks more e (second x) (first >>= second) weaker (λ f failed. rw (found, failed) refl) refused
