-- Items read by the codec, as the grammar of operations finds them.
use Rattle.std.proofs.Common.{◌≡◌, ℕ, zero, suc, ◌-◌, ◌<◌, ◌≤◌, ◌^◌, ltb, Bool, true, false, cond, List, [], ◌∷◌}
use Rattle.std.proofs.Common.{◌++◌, length, take, Option, None, Some, option_map, Result, Ok, Err, refl, sym, ◌∙◌, ap}
use Rattle.std.specs.Prelude.{IfOk}
use Rattle.merkle_forest.specs.declared.codec.error.Error.{Error}
use Rattle.merkle_forest.specs.declared.codec.error.Error.TheVariants.{Invalid}
use Rattle.merkle_forest.specs.Codec.{Outcome, Reads, ◌>>=◌, option_encoding, after_option, OptionLacks}
use Rattle.merkle_forest.specs.Varint.{varint, varint_at, after_number}
use Rattle.merkle_forest.specs.Laws.Codec.{refuses_as}
use Rattle.merkle_forest.specs.Laws.Varint.{varint_again, number_within}
use Rattle.state_ops_parts.specs.Grammar.{ReadsAs, told, option_at, floor_at}
use Rattle.state_ops_parts.specs.Laws.Found.{item_is}

option_is : {T : Type 0} (encoding : T → List ℕ) (after : List ℕ → Outcome) (old new : List ℕ) (m : Option T)
    → after_option after old ≡ Ok new → old ≡ option_encoding encoding m ++ new → option_at after old ≡ Ok (option_map encoding m, new)
option_is encoding after old new None ends is = ap (option_at after) is
option_is encoding after old new (Some v) ends is =
    ap (option_at after) is
    ∙ ap (told Some) (item_is after (encoding v ++ new) (encoding v) new (sym (ap (after_option after) is) ∙ ends) refl)

option_fails : (after : List ℕ → Outcome) (old : List ℕ) (e : Error) → after_option after old ≡ Err e → option_at after old ≡ Err e
option_fails after [] e fails = cc
option_fails after (zero ∷ bytes) e fails = absurd (cc)
option_fails after (suc zero ∷ bytes) e fails = ap (λ x. told Some (x >>= λ rest. Ok (take (length bytes - length rest) bytes, rest))) fails
option_fails after (suc (suc b) ∷ bytes) e fails = cc

pub option_reads : {T : Type 0} (encoding : T → List ℕ) (after : List ℕ → Outcome) (lacks : List ℕ → Type 0) (old new : List ℕ)
    (result : Result (Option T) Error)
    → Reads (option_encoding encoding) old new (after_option after old) (OptionLacks lacks old) result
    → ReadsAs (option_map encoding) (option_encoding encoding) old new (option_at after old) (OptionLacks lacks old) result
option_reads encoding after lacks old new (Ok m) reads = (option_is encoding after old new m reads.0 reads.1, reads.1)
option_reads encoding after lacks old new (Err e) refused = refuses_as _ _ e (after_option after old) (option_at after old) (λ l. l)
    (option_fails after old) refused

floor_fails : (found : Result (ℕ × List ℕ) Error) (e : Error) → (found >>= λ x. cond (ltb (2 ^ 62) x.0) (Err Invalid) (Ok x.1)) ≡ Err e
    → (found >>= λ x. cond (ltb (2 ^ 62) x.0) (Err Invalid) (Ok x)) ≡ Err e
floor_fails (Err f) e fails = cc
floor_fails (Ok x) e fails = by (ltb (2 ^ 62) x.0) fails
  where
    by : (over : Bool) → cond over (Err Invalid) (Ok x.1) ≡ Err e → cond over (Err Invalid) (Ok x) ≡ Err e
    by true fails = cc
    by false fails = absurd (cc)

floor_ok : (x : ℕ × List ℕ) (new : List ℕ) (over : Bool) → cond over (Err Invalid) (Ok x.1) ≡ Ok new → cond over (Err Invalid) (Ok x) ≡ Ok x
floor_ok x new true ended = absurd (cc)
floor_ok x new false ended = refl

floor_is : (old new : List ℕ) (n : ℕ) → n < 2 ^ 64 → after_number (2 ^ 62) old ≡ Ok new → old ≡ varint n ++ new → floor_at old ≡ Ok (n, new)
floor_is old new n small ends is =
    let x : ℕ × List ℕ = (n, new) in
    let found : varint_at old ≡ Ok x = ap varint_at is ∙ varint_again n new small in
    let ended : cond (ltb (2 ^ 62) x.0) (Err Invalid) (Ok x.1) ≡ Ok new = sym (ap (λ y. y >>= λ x. cond (ltb (2 ^ 62) x.0) (Err Invalid) (Ok x.1)) found)
    ∙ ends in
    ap (λ y. y >>= λ x. cond (ltb (2 ^ 62) x.0) (Err Invalid) (Ok x)) found ∙ floor_ok x new (ltb (2 ^ 62) x.0) ended

pub floor_reads : (old new : List ℕ) (result : Result ℕ Error) → Reads varint old new (after_number (2 ^ 62) old) ⊥ result
    → IfOk result (λ n. n < 2 ^ 64)
    → ReadsAs (λ n. n) varint old new (floor_at old) ⊥ result
floor_reads old new (Ok n) reads small = (floor_is old new n small reads.0 reads.1, reads.1)
floor_reads old new (Err e) refused small = refuses_as _ _ e (after_number (2 ^ 62) old) (floor_at old) (λ l. l) (floor_fails (varint_at old)) refused

pub floor_within : (old new : List ℕ) (result : Result ℕ Error) → Reads varint old new (after_number (2 ^ 62) old) ⊥ result
    → IfOk result (λ n. n < 2 ^ 64)
    → IfOk result (λ n. n ≤ 2 ^ 62)
floor_within old new (Ok n) reads small = number_within (2 ^ 62) n new new small (sym (ap (after_number (2 ^ 62)) reads.1) ∙ reads.0)
floor_within old new (Err e) refused small = tt
