-- A text is read as the one line that it spells.
use Rattle.std.proofs.Common.{◌≡◌, ◌+◌, ℕ, Bool, true, false, not, cond, ltb, List, [], ◌∷◌, ◌++◌, length, take, drop}
use Rattle.std.proofs.Common.{get_or, codes, Option, None, Some, Result, Ok, Err, refl, sym, ◌∙◌, ap, subst}
use Rattle.std.proofs.Common.{append_assoc, length-append, arith}
use Rattle.std.proofs.Common.{IfSome, unwrap_or, option_map, take-append-drop, drop_at, ltb-true}
use Rattle.std.proofs.Math.Dec.{eqb}
use Rattle.std.proofs.Math.ListN.{get_or-append}
use Rattle.std.proofs.Math.Seq.{take-append_seam, get_or-append_seam}
use Rattle.std.proofs.lemmas.Bool.Decides.{Decides-eqb}
use Rattle.std.proofs.lemmas.List.Sums.{AllPass-from_list_all, position_or_len_is, split_at_first, passes_at_first}
use Rattle.std.specs.Char.{is_ascii_digit}
use Rattle.std.specs.List.{AllPass, position_or_len}
use Rattle.std.specs.Str.{bytes_eq}
use Rattle.std.specs.Cmp.Lexicographic.{bytes_decides}
use Rattle.hex.specs.Hex.{decode_of}
use Rattle.hex.proofs.HexLemmas.{decode_of-ok}
use Rattle.hex.specs.declared.error.FromHexError.{FromHexError}
use Rattle.merkle_forest_parts.specs.declared.codec.fixed_bytes.FixedBytes.{FixedBytes}
use Rattle.auth_store_parts.specs.declared.script.line.Line.{Line}
use Rattle.auth_store_parts.specs.declared.script.line.Line.TheVariants.{Empty, New, Open, Put, Delete, Commit, Get}
use Rattle.auth_store_parts.specs.declared.script.line.Line.TheVariants.{Root, Floor, Len, Prune, Prove, Proof}
use Rattle.auth_store_parts.specs.declared.script.line.Line.TheVariants.{CheckValue, CheckAbsent, Cut, Mode, Fault}
use Rattle.auth_store_parts.specs.declared.script.line.Line.TheVariants.{Close, Crash}
use Rattle.auth_store_parts.specs.declared.script.words.FaultKind.{FaultKind}
use Rattle.auth_store_parts.specs.declared.script.words.FaultKind.TheVariants as kinds
use Rattle.auth_store_parts.specs.declared.script.words.TornMode.{TornMode}
use Rattle.auth_store_parts.specs.declared.script.words.TornMode.TheVariants.{Prefix, Subset}
use Rattle.auth_store_parts.specs.declared.script.words.TreeFamily.TheVariants.{Mmr, Mmb}
use Rattle.auth_store_parts.specs.Script.{IsNumber, decimal_value}
use Rattle.auth_store_parts.specs.Line.{◌>>=◌, key_from, key_of, is_number, number_of, after, key_and_number}
use Rattle.auth_store_parts.specs.Line.{first_word, two_numbers, kind_of, fault_of, mode_of, begins, is_all, line_of}
use Rattle.auth_store_parts.specs.Line.{line_with_words, proof_line, device_line}
use Rattle.auth_store_parts.specs.Spelling.{SpellsKey, SpellsNumber, SpellsBoth, SpellsTwo, Spells, word_of_kind, word_of_mode}
use Rattle.auth_store_parts.proofs.Lines.{number_some, passes_number, key_some, after-append, after-some}

-- ---- a spelled line is read

number_read : (n : ℕ) (text : List ℕ) → SpellsNumber n text → number_of text ≡ Some n
number_read n text h = number_some text h.0 ∙ ap Some h.1

key_read : (key : FixedBytes 8) (text : List ℕ) → SpellsKey key text → key_of text ≡ Some key
key_read key text h = key_some text key h.0 h.1

take_at : (front back : List ℕ) (n : ℕ) → length front ≡ n → take n (front ++ back) ≡ front
take_at front back n h = ap (λ m. take m (front ++ back)) (sym h) ∙ take-append_seam front back

-- a key with the number of a text
abbrev numbered : FixedBytes 8 → Option ℕ → Option (FixedBytes 8 × ℕ)
numbered key number = ◌>>=◌ {B = FixedBytes 8 × ℕ} number (λ m. Some (key, m))

-- a key and the number of the digits
abbrev paired : Option (List ℕ) → Option (FixedBytes 8) → Option (FixedBytes 8 × ℕ)
paired digits key = ◌>>=◌ {B = FixedBytes 8 × ℕ} digits (λ ds. ◌>>=◌ {B = FixedBytes 8 × ℕ} key
    (λ x. numbered x (number_of ds)))

joined : (d : Option (List ℕ)) (k : Option (FixedBytes 8)) (digits : List ℕ) (key : FixedBytes 8) (n : ℕ)
    → d ≡ Some digits → k ≡ Some key → number_of digits ≡ Some n → paired d k ≡ Some (key, n)
joined d k digits key n p q r =
    ap (λ o. paired o k) p ∙ ap (λ o. paired (Some digits) o) q ∙ ap (numbered key) r

both_read : (key : FixedBytes 8) (n : ℕ) (text : List ℕ) → SpellsBoth key n text → key_and_number text ≡ Some (key, n)
unfolding key_and_number
both_read key n text (k, is_key, (rest, spelled, counts)) =
    let whole : text ≡ k ++ (codes " " ++ rest) = spelled ∙ append_assoc k (codes " ") rest in
    let front : take 16 text ≡ k = ap (take 16) whole ∙ take_at k (codes " " ++ rest) 16 is_key.0.0 in
    let back : drop 16 text ≡ codes " " ++ rest = ap (drop 16) whole ∙ drop_at k (codes " " ++ rest) 16 is_key.0.0 in
    joined _ _ rest key n
    (ap (after (codes " ")) back ∙ after-append (codes " ") rest)
    (ap key_of front ∙ key_read key k is_key)
    (number_read n rest counts)

-- ---- words with a space between

not_false : (b : Bool) → not b ≡ true → b ≡ false
not_false true h = absurd (cc h)
not_false false h = refl

not_true : (b : Bool) → (b ≡ true → ⊥) → not b ≡ true
not_true true h = absurd (h refl)
not_true false h = refl

space_is_no_digit : is_ascii_digit 32 ≡ true → ⊥
space_is_no_digit h = cc h

digit_is_no_space : (b : ℕ) → is_ascii_digit b ≡ true → not (eqb b 32) ≡ true
digit_is_no_space b digit = not_true (eqb b 32)
    (λ h. space_is_no_digit (subst (λ c. is_ascii_digit c ≡ true) ((Decides-eqb b 32).0 h) digit))

-- no letter of the word is a space
abbrev IsWord : List ℕ → Type 0
IsWord word = AllPass (λ b. not (eqb b 32)) word

digits_are_a_word : (word : List ℕ) → AllPass is_ascii_digit word → IsWord word
digits_are_a_word word digits k d h = digit_is_no_space (get_or word k d) (digits k d h)

first_space : (word rest : List ℕ) → IsWord word
    → position_or_len (λ b. eqb b 32) (word ++ 32 ∷ rest) ≡ length word
first_space word rest is =
    let whole = length-append word (32 ∷ rest) in
    position_or_len_is (λ b. eqb b 32) (word ++ 32 ∷ rest) (length word) 0 (omega (arith, whole))
    (λ k h. ap (λ b. eqb b 32) (get_or-append word (32 ∷ rest) 0 k h) ∙ not_false _ (is k 0 h))
    (λ h. ap (λ b. eqb b 32) (get_or-append_seam word 32 rest 0))

word_read : (word rest : List ℕ) → IsWord word → first_word (word ++ 32 ∷ rest) ≡ Some (word, rest)
unfolding first_word
word_read word rest is =
    let text : List ℕ = word ++ 32 ∷ rest in
    let whole = length-append word (32 ∷ rest) in
    let within : ltb (length word) (length text) ≡ true = grind arith in
    let front : take (length word) text ≡ word = take-append_seam word (32 ∷ rest) in
    let back : drop (length word + 1) text ≡ rest =
    ap (drop (length word + 1)) (sym (append_assoc word (32 ∷ []) rest))
    ∙ drop_at (word ++ 32 ∷ []) rest (length word + 1) (length-append word (32 ∷ [])) in
    ap (λ n. option_map (λ (end : ℕ). (take end text, drop (end + 1) text)) (cond (ltb n (length text)) (Some n) None))
    (first_space word rest is)
    ∙ ap (λ b. option_map (λ (end : ℕ). (take end text, drop (end + 1) text)) (cond b (Some (length word)) None)) within
    ∙ ap (λ f. Some (f, drop (length word + 1) text)) front
    ∙ ap (λ b. Some (word, b)) back

two_read : (first second : ℕ) (text : List ℕ) → SpellsTwo first second text → two_numbers text ≡ Some (first, second)
unfolding two_numbers
two_read first second text (digits, counts, (rest, spelled, more)) =
    let Two : Option (ℕ × ℕ) = Some (first, second) in
    ap two_numbers (spelled ∙ append_assoc digits (codes " ") rest)
    ∙ ap (λ w. w >>= λ words. number_of words.0 >>= λ a. number_of words.1 >>= λ b. Some (a, b))
    (word_read digits rest (digits_are_a_word digits counts.0.1))
    ∙ ap (λ a. a >>= λ a. number_of rest >>= λ b. Some (a, b)) (number_read first digits counts)
    ∙ ap (λ b. b >>= λ b. Some (first, b)) (number_read second rest more)

kind_is_word : (kind : FaultKind) → IsWord (word_of_kind kind)
kind_is_word kinds.Open = AllPass-from_list_all (λ b. not (eqb b 32)) (codes "open") refl
kind_is_word kinds.Read = AllPass-from_list_all (λ b. not (eqb b 32)) (codes "read") refl
kind_is_word kinds.Write = AllPass-from_list_all (λ b. not (eqb b 32)) (codes "write") refl
kind_is_word kinds.Sync = AllPass-from_list_all (λ b. not (eqb b 32)) (codes "sync") refl
kind_is_word kinds.Resize = AllPass-from_list_all (λ b. not (eqb b 32)) (codes "resize") refl

kind_read : (kind : FaultKind) → kind_of (word_of_kind kind) ≡ Some kind
kind_read kinds.Open = refl
kind_read kinds.Read = refl
kind_read kinds.Write = refl
kind_read kinds.Sync = refl
kind_read kinds.Resize = refl

fault_read : (kind : FaultKind) (first second : ℕ) (rest : List ℕ) → SpellsTwo first second rest
    → fault_of ((word_of_kind kind ++ codes " ") ++ rest) ≡ Some (kind, (first, second))
unfolding fault_of
fault_read kind first second rest rate =
    let word = word_of_kind kind in
    ap fault_of (append_assoc word (codes " ") rest)
    ∙ ap (λ w. w >>= λ words. kind_of words.0 >>= λ k. two_numbers words.1 >>= λ r. Some (k, r))
    (word_read word rest (kind_is_word kind))
    ∙ ap (λ k. k >>= λ k. two_numbers rest >>= λ r. Some (k, r)) (kind_read kind)
    ∙ ap (λ r. r >>= λ r. Some (kind, r)) (two_read first second rest rate)

pub spelled_is_read : (line : Line) (text : List ℕ) → Spells line text → line_of text ≡ Some line
unfolding after
spelled_is_read Empty text h = ap line_of h
spelled_is_read (New Mmr seed) text h = ap line_of h.1 ∙ ap (λ o. o >>= λ n. Some (New Mmr n)) (number_read seed h.0 h.2)
spelled_is_read (New Mmb seed) text h = ap line_of h.1 ∙ ap (λ o. o >>= λ n. Some (New Mmb n)) (number_read seed h.0 h.2)
spelled_is_read Open text h = ap line_of h
spelled_is_read (Put key value) text h = ap line_of h.1 ∙ ap (λ o. o >>= λ p. Some (Put p.0 p.1))
    (both_read key value h.0 h.2)
spelled_is_read (Delete key) text h = ap line_of h.1 ∙ ap (λ o. o >>= λ k. Some (Delete k)) (key_read key h.0 h.2)
spelled_is_read (Commit None) text h = ap line_of h
spelled_is_read (Commit (Some metadata)) text h = ap line_of h.1
    ∙ ap (λ o. o >>= λ n. Some (Commit (Some n))) (number_read metadata h.0 h.2)
spelled_is_read (Get key) text h = ap line_of h.1 ∙ ap (λ o. o >>= λ k. Some (Get k)) (key_read key h.0 h.2)
spelled_is_read Root text h = ap line_of h
spelled_is_read Floor text h = ap line_of h
spelled_is_read Len text h = ap line_of h
spelled_is_read (Prune location) text h = ap line_of h.1 ∙ ap (λ o. o >>= λ n. Some (Prune n)) (number_read location h.0 h.2)
spelled_is_read (Prove key) text h = ap line_of h.1 ∙ ap (λ o. o >>= λ k. Some (Prove k)) (key_read key h.0 h.2)
spelled_is_read Proof text h = ap line_of h
spelled_is_read (CheckValue key value) text h = ap line_of h.1
    ∙ ap (λ o. o >>= λ p. Some (CheckValue p.0 p.1)) (both_read key value h.0 h.2)
spelled_is_read (CheckAbsent key) text h = ap line_of h.1 ∙ ap (λ o. o >>= λ k. Some (CheckAbsent k)) (key_read key h.0 h.2)
spelled_is_read (Cut calls) text h = ap line_of h.1 ∙ ap (λ o. o >>= λ n. Some (Cut n)) (number_read calls h.0 h.2)
spelled_is_read (Mode Prefix) text h = ap line_of h
spelled_is_read (Mode Subset) text h = ap line_of h
spelled_is_read (Fault kind numerator denominator) text h = ap line_of h.1 ∙ ap (λ o. o >>= λ f. Some (Fault f.0 f.1.0 f.1.1))
    (fault_read kind numerator denominator h.0 h.2)
spelled_is_read Close text h = ap line_of h
spelled_is_read Crash text h = ap line_of h

-- ---- a line that is read is spelled

number_spelled : (n : ℕ) (text : List ℕ) → number_of text ≡ Some n → SpellsNumber n text
unfolding number_of
number_spelled n text h =
    let step : (b : Bool) → (b ≡ true → IsNumber text) → cond b (Some (decimal_value text)) None ≡ Some n
    → SpellsNumber n text =
    λ b passes found. elim b as (λ v. (v ≡ true → IsNumber text) → cond v (Some (decimal_value text)) None ≡ Some n
    → SpellsNumber n text) [
      | true ↦ λ p f. (p refl, ap (λ o. unwrap_or o 0) f)
      | false ↦ λ p f. absurd (cc f)
    ] passes found
    in step (is_number text) (passes_number text) h

key_spelled_from : (key : FixedBytes 8) (text : List ℕ) → length text ≡ 16 → (decoded : Result (List ℕ) FromHexError)
    → decode_of text ≡ decoded → key_from decoded ≡ Some key → SpellsKey key text
key_spelled_from key text sized (Err e) is h = absurd (cc h)
key_spelled_from key text sized (Ok bytes) is h =
    let same : bytes ≡ key.bytes = ap (λ (o : Option (FixedBytes 8)). (unwrap_or o key).bytes) h in
    ((sized, (decode_of-ok text bytes is).1), is ∙ ap Ok same)

key_spelled : (key : FixedBytes 8) (text : List ℕ) → key_of text ≡ Some key → SpellsKey key text
unfolding key_of
key_spelled key text h =
    let step : (b : Bool) → (b ≡ true → length text ≡ 16) → cond b (key_from (decode_of text)) None ≡ Some key
    → SpellsKey key text =
    λ b sized found. elim b as (λ v. (v ≡ true → length text ≡ 16) → cond v (key_from (decode_of text)) None ≡ Some key
    → SpellsKey key text) [
      | true ↦ λ s f. key_spelled_from key text (s refl) _ refl f
      | false ↦ λ s f. absurd (cc f)
    ] sized found
    in step (eqb (length text) 16) ((Decides-eqb (length text) 16).0) h

last_part : (key : FixedBytes 8) (p : FixedBytes 8 × ℕ) (o : Option ℕ) → numbered key o ≡ Some p → (o ≡ Some p.1)
    × (key ≡ p.0)
last_part key p None h = absurd (cc h)
last_part key p (Some m) h = (
  ap (λ (q : Option (FixedBytes 8 × ℕ)). Some ((unwrap_or q p).1)) h,
  ap
      (λ (q : Option (FixedBytes 8 × ℕ)). (unwrap_or q p).0) h,
)

parted : (d : Option (List ℕ)) (k : Option (FixedBytes 8)) (p : FixedBytes 8 × ℕ) → paired d k ≡ Some p
    → (digits : List ℕ) × (d ≡ Some digits) × (k ≡ Some p.0) × (number_of digits ≡ Some p.1)
parted None k p h = absurd (cc h)
parted (Some digits) None p h = absurd (cc h)
parted (Some digits) (Some key) p h =
    let l = last_part key p (number_of digits) h in
    (digits, refl, ap Some l.1, l.0)

both_spelled : (p : FixedBytes 8 × ℕ) (text : List ℕ) → key_and_number text ≡ Some p → SpellsBoth p.0 p.1 text
unfolding key_and_number
both_spelled p text h =
    let parts = parted (after (codes " ") (drop 16 text)) (key_of (take 16 text)) p h in
    let back : drop 16 text ≡ codes " " ++ parts.0 = after-some (codes " ") (drop 16 text) parts.0 parts.1 in
    let whole : text ≡ (take 16 text ++ codes " ") ++ parts.0 =
    sym (take-append-drop 16 text) ∙ ap (λ l. take 16 text ++ l) back
    ∙ sym (append_assoc (take 16 text) (codes " ") parts.0) in
    (take 16 text, key_spelled p.0 (take 16 text) parts.2, (parts.0, whole, number_spelled p.1 parts.0 parts.3))

bound : {A B : Type 0} (o : Option A) (f : A → Option B) (b : B) → (o >>= f) ≡ Some b → (x : A) × (o ≡ Some x) × (f x ≡ Some b)
bound None f b h = absurd (cc h)
bound (Some x) f b h = (x, refl, h)

-- what stands before the first space and after it
split_at_space : (text : List ℕ) (within : Bool) → ltb (position_or_len (λ b. eqb b 32) text) (length text) ≡ within
    → (words : List ℕ × List ℕ)
    → option_map (λ (end : ℕ). (take end text, drop (end + 1) text))
    (cond within (Some (position_or_len (λ b. eqb b 32) text)) None) ≡ Some words
    → text ≡ (words.0 ++ codes " ") ++ words.1
split_at_space text false is words h = absurd (cc h)
split_at_space text true is words h =
    let space = passes_at_first (λ b. eqb b 32) text 0 (ltb-true _ _ is) in
    let whole = split_at_first (λ b. eqb b 32) text 0 (ltb-true _ _ is) in
    let end = position_or_len (λ b. eqb b 32) text in
    let parts : (take end text, drop (end + 1) text) ≡ words = ap (λ o. unwrap_or o words) h in
    subst (λ (w : List ℕ × List ℕ). text ≡ (w.0 ++ codes " ") ++ w.1) parts
    (whole ∙ ap (λ c. take end text ++ c ∷ drop (end + 1) text) ((Decides-eqb (get_or text end 0) 32).0 space)
    ∙ sym (append_assoc (take end text) (codes " ") (drop (end + 1) text)))

words_split : (text : List ℕ) (words : List ℕ × List ℕ) → first_word text ≡ Some words → text ≡ (words.0 ++ codes " ") ++ words.1
unfolding first_word
words_split text words h = split_at_space text _ refl words h

two_spelled : (p : ℕ × ℕ) (text : List ℕ) → two_numbers text ≡ Some p → SpellsTwo p.0 p.1 text
unfolding two_numbers
two_spelled p text h =
    let words = bound (first_word text) (λ words. number_of words.0 >>= λ a. number_of words.1 >>= λ b. Some (a, b)) p h in
    let first = bound (number_of words.0.0) (λ a. number_of words.0.1 >>= λ b. Some (a, b)) p words.2 in
    let second = bound (number_of words.0.1) (λ b. Some (first.0, b)) p first.2 in
    let is : (first.0, second.0) ≡ p = ap (λ o. unwrap_or o p) second.2 in
    subst (λ (q : ℕ × ℕ). SpellsTwo q.0 q.1 text) is (
      words.0.0,
      number_spelled first.0 words.0.0 first.1,
      (words.0.1, words_split text words.0 words.1, number_spelled second.0 words.0.1 second.1),
    )

all_found : {A : Type 0} (Is : A → List ℕ → Type 0) (words text : List ℕ) (this asked : A) (other : Option A) → Is this words
    → (other ≡ Some asked → Is asked text) → is_all words text this other ≡ Some asked → Is asked text
all_found {A} Is words text this asked other spelled later h =
    let same = bytes_decides text words in
    elim (bytes_eq text words) as (λ b. (b ≡ true → text ≡ words) → cond b (Some this) other ≡ Some asked
    → Is asked text) [
      | true ↦ λ s f. let is : this ≡ asked = ap (λ o. unwrap_or o this) f in subst (λ l. Is l text) is
          (subst (Is this) (sym (s refl)) spelled)
      | false ↦ λ s f. later f
    ] same.0 h

abbrev IsWordOf : FaultKind → List ℕ → Type 0
IsWordOf kind word = word ≡ word_of_kind kind

kind_spelled : (word : List ℕ) (kind : FaultKind) → kind_of word ≡ Some kind → word ≡ word_of_kind kind
kind_spelled word kind =
    all_found IsWordOf (codes "open") word kinds.Open kind _ refl
    (all_found IsWordOf (codes "read") word kinds.Read kind _ refl
    (all_found IsWordOf (codes "write") word kinds.Write kind _ refl
    (all_found IsWordOf (codes "sync") word kinds.Sync kind _ refl
    (all_found IsWordOf (codes "resize") word kinds.Resize kind None refl
    (λ h. absurd (cc h))))))

abbrev IsWordOfMode : TornMode → List ℕ → Type 0
IsWordOfMode mode word = word ≡ word_of_mode mode

mode_spelled : (word : List ℕ) (mode : TornMode) → mode_of word ≡ Some mode → word ≡ word_of_mode mode
mode_spelled word mode =
    all_found IsWordOfMode (codes "prefix") word Prefix mode _ refl
    (all_found IsWordOfMode (codes "subset") word Subset mode None refl
    (λ h. absurd (cc h)))

fault_spelled : (rest : List ℕ) (f : FaultKind × (ℕ × ℕ)) → fault_of rest ≡ Some f
    → (more : List ℕ) × (rest ≡ (word_of_kind f.0 ++ codes " ") ++ more) × SpellsTwo f.1.0 f.1.1 more
unfolding fault_of
fault_spelled rest f h =
    let words = bound (first_word rest) (λ words. kind_of words.0 >>= λ k. two_numbers words.1 >>= λ r. Some (k, r)) f h in
    let kind = bound (kind_of words.0.0) (λ k. two_numbers words.0.1 >>= λ r. Some (k, r)) f words.2 in
    let rate = bound (two_numbers words.0.1) (λ r. Some (kind.0, r)) f kind.2 in
    let is : (kind.0, rate.0) ≡ f = ap (λ o. unwrap_or o f) rate.2 in
    subst (λ (q : FaultKind × (ℕ × ℕ)). (more : List ℕ) × (rest ≡ (word_of_kind q.0 ++ codes " ") ++ more)
    × SpellsTwo q.1.0 q.1.1 more) is (
      words.0.1,
      words_split rest words.0 words.1 ∙ ap (λ w. (w ++ codes " ") ++ words.0.1) (kind_spelled words.0.0 kind.0 kind.1),
      two_spelled rate.0 words.0.1 rate.1,
    )

begins_found : {X : Type 0} (words text : List ℕ) (asked : Line) (value : List ℕ → Option X) (line : X → Line)
    (other : Option Line)
    → ((rest : List ℕ) (x : X) → text ≡ words ++ rest → value rest ≡ Some x → Spells (line x) text)
    → (other ≡ Some asked → Spells asked text)
    → begins (after words text) (λ rest. value rest >>= λ x. Some (line x)) other ≡ Some asked → Spells asked text
begins_found {X} words text asked value line other spelled later h =
    let arms : (o : Option (List ℕ)) → after words text ≡ o → begins o (λ rest. value rest >>= λ x. Some (line x))
    other ≡ Some asked → Spells asked text =
    λ o. elim o as (λ o'. after words text ≡ o' → begins o' (λ rest. value rest >>= λ x. Some (line x)) other ≡ Some
    asked → Spells asked text) [
      | None ↦ λ e f. later f
      | Some rest ↦ λ e f.
          let value_arms : (v : Option X) → value rest ≡ v → (v >>= λ x. Some (line x)) ≡ Some asked
          → Spells asked text =
          λ v. elim v as (λ v'. value rest ≡ v' → (v' >>= λ x. Some (line x)) ≡ Some asked → Spells asked text) [
            | None ↦ λ ev g. absurd (cc g)
            | Some x ↦ λ ev g. let is : line x ≡ asked = ap (λ o. unwrap_or o asked) g in subst (λ l. Spells l text) is
                (spelled rest x (after-some words text rest e) ev)
          ] in value_arms (value rest) refl f
    ] in arms (after words text) refl h

device_line_spelled : (text : List ℕ) (asked : Line) → device_line text ≡ Some asked → Spells asked text
device_line_spelled text asked =
    begins_found (codes "cut ") text asked number_of Cut _ (λ rest n e f. (rest, e, number_spelled n rest f))
    (begins_found (codes "mode ") text asked mode_of Mode _
    (λ rest m e f. e ∙ ap (λ r. codes "mode " ++ r) (mode_spelled rest m f))
    (begins_found (codes "fault ") text asked fault_of (λ f. Fault f.0 f.1.0 f.1.1) None
    (λ rest f e is. let parts = fault_spelled rest f is in (parts.0, e ∙ ap (λ r. codes "fault " ++ r) parts.1, parts.2))
    (λ h. absurd (cc h))))

proof_line_spelled : (text : List ℕ) (asked : Line) → proof_line text ≡ Some asked → Spells asked text
proof_line_spelled text asked =
    begins_found (codes "prove ") text asked key_of Prove _ (λ rest k e f. (rest, e, key_spelled k rest f))
    (begins_found (codes "check value ") text asked key_and_number (λ p. CheckValue p.0 p.1) _
    (λ rest p e f. (rest, e, both_spelled p rest f))
    (begins_found (codes "check absent ") text asked key_of CheckAbsent _ (λ rest k e f. (rest, e, key_spelled k rest f))
    (device_line_spelled text asked)))

words_spelled : (text : List ℕ) (asked : Line) → line_with_words text ≡ Some asked → Spells asked text
words_spelled text asked =
    begins_found (codes "new mmr ") text asked number_of (New Mmr) _ (λ rest n e f. (rest, e, number_spelled n rest f))
    (begins_found (codes "new mmb ") text asked number_of (New Mmb) _ (λ rest n e f. (rest, e, number_spelled n rest f))
    (begins_found (codes "put ") text asked key_and_number (λ p. Put p.0 p.1) _
    (λ rest p e f. (rest, e, both_spelled p rest f))
    (begins_found (codes "del ") text asked key_of Delete _ (λ rest k e f. (rest, e, key_spelled k rest f))
    (begins_found (codes "commit ") text asked number_of (λ n. Commit (Some n)) _
    (λ rest n e f. (rest, e, number_spelled n rest f))
    (begins_found (codes "get ") text asked key_of Get _ (λ rest k e f. (rest, e, key_spelled k rest f))
    (begins_found (codes "prune ") text asked number_of Prune _ (λ rest n e f. (rest, e, number_spelled n rest f))
    (proof_line_spelled text asked)))))))

pub read_is_spelled : (text : List ℕ) (asked : Line) → line_of text ≡ Some asked → Spells asked text
read_is_spelled text asked =
    all_found Spells [] text Empty asked _ refl
    (all_found Spells (codes "open") text Open asked _ refl
    (all_found Spells (codes "commit") text (Commit None) asked _ refl
    (all_found Spells (codes "root") text Root asked _ refl
    (all_found Spells (codes "floor") text Floor asked _ refl
    (all_found Spells (codes "len") text Len asked _ refl
    (all_found Spells (codes "proof") text Proof asked _ refl
    (all_found Spells (codes "close") text Close asked _ refl
    (all_found Spells (codes "crash") text Crash asked _ refl
    (words_spelled text asked)))))))))

pub read_if_spelled : (text : List ℕ) (r : Option Line) → r ≡ line_of text → IfSome r (λ asked. Spells asked text)
read_if_spelled text None h = tt
read_if_spelled text (Some asked) h = read_is_spelled text asked (sym h)
