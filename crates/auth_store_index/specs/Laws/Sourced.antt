-- Maps of the code that are seen as states, whatever their values.
use Rattle.std.proofs.Common.{◌≡◌, ℕ, arith, cond, subst, Bor, Bool, true, false, List, [], ◌∷◌, ◌&&◌, Option}
use Rattle.std.proofs.Common.{None, Some, option_map, refl, ap, sym, ◌∙◌}
use Rattle.auth_store_index.specs.declared.values.Source as code
use Rattle.auth_store_index.specs.declared.values.Source.TheVariants.{Logged, Given}
use Rattle.std.specs.Prelude.{is_some, option_copied, map, Result, Ok, Err, IfOk, get_or, unwrap_or, drop, length, ◌+◌}
use Rattle.std.specs.Prelude.{◌-◌, ◌<◌, ◌≤◌}
use Rattle.std.specs.Str.{bytes_eq}
use Rattle.std.proofs.lemmas.List.{at_drop_more, at_drop_all}
use Rattle.auth_store_parts.specs.Batch.{Word, after_word, map_after}
use Rattle.state_ops.specs.Operation.{Operation}
use Rattle.std.proofs.lemmas.Bool.{eq-eqb}
use Rattle.std.specs.declared.cmp.Ordering.{Ordering}
use Rattle.std.specs.declared.cmp.Ordering.TheVariants.{Less, Equal, Greater}
use Rattle.std.specs.Ordering.{match_ordering, is_eq}
use Rattle.std.specs.BTreeMap.{insert_entry}
use Rattle.std.specs.Map.{remove_entry}
use Rattle.auth_store_parts.specs.Laws.Lookups.{exact}
use Rattle.auth_store_parts.specs.Map.{Map, key_order, state_of, value_at, next_key}
use Rattle.auth_store_parts.specs.Places.{places_of}
use Rattle.auth_store_parts.specs.History.{is_value, has_fields}
use Rattle.auth_store_index.specs.Readings.{state_read}
use Rattle.auth_store_index.specs.Sources.{value_there, reads_for, is_at, IsOwn, AreOwn, IsReadable}
use Rattle.auth_store_index.specs.Laws.Readings.{has_update}

pub there : {X : Type 0} (value : X → List ℕ) (found : Option (Bor X)) (entry : Option X) (at : Option (List ℕ))
    → option_copied found ≡ entry → option_map value entry ≡ at → is_some found ≡ is_some at
there value None entry at copied is = ap (λ o. is_some (option_map value o)) copied ∙ ap is_some is
there value (Some x) entry at copied is = ap (λ o. is_some (option_map value o)) copied ∙ ap is_some is

-- the state that is read at the places of a map
pub state_of-read : {K : Type 0} (key : K → List ℕ) (log : List Operation) (entries : List (K × ℕ))
    → state_of key (value_there log) entries ≡ state_read log (state_of key (λ place. place ∷ []) entries)
state_of-read key log [] = refl
state_of-read key log (e ∷ entries) = ap (λ s. (key e.0, value_there log e.1) ∷ s) (state_of-read key log entries)

-- where none is found, none is there
pub none_there : {X : Type 0} (value : X → List ℕ) (entry : Option X) (at : Option (List ℕ))
    → None ≡ entry → option_map value entry ≡ at → None ≡ at
none_there value entry at none is = ap (option_map value) none ∙ is

-- where one is found, its value is there
pub some_there : {X : Type 0} (value : X → List ℕ) (x : X) (entry : Option X) (at : Option (List ℕ))
    → Some x ≡ entry → option_map value entry ≡ at → Some (value x) ≡ at
some_there value x entry at found is = ap (option_map value) found ∙ is

-- an answer is that of an equal test
pub if_has : {E : Type 0} (r : Result Bool E) (a b : Bool) → IfOk r (λ has. has ≡ a) → a ≡ b → IfOk r (λ has. has ≡ b)
if_has (Ok x) a b is same = is ∙ same
if_has (Err e) a b is same = tt

-- a key with this value and this next key has its fields
pub has_both : (state : Map) (key value next old : List ℕ) → Some old ≡ value_at state key
    → true ≡ bytes_eq (next_key state key) next → bytes_eq old value ≡ has_fields state key value next
has_both state key value next old at is =
    and_true (bytes_eq old value)
    ∙ (ap (λ b. bytes_eq old value && b) is
    ∙ ap (λ o. is_value o value && bytes_eq (next_key state key) next) at)
  where
    and_true : (b : Bool) → b ≡ (b && true)
    and_true true = refl
    and_true false = refl

-- a word is passed
pub word_passed : {W : Type 0} (says : W → Word) (items : List W) (at : ℕ) (word : W) (before after whole : Map)
    → at < length items → word ≡ get_or items at word → after ≡ after_word (says word) before
    → map_after (map says (drop at items)) before ≡ whole
    → map_after (map says (drop (at + 1) items)) after ≡ whole
word_passed says items at word before after whole within is does here =
    ap (map_after (map says (drop (at + 1) items))) does
    ∙ (ap (λ w. map_after (map says (w ∷ drop (at + 1) items)) before) is
    ∙ (sym (at_drop_more (λ ws. map_after (map says ws) before) items at word within) ∙ here))

pub words_passed : {W : Type 0} (says : W → Word) (items : List W) (at : ℕ) (after whole : Map)
    → length items ≤ at → map_after (map says (drop at items)) after ≡ whole → after ≡ whole
words_passed says items at after whole past here =
    sym (at_drop_all (λ ws. map_after (map says ws) after) items at past) ∙ here

-- ---- what is read, and how often
-- where the source of a key names its place in a log, an update stands there
pub own_readable : {V : Type 0} (log : List Operation) (key : List ℕ) (source : code.Source V)
    → IsOwn (places_of log) key source → IsReadable log source
own_readable log key (Logged place) own = has_update key log place own
own_readable log key (Given v) own = tt

-- a key whose place is known is compared with no read, or given its value with none
pub own_reads : {V : Type 0} (places : Map) (key : List ℕ) (source : code.Source V) (place : ℕ)
    → IsOwn places key source
    → Some (place ∷ []) ≡ value_at places key
    → cond (is_at source place) 0 (1 + reads_for source) ≤ 1 - reads_for source
own_reads places key (Given v) place own there = omega arith
own_reads places key (Logged p) place own there =
    let one : place ≡ p = ap (λ o. get_or (unwrap_or o []) 0 0) (there ∙ own) in
    subst (λ b. cond b 0 2 ≤ 1 - 1) (sym (eq-eqb p place (sym one))) (omega arith)

-- the sources of a map with an entry more are own
pub own_insert : {K V : Type 0} (key : K → List ℕ) (places : Map) (cmp : K → K → Ordering)
    → ((a b : K) → cmp a b ≡ key_order (key a) (key b))
    → (es : List (K × code.Source V)) (k : K) (source : code.Source V)
    → AreOwn key places es → IsOwn places (key k) source → AreOwn key places (insert_entry cmp es k source)
own_insert key places cmp ordered [] k source all own = (own, tt)
own_insert {K =
    K} {V = V} key places cmp ordered (e ∷ es) k source all own = of (cmp k e.0) refl
    (own_insert key places cmp ordered es k source all.1 own)
  where
    of : (o : Ordering) → cmp k e.0 ≡ o → AreOwn key places (insert_entry cmp es k source)
        → AreOwn key places (match_ordering o ((k, source) ∷ e ∷ es) ((e.0, source) ∷ es) (e
        ∷ insert_entry cmp es k source))
    of Less is rest = (own, all)
    of Equal is rest =
        let one : key k ≡ key e.0 = exact (key k) (key e.0) (ap is_eq (sym (ordered k e.0) ∙ is)) in
        (subst (λ q. IsOwn places q source) one own, all.1)
    of Greater is rest = (all.0, rest)

pub own_remove : {K V : Type 0} (key : K → List ℕ) (places : Map) (test : K → Bool) (es : List (K × code.Source V))
    → AreOwn key places es → AreOwn key places (remove_entry test es)
own_remove key places test [] all = tt
own_remove key places test (e ∷ es) all =
    elim (test e.0) as (λ b. AreOwn key places (cond b es (e ∷ remove_entry test es))) [
      | true ↦ all.1
      | false ↦ (all.0, own_remove key places test es all.1)
    ]
