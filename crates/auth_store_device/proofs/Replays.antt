-- What the calls of a record make of the file, and which openings stand among them.
use Rattle.std.proofs.Common.{◌≡◌, ℕ, ◌+◌, ◌<◌, true, false, ◌||◌, List, [], ◌∷◌, ◌++◌, length, take, drop, get_or, map, reverse}
use Rattle.std.proofs.Common.{sym, ◌∙◌, ap, refl, append_assoc, arith}
use Rattle.std.specs.List.{list_any}
use Rattle.std.proofs.lemmas.Bool.{both_ways, or_parts}
use Rattle.std.proofs.lemmas.List.{append-nil, drop_more, map_push, reverse-append, reverse-reverse, take-append-drop, take_more}
use Rattle.paged_blob_parts.specs.Calls.{Call, opened, wrote, resized_to, synced, File, file_of}
use Rattle.auth_store_device.specs.declared.kept.Entry.{Entry}
use Rattle.auth_store_device.specs.declared.kept.Entry.TheVariants as entries
use Rattle.auth_store_device.specs.Devices.{shown_file}
use Rattle.auth_store_device.specs.Openings.{openings_of, plain}
use Rattle.auth_store_device.specs.RecordsCode.{call_of, changes_of, begins}
use Rattle.auth_store_device.specs.OpeningsCode.{opening_in, openings_from, is_base, file_after, file_from, change_in, changes_in}

-- one more call comes first among them
pub calls-push : (before : List Call) (call : Call) → reverse (before ++ call ∷ []) ≡ call ∷ reverse before
calls-push before call = reverse-append before (call ∷ [])

pub file-push : (before : List Call) (call : Call) → file_of (reverse (before ++ call ∷ [])) ≡ file_after call (file_of (reverse before))
file-push before call = ap file_of (calls-push before call) ∙ one call
  where
    one : (c : Call) → file_of (c ∷ reverse before) ≡ file_after c (file_of (reverse before))
    one (opened shown) = refl
    one (wrote offset bytes is_sync ok) = refl
    one (resized_to size ok) = refl
    one (synced bytes ok) = refl

-- the file of a record, by its first calls and then the others
pub file-append : (before later : List Call) → file_of (reverse (before ++ later)) ≡ file_from (file_of (reverse before)) later
file-append before [] = ap (λ l. file_of (reverse l)) (append-nil before)
file-append before (call ∷ later) =
    ap (λ l. file_of (reverse l)) (sym (append_assoc before (call ∷ []) later))
    ∙ file-append (before ++ call ∷ []) later
    ∙ ap (λ file. file_from file later) (file-push before call)

pub from-push : (file : File) (before : List Call) (call : Call) → file_from file (before ++ call ∷ []) ≡ file_after call (file_from file before)
from-push file [] call = refl
from-push file (first ∷ before) call = from-push (file_after first file) before call

-- the openings of a record, by its first calls and then the others
openings-push : (before : List Call) (call : Call) → openings_of (reverse (before ++ call ∷ [])) ≡ openings_of
    (reverse before) ++ opening_in before call
openings-push before call = ap openings_of (calls-push before call) ∙ one call
  where
    one : (c : Call) → openings_of (c ∷ reverse before) ≡ openings_of (reverse before) ++ opening_in before c
    one (opened shown) = refl
    one (wrote offset bytes is_sync ok) = sym (append-nil (openings_of (reverse before)))
    one (resized_to size ok) = sym (append-nil (openings_of (reverse before)))
    one (synced bytes ok) = sym (append-nil (openings_of (reverse before)))

openings-append : (before later : List Call) → openings_of (reverse (before ++ later)) ≡ openings_of (reverse before) ++ openings_from before later
openings-append before [] = ap (λ l. openings_of (reverse l)) (append-nil before) ∙ sym (append-nil (openings_of (reverse before)))
openings-append before (call ∷ later) =
    ap (λ l. openings_of (reverse l)) (sym (append_assoc before (call ∷ []) later))
    ∙ openings-append (before ++ call ∷ []) later
    ∙ ap (λ l. l ++ openings_from (before ++ call ∷ []) later) (openings-push before call)
    ∙ append_assoc (openings_of (reverse before)) (opening_in before call) (openings_from (before ++ call ∷ []) later)

-- the openings of a whole record
pub openings-all : (all : List Call) → openings_from [] all ≡ openings_of (reverse all)
openings-all all = sym (openings-append [] all)

-- one call of it is passed
pub openings-more : (all : List Call) (place : ℕ) (d : Call) → place < length all
    → openings_from (take place all) (drop place all)
    ≡ opening_in (take place all) (get_or all place d) ++ openings_from (take (place + 1) all) (drop (place + 1) all)
openings-more all place d below =
    ap (openings_from (take place all)) (drop_more all place d below)
    ∙ ap (λ l. opening_in (take place all) (get_or all place d) ++ openings_from l (drop (place + 1) all)) (sym (take_more all place d below))

-- an opening among them is the next
pub opening-next : (all first : List Call) (place : ℕ) (shown : List ℕ) (d : Call) → place < length all → opened shown ≡ get_or all place d
    → first ≡ take place all
    → openings_from (take place all) (drop place all)
    ≡ record { before = reverse first; shown = shown } ∷ openings_from (take (place + 1) all) (drop (place + 1) all)
opening-next all first place shown d below is before =
    let later = openings_from (take (place + 1) all) (drop (place + 1) all) in
    openings-more all place d below
    ∙ ap (λ c. opening_in (take place all) c ++ later) (sym is)
    ∙ ap (λ l. record { before = reverse l; shown = shown } ∷ later) (sym before)

-- calls with which no file begins anew add their changes to those of the file
abbrev HaveNoBase : List Call → Type 0
HaveNoBase calls = list_any is_base calls ≡ false

pub base-after : (call : Call) (file : File) → is_base call ≡ false → (file_after call file).base ≡ file.base
base-after (opened shown) file none = absurd (both_ways true none refl)
base-after (wrote offset bytes is_sync ok) file none = refl
base-after (resized_to size ok) file none = refl
base-after (synced bytes true) file none = absurd (both_ways true none refl)
base-after (synced bytes false) file none = refl

changes-after : (call : Call) (file : File) → is_base call ≡ false → (file_after call file).changes ≡ change_in call ++ file.changes
changes-after (opened shown) file none = absurd (both_ways true none refl)
changes-after (wrote offset bytes is_sync ok) file none = refl
changes-after (resized_to size ok) file none = refl
changes-after (synced bytes true) file none = absurd (both_ways true none refl)
changes-after (synced bytes false) file none = refl

pub base-from : (file : File) (calls : List Call) → list_any is_base calls ≡ false → (file_from file calls).base ≡ file.base
base-from file [] none = refl
base-from file (call ∷ later) none =
    let both = or_parts (is_base call) (list_any is_base later) none in
    base-from (file_after call file) later both.1 ∙ base-after call file both.0

-- of one call there is one change, or none
same-reversed : (call : Call) → reverse (change_in call) ≡ change_in call
same-reversed (opened shown) = refl
same-reversed (wrote offset bytes is_sync ok) = refl
same-reversed (resized_to size ok) = refl
same-reversed (synced bytes ok) = refl

pub changes-from : (file : File) (calls : List Call) → list_any is_base calls ≡ false
    → (file_from file calls).changes ≡ reverse (changes_in calls) ++ file.changes
changes-from file [] none = refl
changes-from file (call ∷ later) none =
    let both = or_parts (is_base call) (list_any is_base later) none in
    changes-from (file_after call file) later both.1
    ∙ ap (λ l. reverse (changes_in later) ++ l) (changes-after call file both.0)
    ∙ sym (append_assoc (reverse (changes_in later)) (change_in call) file.changes)
    ∙ ap (λ l. (reverse (changes_in later) ++ l) ++ file.changes) (sym (same-reversed call))
    ∙ ap (λ l. l ++ file.changes) (sym (reverse-append (change_in call) (changes_in later)))

-- what is read of a call
pub begins-call : (bytes : List ℕ) (entry : Entry) → is_base (call_of bytes entry) ≡ begins entry
begins-call bytes (entries.Opened base shown) = refl
begins-call bytes (entries.Wrote offset written is_sync ok) = refl
begins-call bytes (entries.ResizedTo size ok) = refl
begins-call bytes (entries.Synced ok) = refl

pub changes-call : (bytes : List ℕ) (entry : Entry) → change_in (call_of bytes entry) ≡ changes_of entry
changes-call bytes (entries.Opened base shown) = refl
changes-call bytes (entries.Wrote offset written is_sync ok) = refl
changes-call bytes (entries.ResizedTo size ok) = refl
changes-call bytes (entries.Synced ok) = refl

-- the entry is that of the call at a place
abbrev pub IsRead : List Call → ℕ → Entry → Type 0
IsRead calls place entry = (d : Call) → (bytes : List ℕ) × (call_of bytes entry ≡ get_or calls place d)

-- the file begins with its own base
settled : (file : File) (base : List ℕ) (later : List Call) → file ≡ file_from (shown_file base) later → list_any is_base later ≡ false
    → file ≡ file_from (shown_file file.base) later
settled file base later is none =
    is ∙ ap (λ b. file_from (shown_file b) later) (sym (ap (λ (f : File). f.base) is ∙ base-from (shown_file base) later none))

-- a call with which the file begins anew
anew : (call : Call) (file : File) → is_base call ≡ true → file_after call file ≡ shown_file (file_after call file).base
anew (opened shown) file is = refl
anew (wrote offset bytes is_sync ok) file is = absurd (both_ways false refl is)
anew (resized_to size ok) file is = absurd (both_ways false refl is)
anew (synced bytes true) file is = refl
anew (synced bytes false) file is = absurd (both_ways false refl is)

-- where the file begins anew with the last of the first calls, the others go on from there
pub base-place : (all : List Call) (place : ℕ) (entry : Entry) → place < length all → IsRead all place entry → begins entry ≡ true
    → list_any is_base (drop (place + 1) all) ≡ false
    → file_of (reverse all) ≡ file_from (shown_file (file_of (reverse all)).base) (drop (place + 1) all)
base-place all place entry below is begun none =
    let before = take place all in
    let later = drop (place + 1) all in
    let d = opened [] in
    let at = is d in
    let call = call_of at.0 entry in
    let file = file_after call (file_of (reverse before)) in
    settled (file_of (reverse all)) file.base later (
    ap (λ l. file_of (reverse l)) (sym (take-append-drop (place + 1) all))
    ∙ file-append (take (place + 1) all) later
    ∙ ap (λ l. file_from (file_of (reverse l)) later) (take_more all place d below)
    ∙ ap (λ f. file_from f later)
    (file-push before (get_or all place d) ∙ ap (λ c. file_after c (file_of (reverse before))) (sym at.1)
    ∙ anew call (file_of (reverse before)) (begins-call at.0 entry ∙ begun))
    ) none

-- and all where it never does
pub base-none : (all : List Call) → list_any is_base all ≡ false → file_of (reverse all) ≡ file_from (shown_file (file_of (reverse all)).base) all
base-none all none = settled (file_of (reverse all)) [] all (file-append [] all) none

-- the mutations of such calls, the oldest first
map-reverse : {X Y : Type 0} (f : X → Y) (xs : List X) → map f (reverse xs) ≡ reverse (map f xs)
map-reverse f [] = refl
map-reverse f (x ∷ xs) =
    ap (map f) (reverse-append (x ∷ []) xs) ∙ map_push f (reverse xs) x ∙ ap (λ l. l ++ f x ∷ []) (map-reverse f xs)
    ∙ sym (reverse-append (f x ∷ []) (map f xs))

pub mutations-since : (before : File) (calls : List Call) → before ≡ file_from (shown_file before.base) calls → list_any is_base calls ≡ false
    → map plain (changes_in calls) ≡ reverse (map plain before.changes)
mutations-since before calls is none =
    let changes : before.changes ≡ reverse (changes_in calls) =
    ap (λ (f : File). f.changes) is ∙ changes-from (shown_file before.base) calls none ∙ append-nil (reverse (changes_in calls)) in
    sym (reverse-reverse (map plain (changes_in calls)))
    ∙ ap reverse (sym (map-reverse plain (changes_in calls)) ∙ ap (map plain) (sym changes))

-- the first of calls makes the first of their changes, where it makes one
pub changes-first : (calls later : List Call) (entry : Entry) → 0 < length calls → IsRead calls 0 entry → later ≡ drop 1 calls
    → changes_in calls ≡ changes_of entry ++ changes_in later
changes-first [] later entry some is rest = absurd (omega (arith, some))
changes-first (first ∷ others) later entry some is rest =
    let at = is first in
    ap (λ c. change_in c ++ changes_in others) (sym at.1) ∙ ap (λ l. l ++ changes_in others) (changes-call at.0 entry)
    ∙ ap (λ l. changes_of entry ++ changes_in l) (sym rest)

-- and where the file does not begin anew with one of them, it begins anew with those from it on only where it does with the others
pub base-before : (calls : List Call) (place : ℕ) (entry : Entry) → place < length calls → IsRead calls place entry → begins entry ≡ false
    → list_any is_base (drop place calls) ≡ list_any is_base (drop (place + 1) calls)
base-before calls place entry below is none =
    let d = opened [] in
    let at = is d in
    ap (list_any is_base) (drop_more calls place d below)
    ∙ ap (λ c. is_base c || list_any is_base (drop (place + 1) calls)) (sym at.1)
    ∙ ap (λ b. b || list_any is_base (drop (place + 1) calls)) (begins-call at.0 entry ∙ none)
