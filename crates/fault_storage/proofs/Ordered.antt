-- The files of a store stay in the order of their names.
use Rattle.std.proofs.Common.{◌≡◌, ◌∷◌, [], ℕ, ◌+◌, Bool, true, false, not, cond, List, filter, sym, ap, ◌∙◌, refl}
use Rattle.std.specs.declared.cmp.Ordering.{Ordering}
use Rattle.std.specs.declared.cmp.Ordering.TheVariants.{Less, Equal, Greater}
use Rattle.std.specs.Cmp.{IsTotalOrder}
use Rattle.std.specs.Cmp.Lexicographic.{slice_cmp}
use Rattle.std.specs.List.{list_any}
use Rattle.std.specs.Ordering.{nat_cmp, is_lt, is_eq, ordering_then, ordering_reverse}
use Rattle.std.specs.Str.{bytes_eq}
use Rattle.std.proofs.lemmas.Bool.{false≢true, and_from}
use Rattle.std.proofs.lemmas.Cmp.{nat_list_cmp_total, on_total, then_total, tied_back}
use Rattle.std.proofs.lemmas.Map.Text.{is_eq-slice_cmp}
use Rattle.rand_core.specs.Stream.{Stream}
use Rattle.fault_storage_parts.specs.Files.{File, settled}
use Rattle.fault_storage.specs.declared.stored.StoredFile.{StoredFile}
use Rattle.fault_storage.specs.Opens.{Name, is_name, is_before}
use Rattle.fault_storage.specs.Orders.{IsBeforeAll, AreInOrder}
use Rattle.fault_storage.specs.Stores.{changed, has_number, settled_in, crashed_files}
use Rattle.fault_storage.specs.Directory.{has_name, in_order}
use Rattle.fault_storage.specs.Snapshots.{durable_map, numbered}

-- names in the order of their partitions, then of themselves
abbrev name_cmp : Name → Name → Ordering
name_cmp one other = ordering_then (slice_cmp nat_cmp one.0 other.0) (slice_cmp nat_cmp one.1 other.1)

names_total : IsTotalOrder name_cmp
names_total = then_total (on_total (λ (n : Name). n.0) nat_list_cmp_total) (on_total (λ (n : Name). n.1) nat_list_cmp_total)

less : (o : Ordering) → is_lt o ≡ true → o ≡ Less
less Less is = refl
less Equal is = cc
less Greater is = cc

before_further : (one other further : Name) → is_before one other ≡ true → is_before other further ≡ true → is_before one further ≡ true
before_further one other further first second =
    ap is_lt (names_total.trans one other further (less (name_cmp one other) first) (less (name_cmp other further) second))

equal_parts : (first second : Ordering) → ordering_then first second ≡ Equal → (first ≡ Equal) × (second ≡ Equal)
equal_parts Less second is = cc
equal_parts Equal second is = (refl, is)
equal_parts Greater second is = cc

-- names that tie are the same
same_name : (one other : Name) → name_cmp one other ≡ Equal → is_name one.0 one.1 other ≡ true
same_name one other ties =
    let parts = equal_parts (slice_cmp nat_cmp other.0 one.0) (slice_cmp nat_cmp other.1 one.1) (tied_back names_total one other ties) in
    and_from (bytes_eq other.0 one.0) (bytes_eq other.1 one.1) (sym (is_eq-slice_cmp other.0 one.0) ∙ ap is_eq parts.0)
    (sym (is_eq-slice_cmp other.1 one.1) ∙ ap is_eq parts.1)

-- of two names of which the first is not before the other, and which are not the same, the other is before the first
after : (one other : Name) → is_before one other ≡ false → is_name one.0 one.1 other ≡ false → is_before other one ≡ true
after one other later differs = by (name_cmp one other) refl
  where
    by : (o : Ordering) → name_cmp one other ≡ o → is_before other one ≡ true
    by Less is = absurd (false≢true (sym later ∙ ap is_lt is))
    by Equal is = absurd (false≢true (sym differs ∙ same_name one other is))
    by Greater is = ap is_lt (names_total.antisymm other one ∙ ap ordering_reverse is)

-- what a name before the first is before
before_more : (one other : Name) (files : List StoredFile) → is_before one other ≡ true → IsBeforeAll other files → IsBeforeAll one files
before_more one other [] first all = tt
before_more one other (stored ∷ later) first all = (before_further one other stored.name first all.0, before_more one other later first all.1)

before_filtered : (test : StoredFile → Bool) (name : Name) (files : List StoredFile) → IsBeforeAll name files → IsBeforeAll name (filter test files)
before_filtered test name [] all = tt
before_filtered test name (stored ∷ later) all = by (test stored) (before_filtered test name later all.1)
  where
    by : (b : Bool) → IsBeforeAll name (filter test later) → IsBeforeAll name (cond b (stored ∷ filter test later) (filter test later))
    by true rest = (all.0, rest)
    by false rest = rest

pub ordered_filtered : (test : StoredFile → Bool) (files : List StoredFile) → AreInOrder files → AreInOrder (filter test files)
ordered_filtered test [] order = tt
ordered_filtered test (stored ∷ later) order = by (test stored) (ordered_filtered test later order.1)
  where
    by : (b : Bool) → AreInOrder (filter test later) → AreInOrder (cond b (stored ∷ filter test later) (filter test later))
    by true rest = (before_filtered test stored.name later order.0, rest)
    by false rest = rest

before_changed : (test : StoredFile → Bool) (change : File → File) (name : Name) (files : List StoredFile) → IsBeforeAll name files
    → IsBeforeAll name (changed test change files)
before_changed test change name [] all = tt
before_changed test change name (stored ∷ later) all = by (test stored) (before_changed test change name later all.1)
  where
    by : (b : Bool) → IsBeforeAll name (changed test change later)
        → IsBeforeAll name (cond b (record stored { file = change stored.file } ∷ later) (stored ∷ changed test change later))
    by true rest = (all.0, all.1)
    by false rest = (all.0, rest)

pub ordered_changed : (test : StoredFile → Bool) (change : File → File) (files : List StoredFile) → AreInOrder files
    → AreInOrder (changed test change files)
ordered_changed test change [] order = tt
ordered_changed test change (stored ∷ later) order = by (test stored) (ordered_changed test change later order.1)
  where
    by : (b : Bool) → AreInOrder (changed test change later)
        → AreInOrder (cond b (record stored { file = change stored.file } ∷ later) (stored ∷ changed test change later))
    by true rest = (order.0, order.1)
    by false rest = (before_changed test change stored.name later order.0, rest)

-- none has the name
abbrev AreOthers : Name → List StoredFile → Type 0
AreOthers name [] = Unit {0}
AreOthers name (stored ∷ later) = (has_name name.0 name.1 stored ≡ false) × AreOthers name later

others_left : (name : Name) (files : List StoredFile) → AreOthers name (filter (λ stored. not (has_name name.0 name.1 stored)) files)
others_left name [] = tt
others_left name (stored ∷ later) = by (has_name name.0 name.1 stored) refl (others_left name later)
  where
    by : (b : Bool) → has_name name.0 name.1 stored ≡ b → AreOthers name (filter (λ other. not (has_name name.0 name.1 other)) later)
        → AreOthers name (cond (not b) (stored ∷ filter (λ other. not (has_name name.0 name.1 other)) later)
        (filter (λ other. not (has_name name.0 name.1 other)) later))
    by true is rest = rest
    by false is rest = (is, rest)

before_put : (name : Name) (added : StoredFile) (files : List StoredFile) → is_before name added.name ≡ true → IsBeforeAll name files
    → IsBeforeAll name (in_order added files)
before_put name added [] first all = (first, tt)
before_put name added (stored ∷ later) first all = by (is_before added.name stored.name) (before_put name added later first all.1)
  where
    by : (b : Bool) → IsBeforeAll name (in_order added later)
        → IsBeforeAll name (cond b (added ∷ stored ∷ later) (stored ∷ in_order added later))
    by true rest = (first, all)
    by false rest = (all.0, rest)

pub ordered_put : (added : StoredFile) (files : List StoredFile) → AreOthers added.name files → AreInOrder files → AreInOrder (in_order added files)
ordered_put added [] others order = (tt, tt)
ordered_put added (stored ∷ later) others order =
    by (is_before added.name stored.name) refl (ordered_put added later others.1 order.1)
  where
    by : (b : Bool) → is_before added.name stored.name ≡ b → AreInOrder (in_order added later)
        → AreInOrder (cond b (added ∷ stored ∷ later) (stored ∷ in_order added later))
    by true first rest = ((first, before_more added.name stored.name later first order.0), order)
    by false behind rest = (before_put stored.name added later (after added.name stored.name behind others.0) order.0, rest)

pub ordered_placed : (added : StoredFile) (files : List StoredFile) → AreInOrder files
    → AreInOrder (in_order added (filter (λ stored. not (has_name added.name.0 added.name.1 stored)) files))
ordered_placed added files order =
    ordered_put added (filter (λ stored. not (has_name added.name.0 added.name.1 stored)) files) (others_left added.name files)
    (ordered_filtered (λ stored. not (has_name added.name.0 added.name.1 stored)) files order)

pub ordered_crashed : (files : List StoredFile) (order : List ℕ) (words : Stream) → AreInOrder files → AreInOrder (crashed_files files order words).0
unfolding crashed_files
ordered_crashed files [] words ordered = ordered
ordered_crashed files (number ∷ later) words ordered =
    ordered_crashed (settled_in number files words).0 later (settled_in number files words).1 (by (list_any (has_number number) files) _)
  where
    by : (b : Bool) (after : Stream)
        → AreInOrder (cond {A = List StoredFile × Stream} b (changed (has_number number) (λ file. (settled file words).0) files, after) (files, words)).0
    by true after = ordered_changed (has_number number) (λ file. (settled file words).0) files ordered
    by false after = ordered

before_numbered : (name : Name) (number : ℕ) (files : List StoredFile) → IsBeforeAll name files → IsBeforeAll name (numbered number (durable_map files))
before_numbered name number [] all = tt
before_numbered name number (stored ∷ later) all = (all.0, before_numbered name (number + 1) later all.1)

pub ordered_numbered : (number : ℕ) (files : List StoredFile) → AreInOrder files → AreInOrder (numbered number (durable_map files))
ordered_numbered number [] order = tt
ordered_numbered number (stored ∷ later) order = (before_numbered stored.name (number + 1) later order.0, ordered_numbered (number + 1) later order.1)
