-- Generations that have begun.
use Rattle.std.proofs.Common.{◌≡◌, ◌<◌, ◌+◌, ◌∷◌, ◌++◌, [], ℕ, Bool, true}
use Rattle.std.proofs.Common.{false, not, cond, Option, Some, None, List, filter, subst, refl, arith}
use Rattle.std.specs.Prelude.{find}
use Rattle.fault_storage.specs.declared.pending.Ticket.{Ticket}
use Rattle.fault_storage.specs.Pending.{
  Entry,
  Registry,
  HaveBegun,
  IsOrderly,
  is_of,
  has_name,
  changed,
  changed_for,
  without_name,
  fresh,
  followed,
  begun,
  forgotten,
  continued,
  admitted,
  admitted_by,
  entry_of,
}

begun_more : (next : ℕ) (entries : List Entry) → HaveBegun next entries → HaveBegun (next + 1) entries
begun_more next [] all = tt
begun_more next (entry ∷ later) all = let here : entry.generation < next = all.0 in (omega arith, begun_more next later all.1)

begun_put : (next : ℕ) (entries : List Entry) (added : Entry) → HaveBegun next entries → added.generation < next
    → HaveBegun next (entries ++ added ∷ [])
begun_put next [] added all here = (here, tt)
begun_put next (entry ∷ later) added all here = (all.0, begun_put next later added all.1 here)

begun_kept : (keep : Entry → Bool) (next : ℕ) (entries : List Entry) → HaveBegun next entries → HaveBegun next (filter keep entries)
begun_kept keep next [] all = tt
begun_kept keep next (entry ∷ later) all = by (keep entry) (begun_kept keep next later all.1)
  where
    by : (b : Bool) → HaveBegun next (filter keep later) → HaveBegun next (cond b (entry ∷ filter keep later) (filter keep later))
    by true rest = (all.0, rest)
    by false rest = rest

begun_changed : (test : Entry → Bool) (change : Entry → Entry) (next : ℕ) (entries : List Entry)
    → ((entry : Entry) → (change entry).generation ≡ entry.generation) → HaveBegun next entries → HaveBegun next (changed test change entries)
begun_changed test change next [] same all = tt
begun_changed test change next (entry ∷ later) same all = by (test entry) (begun_changed test change next later same all.1)
  where
    by : (b : Bool) → HaveBegun next (changed test change later)
        → HaveBegun next (cond b (change entry ∷ later) (entry ∷ changed test change later))
    by true rest = let here : (change entry).generation ≡ entry.generation = same entry in
        let before : entry.generation < next = all.0 in (omega arith, all.1)
    by false rest = (all.0, rest)

begun_found : (test : Entry → Bool) (next : ℕ) (entries : List Entry) (entry : Entry) → HaveBegun next entries → find test entries ≡ Some entry
    → entry.generation < next
begun_found test next [] entry all found = cc
begun_found test next (first ∷ later) entry all found = by (test first) found (begun_found test next later entry all.1)
  where
    by : (b : Bool) → cond b (Some first) (find test later) ≡ Some entry → (find test later ≡ Some entry → entry.generation < next)
        → entry.generation < next
    by true is rest = let same : first ≡ entry = cc in subst (λ (e : Entry). e.generation < next) same all.0
    by false is rest = rest is

pub orderly_changed : (ticket : Ticket) (registry : Registry) (change : Entry → Entry)
    → ((entry : Entry) → (change entry).generation ≡ entry.generation)
    → IsOrderly registry → IsOrderly (changed_for ticket change registry)
orderly_changed ticket registry change same all = begun_changed (is_of ticket) change registry.next registry.entries same all

pub orderly_forgotten : (registry : Registry) (partition name : List ℕ) → IsOrderly registry → IsOrderly (forgotten partition name registry)
orderly_forgotten registry partition name all = begun_kept (λ entry. not (has_name partition name entry)) registry.next registry.entries all

-- an admission gives a ticket of a generation that has begun
abbrev Gives : Ticket × Registry → Type 0
Gives given = (given.0.generation < given.1.next) × IsOrderly given.1

anew : (registry : Registry) (partition name : List ℕ) → IsOrderly registry → Gives (begun partition name registry)
anew registry partition name all = (
  omega arith,
  begun_put (registry.next + 1) (without_name partition name registry.entries) (fresh (partition, name) registry.next)
      (begun_more registry.next (without_name partition name registry.entries)
      (begun_kept (λ entry. not (has_name partition name entry)) registry.next registry.entries all))
      (omega arith),
)

onward : (registry : Registry) (partition name : List ℕ) (entry : Entry) → IsOrderly registry → entry.generation < registry.next
    → Gives (continued partition name entry registry)
onward registry partition name entry all here = (
  omega arith,
  begun_changed (has_name partition name) (followed registry.next) (registry.next + 1) registry.entries (λ _. refl)
      (begun_more registry.next registry.entries all),
)

pub orderly_admitted : (registry : Registry) (partition name : List ℕ) (existing : Bool) → IsOrderly registry
    → Gives (admitted partition name existing registry)
orderly_admitted registry partition name existing all =
    by existing (entry_of partition name registry) (λ entry found. begun_found (has_name partition name) registry.next registry.entries entry all found)
  where
    by : (existing : Bool) (found : Option Entry) → ((entry : Entry) → found ≡ Some entry → entry.generation < registry.next)
        → Gives (admitted_by partition name existing found registry)
    by false found begins = anew registry partition name all
    by true None begins = anew registry partition name all
    by true (Some entry) begins = onward registry partition name entry all (begins entry refl)
