-- The debts of names. A name that is admitted anew begins a generation, and later opens of it are of that generation
-- until the next one begins. An open has a ticket, with its generation and a number that no other open has; a
-- generation has the number of its first open.
use Rattle.std.specs.Prelude.{◌≡◌, ⊤, ℕ, ◌+◌, ◌-◌, ◌^◌, ◌<◌}
use Rattle.std.specs.Prelude.{◌⊎◌, ◌==◌, ◌&&◌, Bool, true, false, not, if◌then◌else◌}
use Rattle.std.specs.Prelude.{Option, Some, None, is_some, Result, MatchResult, List, [], ◌∷◌, ◌++◌, filter, find}
use Rattle.std.specs.Prelude.{length, slice_index_or, slice_set}
use Rattle.std.specs.List.{list_any}
use Rattle.fault_storage_parts.specs.declared.error.Error.{Error}
use Rattle.fault_storage_parts.specs.declared.error.Error.TheVariants.{NumberEnded, Memory, Retained}
use Rattle.fault_storage.specs.declared.pending.Ticket.{Ticket}
use Rattle.fault_storage.specs.Opens.{Name, is_name}

-- what stands of a name: its generation, its latest open, the opens of the generation that are not settled, whether
-- there is a debt, and the failure that is retained
pub record Entry : Type 0 where
  pub name : Name
  pub generation : ℕ
  pub latest : ℕ
  pub unsettled : List ℕ
  pub debt : Bool
  pub failure : Option Error

-- what stands of names, and the number that the next open has
pub record Registry : Type 0 where
  pub entries : List Entry
  pub next : ℕ

abbrev pub has_name : List ℕ → List ℕ → Entry → Bool
has_name partition name entry = is_name partition name entry.name

-- whether a ticket is one of the generation that its name is in
abbrev pub is_of : Ticket → Entry → Bool
is_of ticket entry = is_name ticket.name.0 ticket.name.1 entry.name && (entry.generation == ticket.generation)

-- what stands of a name, and what stands of a ticket's name, where that is in the ticket's generation
abbrev pub entry_of : List ℕ → List ℕ → Registry → Option Entry
entry_of partition name registry = find (has_name partition name) registry.entries

abbrev pub entry_for : Ticket → Registry → Option Entry
entry_for ticket registry = find (is_of ticket) registry.entries

-- a ticket of an older generation: its name was begun anew since, or forgotten
abbrev pub IsStale : Ticket → Registry → Type 0
IsStale ticket registry = entry_for ticket registry ≡ None

-- whether there is a debt
abbrev pub has_debt : Option Entry → Bool
has_debt None = false
has_debt (Some entry) = entry.debt

-- the failure that is retained
abbrev pub failure_in : Option Entry → Option Error
failure_in None = None
failure_in (Some entry) = entry.failure

-- whether an open is settled, by its number
abbrev pub is_settled_in : ℕ → Entry → Bool
is_settled_in number entry = not (list_any (λ other. other == number) entry.unsettled)

-- whether the open before one is settled: there is none, or it is settled, or no open of its generation counts any more
abbrev pub has_settled : Option ℕ → Option Entry → Bool
has_settled None found = true
has_settled (Some before) None = true
has_settled (Some before) (Some entry) = is_settled_in before entry

-- the entries with the first that passes changed
abbrev pub changed : (Entry → Bool) → (Entry → Entry) → List Entry → List Entry
changed test change [] = []
changed test change (entry ∷ later) = if test entry then change entry ∷ later else entry ∷ changed test change later

-- what stands of a ticket's name changed, where that is in the ticket's generation
abbrev pub changed_for : Ticket → (Entry → Entry) → Registry → Registry
changed_for ticket change registry = record registry { entries = changed (is_of ticket) change registry.entries }

-- an open is settled
abbrev pub settled : ℕ → Entry → Entry
settled number entry = record entry { unsettled = filter (λ other. not (other == number)) entry.unsettled }

-- the debt is ended by the latest open, where no failure is retained
abbrev pub cleared : ℕ → Entry → Entry
cleared number entry =
    record entry { debt = (if (entry.latest == number) && not (is_some entry.failure) then false else entry.debt) }

-- a failure is retained, in place of an earlier one, and a debt recorded
abbrev pub failed : Error → Entry → Entry
failed failure entry = record entry { debt = true; failure = Some failure }

-- a further open in the generation
abbrev pub followed : ℕ → Entry → Entry
followed number entry = record entry { latest = number; unsettled = entry.unsettled ++ number ∷ [] }

-- without a name
abbrev pub without_name : List ℕ → List ℕ → List Entry → List Entry
without_name partition name entries = filter (λ entry. not (has_name partition name entry)) entries

abbrev pub forgotten : List ℕ → List ℕ → Registry → Registry
forgotten partition name registry = record registry { entries = without_name partition name registry.entries }

-- a name in a new generation, with neither debt nor failure
abbrev pub fresh : Name → ℕ → Entry
fresh name number = record {
  name = name;
  generation = number;
  latest = number;
  unsettled = number ∷ [];
  debt = false;
  failure = None;
}

abbrev pub first_ticket : Name → ℕ → Ticket
first_ticket name number = record { name = name; generation = number; number = number; before = None }

abbrev pub begun : List ℕ → List ℕ → Registry → Ticket × Registry
begun partition name registry = (
  first_ticket (partition, name) registry.next,
  record {
    entries = without_name partition name registry.entries ++ fresh (partition, name) registry.next ∷ [];
    next = registry.next + 1;
  },
)

-- a further open of a name, behind the latest
abbrev pub next_ticket : Name → ℕ → Entry → Ticket
next_ticket name number entry = record {
  name = name;
  generation = entry.generation;
  number = number;
  before = Some entry.latest;
}

abbrev pub continued : List ℕ → List ℕ → Entry → Registry → Ticket × Registry
continued partition name entry registry = (
  next_ticket (partition, name) registry.next entry,
  record {
    entries = changed (has_name partition name) (followed registry.next) registry.entries;
    next = registry.next + 1;
  },
)

-- what an admission gives: a new generation, or where an existing name is asked for, a further open of it, if there is
-- one
abbrev pub admitted_by : List ℕ → List ℕ → Bool → Option Entry → Registry → Ticket × Registry
admitted_by partition name false found registry = begun partition name registry
admitted_by partition name true None registry = begun partition name registry
admitted_by partition name true (Some entry) registry = continued partition name entry registry

abbrev pub admitted : List ℕ → List ℕ → Bool → Registry → Ticket × Registry
admitted partition name existing registry =
    admitted_by partition name existing (entry_of partition name registry) registry

-- an existing name is asked for, of which a failure is retained
abbrev pub is_barred : List ℕ → List ℕ → Bool → Registry → Bool
is_barred partition name existing registry = existing && is_some (failure_in (entry_of partition name registry))

-- what an admission answers, and why it is refused
abbrev pub Admits : List ℕ → List ℕ → Bool → Registry → Result Ticket Error → Registry → Type 0
Admits partition name existing old result new = MatchResult result
    (λ ticket. (old.next < 2 ^ 64 - 1) × (is_barred partition name existing old ≡ false)
    × ((ticket, new) ≡ admitted partition name existing old))
    (λ e. (new ≡ old)
    × (((e ≡ NumberEnded) × (old.next ≡ 2 ^ 64 - 1))
    ⊎ ((e ≡ Retained) × (old.next < 2 ^ 64 - 1) × (is_barred partition name existing old ≡ true))
    ⊎ ((e ≡ Memory) × (old.next < 2 ^ 64 - 1) × (is_barred partition name existing old ≡ false))))

-- a ticket that was given, and is of an older generation
pub record IsPast (ticket : Ticket) (registry : Registry) : Type 0 where
  pub given : ticket.generation < registry.next
  pub stale : IsStale ticket registry

-- the generations of these have begun: their numbers were given
abbrev pub HaveBegun : ℕ → List Entry → Type 0
HaveBegun next [] = ⊤
HaveBegun next (entry ∷ later) = (entry.generation < next) × HaveBegun next later

abbrev pub IsOrderly : Registry → Type 0
IsOrderly registry = HaveBegun registry.next registry.entries

-- the place of the first entry that passes
pub record IsFirst (test : Entry → Bool) (entries : List Entry) (place : ℕ) : Type 0 where
  pub within : place < length entries
  pub is : (d : Entry) → find test entries ≡ Some (slice_index_or entries place d)
  pub change : (change : Entry → Entry) (d : Entry)
      → changed test change entries ≡ slice_set entries place (change (slice_index_or entries place d))
