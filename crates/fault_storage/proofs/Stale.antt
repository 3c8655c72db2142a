-- Tickets of older generations.
use Rattle.std.proofs.Common.{◌≡◌, ◌<◌, ◌∷◌, ◌++◌, [], ℕ, Bool, true, false, not, cond}
use Rattle.std.proofs.Common.{◌&&◌, ◌==◌, Option, Some, None, List, filter, ap, refl, ◌∙◌, arith}
use Rattle.std.specs.Prelude.{find}
use Rattle.std.proofs.lemmas.Bool.{and_right, ne_eqb}
use Rattle.fault_storage.specs.declared.pending.Ticket.{Ticket}
use Rattle.fault_storage.specs.Opens.{is_name}
use Rattle.fault_storage.specs.Pending.{Entry, Registry, IsPast, is_of, has_name, changed, changed_for, without_name}
use Rattle.fault_storage.specs.Pending.{fresh, followed, begun, forgotten, continued, admitted, admitted_by, entry_of}

-- one that passes or not, before others of which none does
passed_by : (test : Entry → Bool) (entry : Entry) (later : List Entry) → test entry ≡ false → find test later ≡ None
    → find test (entry ∷ later) ≡ None
passed_by test entry later fails none = ap (λ b. cond b (Some entry) (find test later)) fails ∙ none

-- of entries of which none passes, neither the first does nor a later one
apart : (b : Bool) (entry : Entry) (found : Option Entry) → cond b (Some entry) found ≡ None → (b ≡ false) × (found ≡ None)
apart true entry found e = cc
apart false entry found e = (refl, e)

none_kept : (test keep : Entry → Bool) (entry : Entry) (later kept : List Entry) (here : Bool) → (here ≡ true → test entry ≡ false)
    → find test kept ≡ None
    → find test (cond here (entry ∷ kept) kept) ≡ None
none_kept test keep entry later kept true fails none = passed_by test entry kept (fails refl) none
none_kept test keep entry later kept false fails none = none

-- none passes of those that are kept, where none that passes is
pub none_left : (test keep : Entry → Bool) (entries : List Entry) → ((entry : Entry) → keep entry ≡ true → test entry ≡ false)
    → find test (filter keep entries) ≡ None
none_left test keep [] apart = refl
none_left test keep (entry ∷ later) apart =
    none_kept test keep entry later (filter keep later) (keep entry) (apart entry) (none_left test keep later apart)

-- nor where none did
pub none_more : (test keep : Entry → Bool) (entries : List Entry) → find test entries ≡ None → find test (filter keep entries) ≡ None
none_more test keep [] none = refl
none_more test keep (entry ∷ later) none =
    let both = apart (test entry) entry (find test later) none in
    none_kept test keep entry later (filter keep later) (keep entry) (λ _. both.0) (none_more test keep later both.1)

pub none_put : (test : Entry → Bool) (entries : List Entry) (added : Entry) → find test entries ≡ None → test added ≡ false
    → find test (entries ++ added ∷ []) ≡ None
none_put test [] added none fails = passed_by test added [] fails refl
none_put test (entry ∷ later) added none fails =
    let both = apart (test entry) entry (find test later) none in passed_by test entry (later ++ added ∷ []) both.0 (none_put test later added both.1 fails)

-- nor where one is changed in what the test does not look at
pub none_changed : (test other : Entry → Bool) (change : Entry → Entry) (entries : List Entry) → ((entry : Entry) → test (change entry) ≡ test entry)
    → find test entries ≡ None → find test (changed other change entries) ≡ None
none_changed test other change [] same none = refl
none_changed test other change (entry ∷ later) same none =
    let both = apart (test entry) entry (find test later) none in
    by (other entry) (passed_by test (change entry) later (same entry ∙ both.0) both.1)
    (passed_by test entry (changed other change later) both.0 (none_changed test other change later same both.1))
  where
    by : (b : Bool) → find test (change entry ∷ later) ≡ None → find test (entry ∷ changed other change later) ≡ None
        → find test (cond b (change entry ∷ later) (entry ∷ changed other change later)) ≡ None
    by true here further = here
    by false here further = further

-- a name that is kept is not that of the ticket
other_name : (ticket : Ticket) (entry : Entry) → not (has_name ticket.name.0 ticket.name.1 entry) ≡ true → is_of ticket entry ≡ false
other_name ticket entry kept = by (has_name ticket.name.0 ticket.name.1 entry) kept
  where
    by : (b : Bool) → not b ≡ true → (b && (entry.generation == ticket.generation)) ≡ false
    by true is = cc
    by false is = refl

-- a generation that begins is not that of a ticket that was given
later_generation : (ticket : Ticket) (name : List ℕ × List ℕ) (number : ℕ) → ticket.generation < number → is_of ticket (fresh name number) ≡ false
later_generation ticket name number given =
    and_right (is_name ticket.name.0 ticket.name.1 name) (number == ticket.generation) (ne_eqb number ticket.generation (λ e. omega arith))

pub past_begun : (ticket : Ticket) (registry : Registry) → ticket.generation < registry.next → IsPast ticket (begun ticket.name.0 ticket.name.1 registry).1
past_begun ticket registry given = record {
  given = omega arith;
  stale = none_put (is_of ticket) (without_name ticket.name.0 ticket.name.1 registry.entries) (fresh ticket.name registry.next)
      (none_left (is_of ticket) (λ entry. not (has_name ticket.name.0 ticket.name.1 entry)) registry.entries (other_name ticket))
      (later_generation ticket ticket.name registry.next given);
}

pub past_forgotten : (ticket : Ticket) (registry : Registry) → ticket.generation < registry.next
    → IsPast ticket (forgotten ticket.name.0 ticket.name.1 registry)
past_forgotten ticket registry given = record {
  given = given;
  stale = none_left (is_of ticket) (λ entry. not (has_name ticket.name.0 ticket.name.1 entry)) registry.entries (other_name ticket);
}

pub past_forgetting : (ticket : Ticket) (registry : Registry) (partition name : List ℕ) → IsPast ticket registry
    → IsPast ticket (forgotten partition name registry)
past_forgetting ticket registry partition name past = record {
  given = past.given;
  stale = none_more (is_of ticket) (λ entry. not (has_name partition name entry)) registry.entries past.stale;
}

pub past_changed : (ticket : Ticket) (registry : Registry) (other : Ticket) (change : Entry → Entry)
    → ((entry : Entry) → is_of ticket (change entry) ≡ is_of ticket entry) → IsPast ticket registry
    → IsPast ticket (changed_for other change registry)
past_changed ticket registry other change same past = record {
  given = past.given;
  stale = none_changed (is_of ticket) (is_of other) change registry.entries same past.stale;
}

past_anew : (ticket : Ticket) (registry : Registry) (partition name : List ℕ) → IsPast ticket registry → IsPast ticket (begun partition name registry).1
past_anew ticket registry partition name past =
    let given : ticket.generation < registry.next = past.given in record {
      given = omega arith;
      stale = none_put (is_of ticket) (without_name partition name registry.entries) (fresh (partition, name) registry.next)
          (none_more (is_of ticket) (λ entry. not (has_name partition name entry)) registry.entries past.stale)
          (later_generation ticket (partition, name) registry.next given);
    }

past_continued : (ticket : Ticket) (registry : Registry) (partition name : List ℕ) (entry : Entry) → IsPast ticket registry
    → IsPast ticket (continued partition name entry registry).1
past_continued ticket registry partition name entry past =
    let given : ticket.generation < registry.next = past.given in record {
      given = omega arith;
      stale = none_changed (is_of ticket) (has_name partition name) (followed registry.next) registry.entries (λ _. refl) past.stale;
    }

pub past_admitting : (ticket : Ticket) (registry : Registry) (partition name : List ℕ) (existing : Bool) → IsPast ticket registry
    → IsPast ticket (admitted partition name existing registry).1
past_admitting ticket registry partition name existing past = by existing (entry_of partition name registry)
  where
    by : (existing : Bool) (found : Option Entry) → IsPast ticket (admitted_by partition name existing found registry).1
    by false found = past_anew ticket registry partition name past
    by true None = past_anew ticket registry partition name past
    by true (Some entry) = past_continued ticket registry partition name entry past
