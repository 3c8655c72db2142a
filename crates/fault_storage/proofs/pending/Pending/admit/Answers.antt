use Rattle.std.proofs.Common.{◌≡◌, ◌+◌, ℕ, Bool, true, false, Some, find, is_some, get_or, List, sym, ap, subst, ◌∙◌, arith}
use Rattle.std.proofs.lemmas.Bool.{and_right}
use Rattle.std.proofs.lemmas.Grind.{common_steps}
use Rattle.fault_storage.specs.declared.pending.Ticket.{Ticket}
use Rattle.fault_storage.specs.Pending.{
  Entry,
  Registry,
  IsFirst,
  has_name,
  changed,
  followed,
  fresh,
  next_ticket,
  failure_in,
  is_barred,
  admitted,
  admitted_by,
}
use Rattle.fault_storage.proofs.pending.Pending.admit.Goals as goal

-- an existing name is gone on with
going_on : (partition name : List ℕ) (existing : Bool) (old : Registry) (entries made : List Entry) (next place : ℕ) (ticket : Ticket)
    → record { entries = entries; next = next } ≡ old → existing ≡ true → IsFirst (has_name partition name) entries place
    → is_some (failure_in (find (has_name partition name) entries)) ≡ false
    → ((standing : Entry) → find (has_name partition name) entries ≡ Some standing → ticket ≡ next_ticket (partition, name) next standing)
    → made ≡ changed (has_name partition name) (followed next) entries
    → (is_barred partition name existing old ≡ false)
    × ((ticket, record { entries = made; next = next + 1 }) ≡ admitted partition name existing old)
going_on partition name existing old entries made next place ticket view asked at free gives makes =
    let standing : Entry = get_or entries place (fresh (partition, name) next) in
    let found : find (has_name partition name) entries ≡ Some standing = at.is (fresh (partition, name) next) in (
      and_right existing _ (ap (λ (r : Registry). is_some (failure_in (find (has_name partition name) r.entries))) (sym view) ∙ free),
      ap (λ (t : Ticket). (t, record { entries = made; next = next + 1 })) (gives standing found)
          ∙ ap (λ (e : List Entry). (next_ticket (partition, name) next standing, record { entries = e; next = next + 1 })) makes
          ∙ ap (λ f. admitted_by partition name true f (record { entries = entries; next = next })) (sym found)
          ∙ ap (λ b. admitted partition name b (record { entries = entries; next = next })) (sym asked)
          ∙ ap (admitted partition name existing) view,
    )

pub returns-in_ok-ticket-in-Some : goal.returns-in_ok-ticket-in-Some
returns-in_ok-ticket-in-Some c =
    let test = has_name c.args.partition.now c.args.name.now in
    let at : IsFirst test c.self.inside.standings.items c.in-Some.place =
    subst (λ (l : List Entry). IsFirst test l c.in-Some.place) c.deref.ensures.value c.in-Some.ensures.1 in
    let goes = going_on c.args.partition.now c.args.name.now c.args.existing c.args.self.now c.self.inside.standings.items
    c.follow_at.new.standings.items c.self.inside.next c.in-Some.place c.in_ok-ticket-in-Some.ticket c.self.view_is c.in-Some.ensures.0 at
    c.in_ok-ticket-in-Some.ensures.0 c.in_ok-ticket-in-Some.ensures.1 c.in_ok-ticket-in-Some.ensures.2 in
    (grind (arith, common_steps), goes.0, goes.1)
