-- Places that a test finds between two others are.
use Rattle.std.proofs.Common.{◌≡◌, ◌≤◌, ◌<◌, ◌&&◌, ℕ, Bool, true, false, List, [], ◌∷◌, nat_le, nat_lt, refl, subst}
use Rattle.std.specs.List.{list_all, AllByRecursion}
use borrow.Author.Tests.{leb-true, ltb-true}

both : (a b : Bool) → (a && b) ≡ true → (a ≡ true) × (b ≡ true)
both true true h = (refl, refl)
both true false h = cc
both false b h = cc

pub all_between : (first end : ℕ) (places : List ℕ) → list_all (λ at. nat_le first at && nat_lt at end) places ≡ true
    → AllByRecursion (λ at. (first ≤ at) × (at < end)) places
all_between first end [] all = tt
all_between first end (at ∷ places) all =
    let one = both (nat_le first at && nat_lt at end) (list_all (λ at. nat_le first at && nat_lt at end) places) all in
    let sides = both (nat_le first at) (nat_lt at end) one.0 in
    ((leb-true first at sides.0, ltb-true at end sides.1), all_between first end places one.1)

pub moved : {first start end stop : ℕ} {places others : List ℕ} → first ≡ start → end ≡ stop → places ≡ others
    → AllByRecursion (λ at. (first ≤ at) × (at < end)) places → AllByRecursion (λ at. (start ≤ at) × (at < stop)) others
moved {start = start} {end = end} {stop = stop} {places = places} one other same all =
    subst (λ list. AllByRecursion (λ at. (start ≤ at) × (at < stop)) list) same
    (subst (λ most. AllByRecursion (λ at. (start ≤ at) × (at < most)) places) other
    (subst (λ least. AllByRecursion (λ at. (least ≤ at) × (at < end)) places) one all))
