-- Which chunks have the bits of a range, and what a log gives of one.
use Rattle.std.proofs.Common.{◌≡◌, ℕ, zero, suc, ◌+◌, ◌-◌, ◌*◌, ◌/◌, ◌<◌, ◌≤◌, List, [], ◌∷◌, ◌++◌, append_assoc}
use Rattle.std.proofs.Common.{append-nil, length, take, drop, get_or, Result, Ok, Err, refl, sym, ◌∙◌, ap, arith}
use Rattle.std.specs.Prelude.{IfOk, OnOk}
use Rattle.std.proofs.Math.Nat.{div-le_self, div-mul-le_self, mul-div-le, mul-le-mul_left}
use Rattle.std.proofs.lemmas.List.{drop_more}
use Rattle.std.proofs.lemmas.Nat.{le-div}
use Rattle.std.specs.List.{AllByRecursion, range_with_len}
use Rattle.state_proofs.specs.Requests.{AreAscending, at_places}

ordered : (bits start stop : ℕ) → 0 < bits → start < stop → start / bits ≤ (stop - 1) / bits
ordered bits start stop some lt = le-div (start / bits) (stop - 1) bits some (omega (arith, div-mul-le_self start bits, lt))

-- each of the chunks has a bit before the end
pub begins_inside : (bits start stop index : ℕ) → 0 < bits → start < stop → index < start / bits + ((stop - 1) / bits + 1 - start / bits)
    → bits * index < stop
begins_inside bits start stop index some lt below =
    let low : index ≤ (stop - 1) / bits = omega (arith, ordered bits start stop some lt, below) in
    omega (arith, mul-le-mul_left bits low, mul-div-le (stop - 1) bits, lt)

-- and they are no more than the operations before the end
pub few_chunks : (bits start stop : ℕ) → 0 < bits → start < stop → start / bits + ((stop - 1) / bits + 1 - start / bits) ≤ stop
few_chunks bits start stop some lt = omega (arith, ordered bits start stop some lt, div-le_self (stop - 1) bits, lt)

-- the places from one on ascend
pub ascending : (n start least : ℕ) → least ≤ start → AreAscending least (range_with_len start n)
ascending zero start least le = tt
ascending (suc n) start least le = (le, ascending n (start + 1) (start + 1) (omega arith))

-- where all of them are a list's, they end in it
pub all_inside : (n start len : ℕ) → 0 < n → AllByRecursion (λ place. place < len) (range_with_len start n) → start + n ≤ len
all_inside zero start len some all = absurd (omega (arith, some))
all_inside (suc zero) start len some all = omega (arith, all.0)
all_inside (suc (suc n)) start len some all = omega (arith, all_inside (suc n) (start + 1) len (omega arith) all.1)

-- and there stand that many items of it, from the first on
pub part_of_list : (items : List (List ℕ)) (n start : ℕ) → start + n ≤ length items
    → at_places items (range_with_len start n) ≡ take n (drop start items)
part_of_list items zero start le = refl
part_of_list items (suc n) start le =
    ap (λ (later : List (List ℕ)). get_or items start [] ∷ later) (part_of_list items n (start + 1) (omega (arith, le)))
    ∙ sym (ap (take (suc n)) (drop_more items start [] (omega (arith, le))))

-- one place more, and those that are left
pub places_go_on : (front : List ℕ) (place stop : ℕ) (total : List ℕ) → place < stop → front ++ range_with_len place (stop - place) ≡ total
    → (front ++ place ∷ []) ++ range_with_len (place + 1) (stop - (place + 1)) ≡ total
places_go_on front place stop total lt so_far =
    let left : stop - place ≡ suc (stop - (place + 1)) = omega arith in
    append_assoc front (place ∷ []) (range_with_len (place + 1) (stop - (place + 1)))
    ∙ ap (λ n. front ++ range_with_len place n) (sym left) ∙ so_far

pub places_end : (front : List ℕ) (place stop : ℕ) (total : List ℕ) → stop ≤ place → front ++ range_with_len place (stop - place) ≡ total
    → front ≡ total
places_end front place stop total le so_far =
    let left : stop - place ≡ 0 = omega arith in
    sym (append-nil front) ∙ ap (λ n. front ++ range_with_len place n) (sym left) ∙ so_far

-- what is said of an answer, said otherwise
pub on_ok_as : {A E : Type 0} (outcome : Result A E) (P Q : Type 0) → OnOk outcome P → (P → Q) → OnOk outcome Q
on_ok_as (Ok x) P Q is then = then is
on_ok_as (Err e) P Q is then = tt

pub ok_with : {A E : Type 0} (outcome : Result A E) (P : A → Type 0) (R : Type 0) (Q : A → Type 0) → IfOk outcome P → OnOk outcome R
    → ((x : A) → P x → R → Q x) → IfOk outcome Q
ok_with (Ok x) P R Q is on then = then x is on
ok_with (Err e) P R Q is on then = tt
